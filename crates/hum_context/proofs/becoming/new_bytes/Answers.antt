use Rattle.std.proofs.Common.{◌∙◌, sym, ap, refl, length, ◌+◌, ◌∷◌}
use Rattle.std.specs.List.{join_with_byte}
use lib.Chars.{codes}
use Rattle.hum_score.specs.declared.records.SpinedKind.TheVariants.{Values}
use Rattle.hum_score.specs.Row.{Row, Spined, token_at}
use Rattle.hum_context.proofs.Measured.{taken_bytes}
use Rattle.hum_context.proofs.Weighing.{kept_at}
use Rattle.hum_context.proofs.becoming.new_bytes.Goals as goal

pub returns-in-Stays-clause-bytes : goal.returns-in-Stays-clause-bytes
returns-in-Stays-clause-bytes c o path tokens rows want none knows becomes =
    let known = kept_at o path c.args.held.now.items c.args.k (Spined Values tokens) rows
    c.index.result.now knows c.requires.within c.index.ensures in (
      token_at (Spined Values tokens) c.args.j,
      rw c.in-Stays.is at becomes,
      sym (c.bytes.ensures.bytes ∙ ap (λ (r : Row). length (token_at r c.args.j) + 1) known.is),
    )

pub returns-in-Null-clause-bytes : goal.returns-in-Null-clause-bytes
returns-in-Null-clause-bytes c o path tokens rows want none knows becomes =
    (codes ".", rw c.in-Null.is at becomes, refl)

pub returns-in-Collects-clause-bytes : goal.returns-in-Collects-clause-bytes
returns-in-Collects-clause-bytes c o path tokens rows want none knows becomes =
    let b = rw c.in-Collects.is at becomes in (
      join_with_byte 32 b.0,
      b.2,
      taken_bytes o.extent _ b.0 none b.1
          ∙ sym (c.measure.ensures.size o path (Spined Values tokens ∷ rows) want none knows b.0 b.1),
    )

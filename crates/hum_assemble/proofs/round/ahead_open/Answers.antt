use Rattle.std.proofs.Common.{◌≡◌, ◌+◌, sym, refl, arith}
use Rattle.std.specs.Prelude.{Some}
use Rattle.hum_assemble.proofs.Asking.{first_behind}
use Rattle.hum_assemble.proofs.round.ahead_open.Goals as goal

pub returns-then-is_first_missing : goal.returns-then-is_first_missing
returns-then-is_first_missing c =
    let first = first_behind c.args.going c.args.known c.args.sources.now (Some 0) c.requires.known
    (sym (rw c.split_at.ensures.back at c.is_first_missing.ensures c.if-is_first_missing.true)) in
    let same : c.args.known + 0 ≡ c.args.known = omega arith in
    rw (first, same) refl

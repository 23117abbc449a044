use Rattle.std.proofs.lemmas.Bool.Decides.{nat_tests}
use Rattle.std.proofs.Common.{◌≡◌, ◌∙◌, sym, ap, refl, replicate, arith}
use Rattle.hum_assemble.specs.Source.{Source}
use Rattle.hum_assemble.specs.Head.{coming}
use Rattle.hum_score.specs.Row.{tokens_of}
use Rattle.hum_record.specs.Nulls.{nulls as nulls_of_kind}
use Rattle.hum_score.specs.Spines.{width}
use Rattle.hum_assemble.specs.Places.{null_at}
use Rattle.hum_assemble.specs.Merge.{nulls, part_given}
use Rattle.hum_assemble.proofs.Pushing.{first_added}
use Rattle.hum_assemble.proofs.Taking.{part_spined, part_tokens}
use Rattle.hum_assemble.proofs.source_head.SourceHead.push_part.Goals as goal

pub push_row-requires-clause-spined : goal.push_row-requires-clause-spined
push_row-requires-clause-spined c =
    part_spined c.requires.taken.0 c.requires.taken.1 c.args.p c.args.self.now c.in-Some.head.row _
    c.requires.kind c.requires.lawful
    (ap (λ (s : Source). s.coming) (sym c.self.view_is) ∙ ap coming c.in-Some.is)
    (sym c.requires.taken.2 ∙ c.if-not-taken.false)

pub push_row-requires-clause-tokens : goal.push_row-requires-clause-tokens
push_row-requires-clause-tokens c =
    part_tokens c.requires.taken.0 c.requires.taken.1 c.args.p c.args.self.now c.in-Some.head.row _
    c.requires.kind c.requires.lawful
    (ap (λ (s : Source). s.coming) (sym c.self.view_is) ∙ ap coming c.in-Some.is)
    (sym c.requires.taken.2 ∙ c.if-not-taken.false)

pub returns-in-None : goal.returns-in-None
returns-in-None = grind (arith, nat_tests, first_added)

pub returns-in-Some : goal.returns-in-Some
returns-in-Some c =
    let coming = sym (ap (λ (s : Source). s.coming) c.self.view_is) ∙ ap coming c.in-Some.is in
    let part : part_given c.args.taken c.args.p c.args.self.now ≡ tokens_of c.in-Some.head.row =
    rw (c.if-not-taken.false, coming) refl in
    rw part c.push_row.ensures

pub push_nulls-requires : goal.push_nulls-requires
push_nulls-requires = grind (arith, nat_tests)

pub returns-then-not-taken : goal.returns-then-not-taken
returns-then-not-taken c =
    let part : part_given c.args.taken c.args.p c.args.self.now ≡ nulls_of_kind c.args.builder.now.kind c.width.result =
    rw c.if-not-taken.true (ap (λ (s : Source). nulls c.args.p s) (sym c.self.view_is)
    ∙ sym (ap (λ n. nulls_of_kind c.args.builder.now.kind n) c.width.ensures.width
    ∙ ap (λ t. replicate (width c.self.inside.paths.path) (null_at t)) (sym c.requires.kind))) in
    rw part c.push_nulls.ensures

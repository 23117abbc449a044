use Rattle.std.proofs.Common.{length, arith, ap, ◌∙◌}
use Rattle.std.proofs.lemmas.Str.Pattern.{split_parts}
use Rattle.hum_words.specs.Branches.{lines_of}
use Rattle.hum_words.proofs.Divided.{none_is, first_ended, last_line}
use Rattle.hum_words.proofs.branches.first_line.Goals as goal

pub returns-in-Some-clause-first : goal.returns-in-Some-clause-first
returns-in-Some-clause-first c =
    let parts = rw c.in-Some.is at (split_parts 10 c.args.text.now c.split_once.result
    c.split_once.ensures.cases (omega arith)) in
    ap lines_of parts.0 ∙ first_ended c.in-Some.line.now c.in-Some.rest.now (none_is 10 _ parts.1)

pub returns-in-None-clause-first : goal.returns-in-None-clause-first
unfolding lines_of
returns-in-None-clause-first c =
    let none = rw c.in-None.is at (split_parts 10 c.args.text.now c.split_once.result
    c.split_once.ensures.cases (omega arith)) in
    last_line c.args.text.now (λ e. absurd (omega (arith, ap length e, c.requires)))
    (none_is 10 _ none)

use Rattle.std.proofs.lemmas.Bool.Decides.{nat_tests}
use Rattle.std.proofs.Common.{◌∙◌, sym, ap, length, rules, arith}
use Rattle.hum_words.proofs.Divided.{passed, met, no_branches}
use Rattle.hum_words.proofs.branches.LinesIterator.next.Goals as goal

pub returns-then-not-is_skipped-clause-steps : goal.returns-then-not-is_skipped-clause-steps
returns-then-not-is_skipped-clause-steps c =
    let before = c.loop-line.self in
    let after = c.first_line.result.1.now in
    sym c.loop-line.invariant
    ∙ met before.number before.rest.now _ c.strip_cr-text.result.now after
    c.first_line.ensures.first c.strip_cr-text.ensures.value (search rules)

pub returns-then-not-is_skipped-clause-goes : goal.returns-then-not-is_skipped-clause-goes
returns-then-not-is_skipped-clause-goes c =
    let before = c.loop-line.self in
    let after = c.first_line.result.1.now in
    let here = met before.number before.rest.now _ c.strip_cr-text.result.now after
    c.first_line.ensures.first c.strip_cr-text.ensures.value (search rules) in
    let left = sym c.loop-line.invariant ∙ here in
    record { on = λ f. (tt, tt, omega (arith, ap length left)); keeps = tt; rests = λ f. tt }

pub loop-line-preserved : goal.loop-line-preserved
loop-line-preserved c =
    let before = c.loop-line.self in
    let after = c.first_line.result.1.now in
    sym (passed before.number before.rest.now _ c.strip_cr-text.result.now after
    c.first_line.ensures.first c.strip_cr-text.ensures.value (search rules))
    ∙ c.loop-line.invariant

pub returns-clause-steps : goal.returns-clause-steps
returns-clause-steps = grind (arith, nat_tests, no_branches)

use Rattle.std.proofs.lemmas.Bool.Decides.{nat_tests}
use Rattle.hum_words.proofs.Texts.{too_long, a_text, no_utf8}
use Rattle.std.proofs.Common.{ap, ◌+◌, arith}
use Rattle.hum_words.proofs.text.plan_text.Goals as goal

pub returns-then-bytes-gt-LONGEST_PLAN-clause-exact : goal.returns-then-bytes-gt-LONGEST_PLAN-clause-exact
returns-then-bytes-gt-LONGEST_PLAN-clause-exact c = too_long c.args.bytes.now c.if-bytes-gt-LONGEST_PLAN.true

pub returns-in-Ok-clause-exact : goal.returns-in-Ok-clause-exact
returns-in-Ok-clause-exact = grind (arith, nat_tests, a_text)

pub returns-in-Err-clause-exact : goal.returns-in-Err-clause-exact
returns-in-Err-clause-exact c =
    no_utf8 c.args.bytes.now c.valid_up_to.result (c.line_ends.result + 1)
    c.if-bytes-gt-LONGEST_PLAN.false
    c.in-Err.ensures.cases.0 (rw c.valid_up_to.ensures c.in-Err.ensures.valid_len)
    (ap (λ n. n + 1) c.line_ends.ensures.value)

use Rattle.std.proofs.Common.{◌≡◌, true, rules}
use Rattle.std.specs.Prelude.{slice_index_or}
use Rattle.hum_yank.specs.Passages.{is_digit}
use Rattle.hum_yank.proofs.Digits.{goes_over}
use Rattle.hum_yank.proofs.marking.value_at_front.Goals as goal

pub returns-then-value-gt-GREATEST_PASSAGE : goal.returns-then-value-gt-GREATEST_PASSAGE
returns-then-value-gt-GREATEST_PASSAGE c =
    let digit : is_digit (slice_index_or c.loop-rest.rest.now 0 0) ≡ true = search rules in
    goes_over c.loop-rest.value _ c.loop-rest.rest.now c.in-len1-up.len_at_least digit
    c.if-value-gt-GREATEST_PASSAGE.true c.loop-rest.invariant.0

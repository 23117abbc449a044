use Rattle.std.proofs.Common.{◌≡◌, ◌≤◌, length}
use Rattle.std.specs.List.{take_while}
use Rattle.hum_yank.specs.Passages.{is_digit, value_of}
use Rattle.hum_yank.proofs.marking.value_at_front.Given as goal

abbrev pub invariant-loop-rest : goal.invariant-loop-rest
invariant-loop-rest l =
    (value_of l.value (take_while is_digit l.rest) ≡ value_of 0 (take_while is_digit l.text))
    × (l.value ≤ 4294967295)

abbrev pub decreases-loop-rest : goal.decreases-loop-rest
decreases-loop-rest l = length l.rest

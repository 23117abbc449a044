use Rattle.std.proofs.Common.{◌≡◌}
use Rattle.std.specs.List.{find}
use Rattle.hum_score.specs.Row.{tokens_of}
use Rattle.hum_pattern.specs.Meaning.{first_end}
use Rattle.hum_yank.specs.Passages.{passes, has_match}
use Rattle.hum_yank.proofs.marking.first_by_number.Given as goal

abbrev pub invariant-loop-token : goal.invariant-loop-token
invariant-loop-token l =
    (l.pattern ≡ l.initial.pattern)
    × (find (passes (has_match (first_end l.pattern))) l.token-iterator
    ≡ find (passes (has_match (first_end l.pattern))) (tokens_of l.row))

use Rattle.std.proofs.Common.{◌≡◌}
use Rattle.std.specs.List.{list_any}
use Rattle.hum_score.specs.Row.{tokens_of}
use Rattle.hum_pattern.specs.Meaning.{matched}
use Rattle.hum_yank.specs.Passages.{passes}
use Rattle.hum_yank.proofs.marking.any_passes.Given as goal

abbrev pub invariant-loop-token : goal.invariant-loop-token
invariant-loop-token l =
    (l.pattern ≡ l.initial.pattern)
    × (list_any (passes (matched l.pattern)) l.token-iterator
    ≡ list_any (passes (matched l.pattern)) (tokens_of l.row))

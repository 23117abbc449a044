use Rattle.std.proofs.Common.{◌≡◌, length}
use Rattle.std.specs.List.{list_any}
use Rattle.hum_kern.specs.Duration.{duration, is_refused}
use Rattle.hum_timebase.specs.Notes.{subtokens, first_duration, or_else}
use Rattle.hum_timebase.specs.Reading.{rest_parts}
use Rattle.hum_timebase.proofs.notes.first_of_parts.Given as goal

abbrev pub invariant-loop-left : goal.invariant-loop-left
invariant-loop-left l = record {
  value : or_else l.found (first_duration (rest_parts l.left)) ≡ first_duration (subtokens l.token);
  read : list_any (λ part. is_refused (duration part)) (rest_parts l.left) ≡ list_any (λ part. is_refused (duration part)) (subtokens l.token);
}

abbrev pub decreases-loop-left : goal.decreases-loop-left
decreases-loop-left l = length l.left

use Rattle.std.proofs.Common.{◌≡◌, ◌++◌, drop, map}
use Rattle.hum_score.specs.Spines.{exclusives}
use Rattle.hum_timebase.specs.Notes.{is_timed}
use Rattle.hum_timebase.proofs.notes.timed_in.Given as goal

abbrev pub invariant-loop-j : goal.invariant-loop-j
invariant-loop-j l =
    l.timed.items ++ map is_timed (drop l.j (exclusives l.paths.path)) ≡ map is_timed (exclusives l.paths.path)

use Rattle.std.proofs.Common.{◌≡◌, ◌++◌, drop, map}
use Rattle.hum_score.specs.Row.{tokens_of}
use Rattle.hum_score.specs.Spines.{exclusives}
use Rattle.hum_timebase.specs.Notes.{is_timed, own_names}
use Rattle.hum_timebase.proofs.notes.timed_at.Given as goal

abbrev pub invariant-loop-j : goal.invariant-loop-j
invariant-loop-j l =
    let names = exclusives l.paths.path in
    let tokens = tokens_of l.row in
    l.timed.items ++ map is_timed (own_names (drop l.j names) (drop l.j tokens)) ≡ map is_timed (own_names names tokens)

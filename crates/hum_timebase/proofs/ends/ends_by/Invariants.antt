use Rattle.std.proofs.Common.{◌≡◌, ◌++◌, drop, map}
use Rattle.hum_timebase.specs.Kept.{end_by}
use Rattle.hum_timebase.proofs.ends.ends_by.Given as goal

abbrev pub invariant-loop-i : goal.invariant-loop-i
invariant-loop-i l =
    l.next.items ++ map (λ move. end_by 0 move l.ends) (drop l.i l.found) ≡ map (λ move. end_by 0 move l.ends) l.found

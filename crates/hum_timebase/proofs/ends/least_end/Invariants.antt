use Rattle.std.proofs.Common.{◌≡◌, ◌++◌, length}
use Rattle.std.specs.Prelude.{List, Option, Some}
use Rattle.hum_frac.specs.Ratio.{Ratio}
use Rattle.hum_timebase.specs.Ends.{next_end}
use Rattle.hum_timebase.proofs.ends.least_end.Given as goal

abbrev pub invariant-loop-left : goal.invariant-loop-left
invariant-loop-left l =
    (passed : List (Option Ratio)) × (l.left ++ passed ≡ l.ends) × ((behind : List (Option Ratio)) → next_end l.time behind ≡ Some l.fn.known
    → next_end l.time (passed ++ behind) ≡ Some l.least)

abbrev pub decreases-loop-left : goal.decreases-loop-left
decreases-loop-left l = length l.left

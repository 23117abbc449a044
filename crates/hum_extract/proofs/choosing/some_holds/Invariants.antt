use Rattle.std.proofs.Common.{◌≡◌, drop, map}
use Rattle.std.specs.List.{list_any}
use Rattle.hum_extract.specs.Choice.{holds}
use Rattle.hum_choices.specs.Extract.{range_of}
use Rattle.hum_extract.proofs.choosing.some_holds.Given as goal

abbrev pub invariant-loop-range : goal.invariant-loop-range
invariant-loop-range l =
    list_any (holds l.width l.n) (map range_of (drop l.range-index l.ranges)) ≡ list_any (holds l.width l.n) (map range_of l.ranges)

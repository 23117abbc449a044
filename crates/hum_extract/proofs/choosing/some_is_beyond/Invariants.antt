use Rattle.std.proofs.Common.{◌≡◌, drop, map}
use Rattle.std.specs.List.{list_any}
use Rattle.hum_extract.specs.Choice.{is_beyond}
use Rattle.hum_choices.specs.Extract.{range_of}
use Rattle.hum_extract.proofs.choosing.some_is_beyond.Given as goal

abbrev pub invariant-loop-range : goal.invariant-loop-range
invariant-loop-range l =
    list_any (is_beyond l.width) (map range_of (drop l.range-index l.ranges)) ≡ list_any (is_beyond l.width) (map range_of l.ranges)

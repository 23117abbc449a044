use Rattle.std.proofs.Common.{◌≡◌, drop}
use Rattle.std.specs.List.{list_any}
use Rattle.std.specs.Str.{bytes_eq}
use Rattle.hum_score.specs.Texts.{texts}
use Rattle.hum_extract.proofs.choosing.some_is.Given as goal

abbrev pub invariant-loop-other : goal.invariant-loop-other
invariant-loop-other l =
    list_any (bytes_eq l.name) (texts (drop l.other-index l.names)) ≡ list_any (bytes_eq l.name) (texts l.names)

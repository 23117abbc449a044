use Rattle.std.proofs.Common.{◌≡◌, ◌++◌, drop}
use Rattle.hum_score.specs.Texts.{texts}
use Rattle.hum_choices.proofs.extract.copied_names.Given as goal

abbrev pub invariant-loop-name : goal.invariant-loop-name
invariant-loop-name l = texts l.copy.items ++ texts (drop l.name-index l.names) ≡ texts l.names

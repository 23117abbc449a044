use Rattle.std.proofs.Common.{◌≡◌, drop}
use Rattle.std.specs.List.{list_any}
use Rattle.hum_score.specs.Spelling.{is_empty}
use Rattle.hum_score.specs.Texts.{texts}
use Rattle.hum_path.proofs.rules.has_nameless.Given as goal

abbrev pub invariant-loop-name : goal.invariant-loop-name
invariant-loop-name l = list_any is_empty (texts (drop l.name-index l.names)) ≡ list_any is_empty (texts l.names)

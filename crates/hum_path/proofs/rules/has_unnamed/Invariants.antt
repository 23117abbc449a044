use Rattle.std.proofs.Common.{◌≡◌, drop}
use Rattle.hum_score.specs.Rules.{has_unnamed}
use Rattle.hum_score.specs.Texts.{texts}
use Rattle.hum_path.proofs.rules.has_unnamed.Given as goal

abbrev pub invariant-loop-j : goal.invariant-loop-j
invariant-loop-j l = has_unnamed (texts (drop l.j l.names)) (drop l.j l.signs) ≡ has_unnamed (texts l.names) l.signs

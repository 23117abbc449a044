use Rattle.std.proofs.Common.{◌≡◌, drop}
use Rattle.hum_score.specs.Rules.{has_mixed_join}
use Rattle.hum_score.specs.Texts.{texts}
use Rattle.hum_path.proofs.rules.has_mixed_join.Given as goal

abbrev pub invariant-loop-j : goal.invariant-loop-j
invariant-loop-j l =
    has_mixed_join (texts (drop l.j l.names)) (drop l.j l.signs) ≡ has_mixed_join (texts l.names) l.signs

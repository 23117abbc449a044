use Rattle.std.proofs.Common.{◌≡◌, false, drop}
use Rattle.hum_score.specs.Rules.{has_lone_join}
use Rattle.hum_path.proofs.rules.has_lone_join.Given as goal

abbrev pub invariant-loop-j : goal.invariant-loop-j
invariant-loop-j l = has_lone_join l.after_join (drop l.j l.signs) ≡ has_lone_join false l.signs

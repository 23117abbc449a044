use Rattle.std.proofs.Common.{◌≡◌, ◌++◌, drop}
use Rattle.hum_score.specs.Spines.{exchanges}
use Rattle.hum_path.proofs.steering.exchanges.Given as goal

abbrev pub invariant-loop-j : goal.invariant-loop-j
invariant-loop-j l = l.places.items ++ exchanges l.j (drop l.j l.signs) ≡ exchanges 0 l.signs

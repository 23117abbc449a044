-- No score before this one has the name.
use Rattle.std.proofs.Common.{◌≡◌, drop}
use Rattle.hum_many.specs.Cases.{score_in}
use Rattle.hum_many.proofs.cases.find.Given as goal

abbrev pub invariant-loop-score : goal.invariant-loop-score
invariant-loop-score l = score_in l.scores l.name ≡ score_in (drop l.score-index l.scores) l.name

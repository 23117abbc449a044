use Rattle.hum_assemble.specs.Standing.{Stands}
use Rattle.hum_tests.proofs.Wanted.{Serves}
use Rattle.hum_tests.proofs.serving.serve.Given as goal

abbrev pub invariant-loop : goal.invariant-loop
invariant-loop g l = Serves (Stands l.stage) l.fn.first.items l.fn.second.items l.left.items l.right.items

use Rattle.std.proofs.Common.{length}
use Rattle.hum_engine.proofs.Appending.{IsWriting}
use Rattle.hum_engine.proofs.writing.write_on.Given as goal

abbrev pub invariant-loop-rest : goal.invariant-loop-rest
invariant-loop-rest g l = IsWriting g.W.Sink l.fn.sink l.sink l.text l.rest

abbrev pub decreases-loop-rest : goal.decreases-loop-rest
decreases-loop-rest g l = length l.rest

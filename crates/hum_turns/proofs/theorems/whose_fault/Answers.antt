use Rattle.hum_turns.proofs.Faults.{whose_fault}
use Rattle.hum_turns.proofs.theorems.whose_fault.Goals as goal

pub returns : goal.returns
returns g c = whose_fault

use Rattle.std.proofs.lemmas.Bool.Decides.{nat_tests}
use Rattle.std.proofs.Common.{arith}
use Rattle.hum_record.proofs.Selected.{marked_none}
use Rattle.hum_record.proofs.selection.Selection.is_none.Goals as goal

pub returns-then-self-eq0 : goal.returns-then-self-eq0
returns-then-self-eq0 = grind (arith, nat_tests, marked_none)

use Rattle.std.proofs.lemmas.Bool.Decides.{nat_tests}
use Rattle.std.proofs.Common.{arith}
use Rattle.hum_cells.proofs.Headings.{sign_same}
use Rattle.hum_cells.proofs.cells.tell_heading.Goals as goal

pub returns-then-not-has_kern : goal.returns-then-not-has_kern
returns-then-not-has_kern g c = grind (arith, nat_tests, sign_same)

use Rattle.std.proofs.lemmas.Bool.Decides.{nat_tests}
use Rattle.std.proofs.Common.{arith}
use Rattle.hum_engine.proofs.writing.write_all.Goals as goal

pub returns-then-write_near : goal.returns-then-write_near
returns-then-write_near = grind (arith, nat_tests)

pub returns : goal.returns
returns g c = rw (c.write_near.ensures.kept c.if-write_near.false) at c.write_on.ensures

use Rattle.std.proofs.lemmas.Bool.Decides.{nat_tests}
use Rattle.std.proofs.Common.{arith}
use Rattle.hum_plan.proofs.Entries.{lookup_seen}
use Rattle.hum_plan.proofs.branches.Branches.get.Goals as goal

pub returns : goal.returns
returns c = grind (arith, nat_tests, lookup_seen c.args.name.now c.self.inside.index.entries)

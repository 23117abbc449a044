use Rattle.std.proofs.lemmas.Bool.Decides.{nat_tests}
use Rattle.std.proofs.Common.{arith}
use Rattle.hum_record.proofs.Alike.{none_added, null_added, null_fits}
use Rattle.hum_record.proofs.building.RecordBuilder.push_nulls.Goals as goal

pub push_fitting-requires-clause-fits : goal.push_fitting-requires-clause-fits
push_fitting-requires-clause-fits = grind (arith, nat_tests, null_fits)

pub loop-init : goal.loop-init
loop-init c = none_added c.args.self.now

pub push_fitting-requires-clause-lawful : goal.push_fitting-requires-clause-lawful
push_fitting-requires-clause-lawful = grind (arith, nat_tests)

pub loop-preserved : goal.loop-preserved
loop-preserved c =
    null_added c.args.self.now c.loop.self _ c.null_of-null.result.now c.loop.counter c.loop.invariant
    c.in_ok-push_fitting.ensures.pushed

pub returns : goal.returns
returns = grind (arith, nat_tests)

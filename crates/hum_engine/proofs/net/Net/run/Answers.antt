use Rattle.hum_engine.proofs.Running.{first_running}
use Rattle.hum_engine.proofs.Telling.{may_run, runs_on, ran_already, ran_whole}
use Rattle.hum_engine.proofs.net.Net.run.Goals as goal

pub over-requires : goal.over-requires
over-requires g c = first_running c.requires

-- Where it is over from the first.

pub told-requires : goal.told-requires
told-requires g c = first_running c.requires

pub returns-then-over : goal.returns-then-over
returns-then-over g c = ran_already c.requires c.over.ensures.over c.if-over.true c.told.ensures

pub run_on-requires : goal.run_on-requires
run_on-requires g c = may_run c.requires c.over.ensures.over c.if-over.false

pub told-requires-2 : goal.told-requires-2
told-requires-2 g c = runs_on c.requires c.over.ensures.over c.if-over.false c.run_on.ensures

pub returns : goal.returns
returns g c = ran_whole c.requires c.over.ensures.over c.if-over.false c.run_on.ensures c.told-2.ensures

use Rattle.hum_commands.proofs.stages.CommandStageStage.take_with.Goals as goal

pub returns-in-Trans-clause-ok : goal.returns-in-Trans-clause-ok
returns-in-Trans-clause-ok c = rw c.in-Trans.is c.take_with-in-Trans.ensures.ok

pub returns-in-Semits-clause-ok : goal.returns-in-Semits-clause-ok
returns-in-Semits-clause-ok c = rw c.in-Semits.is c.take_with-in-Semits.ensures.ok

pub returns-in-Recip-clause-ok : goal.returns-in-Recip-clause-ok
returns-in-Recip-clause-ok c = rw c.in-Recip.is c.take_with-in-Recip.ensures.ok

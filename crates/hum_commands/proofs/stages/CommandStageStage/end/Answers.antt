use Rattle.hum_commands.proofs.stages.CommandStageStage.end.Goals as goal

pub returns-in-Trans-clause-ended : goal.returns-in-Trans-clause-ended
returns-in-Trans-clause-ended c = rw c.in-Trans.is c.end-in-Trans.ensures.ended

pub returns-in-Semits-clause-ended : goal.returns-in-Semits-clause-ended
returns-in-Semits-clause-ended c = rw c.in-Semits.is c.end-in-Semits.ensures.ended

pub returns-in-Recip-clause-ended : goal.returns-in-Recip-clause-ended
returns-in-Recip-clause-ended c = rw c.in-Recip.is c.end-in-Recip.ensures.ended

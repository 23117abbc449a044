use Rattle.hum_stage.proofs.Lags.{lags_end}
use Rattle.hum_stage.proofs.lagging.LaggingStage.end.Goals as goal
use Rattle.hum_stage.specs.declared.TheConstants.{MOST_WAITING}

pub returns-clause-ended : goal.returns-clause-ended
returns-clause-ended g c t h going = lags_end MOST_WAITING _ _ _ _ t c.args.end c.requires h

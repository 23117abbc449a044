use Rattle.hum_limits.proofs.Limits.{records_short, records_few, spines_few, waits_short, plans_short, numbers_small, scores_small}
use Rattle.hum_limits.proofs.limits_are_numbers.Goals as goal

pub returns-clause-short : goal.returns-clause-short
returns-clause-short c = records_short

pub returns-clause-few : goal.returns-clause-few
returns-clause-few c = records_few

pub returns-clause-spines : goal.returns-clause-spines
returns-clause-spines c = spines_few

pub returns-clause-waits : goal.returns-clause-waits
returns-clause-waits c = waits_short

pub returns-clause-plans : goal.returns-clause-plans
returns-clause-plans c = plans_short

pub returns-clause-numbers : goal.returns-clause-numbers
returns-clause-numbers c = numbers_small

pub returns-clause-scores : goal.returns-clause-scores
returns-clause-scores c = scores_small

use Rattle.hum_choices.specs.Timebase.{pace_of}
use Rattle.hum_timebase.proofs.Keeping.{timebase_keeps}
use Rattle.hum_timebase.proofs.grid.GridDecides.begin.Goals as goal

pub returns-clause-keeps : goal.returns-clause-keeps
returns-clause-keeps c = λ _. timebase_keeps (pace_of c.args.options)

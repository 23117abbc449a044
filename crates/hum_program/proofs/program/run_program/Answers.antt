use Rattle.hum_program.proofs.Running.{does}
use Rattle.hum_program.proofs.program.run_program.Goals as goal

pub returns-in-Ok : goal.returns-in-Ok
returns-in-Ok g c = does _ _ _ _ _ _ _ c.in-Ok.choice c.in-Ok.ensures.asked c.run_choice.result.0 c.run_choice.ensures

use Rattle.hum_turns.proofs.Against.{every_meaning_is_fine}
use Rattle.hum_turns.proofs.theorems.every_meaning_is_fine.Goals as goal

pub returns : goal.returns
returns g c = every_meaning_is_fine

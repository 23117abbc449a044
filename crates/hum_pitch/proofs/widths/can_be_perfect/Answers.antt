use Rattle.hum_pitch.proofs.Tables.{perfect_at}
use Rattle.hum_pitch.proofs.widths.can_be_perfect.Goals as goal

pub returns : goal.returns
returns c = perfect_at c.args.steps c.requires

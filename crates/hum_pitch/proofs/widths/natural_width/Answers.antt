use Rattle.hum_pitch.specs.Pitch.{natural}
use Rattle.hum_pitch.proofs.Tables.{width_at, width_few}
use Rattle.hum_pitch.proofs.widths.natural_width.Goals as goal

pub returns-clause-exact : goal.returns-clause-exact
unfolding natural
returns-clause-exact c = width_at c.args.steps c.requires

pub returns-clause-bounded : goal.returns-clause-bounded
unfolding natural
returns-clause-bounded c = width_few c.args.steps c.requires

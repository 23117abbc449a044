use Rattle.hum_timebase.proofs.Cuts.{cut-first}
use Rattle.hum_timebase.proofs.notes.cut.Goals as goal

pub returns-clause-parts : goal.returns-clause-parts
returns-clause-parts c = rw (c.split_at.ensures.front, c.split_at.ensures.back, c.first_space.ensures.first) (cut-first c.args.text.now)

use Rattle.hum_assemble.proofs.round.give_at.Goals as goal

pub returns-in-None : goal.returns-in-None
returns-in-None c = record { row = c.give_alone.ensures.row; sources = c.give_alone.ensures.sources }

use Rattle.std.proofs.lemmas.Result.{IfOk-weaker}
use Rattle.hum_commands.specs.Meaning.{meaning}
use Rattle.hum_laws.proofs.commands.again.Goals as goal

pub again-requires-clause-first : goal.again-requires-clause-first
again-requires-clause-first c = record { meaning = meaning 1 c.args.first; stand = c.new-first.ensures.stands; keeps = c.new-first.ensures.keeps c.requires.scores }

pub returns-clause-given : goal.returns-clause-given
returns-clause-given c = IfOk-weaker c.again.result _ _ (λ both h. h _ _ c.new-first.ensures.stands c.new-second.ensures.stands) c.again.ensures

pub returns-clause-keeps : goal.returns-clause-keeps
returns-clause-keeps c = c.new-first.ensures.keeps c.requires.scores

use Rattle.hum_yank.specs.Options.{choice_of}
use Rattle.hum_yank.proofs.Steady.{yank_steady}
use Rattle.hum_yank.proofs.Keeping.{yank_keeps}
use Rattle.hum_yank.proofs.memory.PassageMemoryLooksAhead.begin.Goals as goal

pub returns-clause-steady : goal.returns-clause-steady
returns-clause-steady c = yank_steady (choice_of c.args.options)

pub returns-clause-keeps : goal.returns-clause-keeps
returns-clause-keeps c = yank_keeps 65536 (choice_of c.args.options)

use Rattle.hum_context.specs.Options.{choice_of}
use Rattle.hum_context.proofs.Keeping.{context_keeps, context_steady}
use Rattle.hum_context.proofs.Following.{begins}
use Rattle.hum_context.proofs.memory.CollectingLooksAhead.begin.Goals as goal

pub returns-clause-follows : goal.returns-clause-follows
returns-clause-follows c = let m = c.new.ensures in
    rw m.options (begins c.args.options _ _ _ m.path m.walks m.gone)

pub returns-clause-steady : goal.returns-clause-steady
returns-clause-steady c = context_steady (choice_of c.args.options)

pub returns-clause-keeps : goal.returns-clause-keeps
returns-clause-keeps c = context_keeps 65536 (choice_of c.args.options)

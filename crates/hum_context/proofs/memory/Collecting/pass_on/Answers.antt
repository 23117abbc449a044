use Rattle.hum_context.specs.Options.{choice_of}
use Rattle.hum_context.proofs.Shorter.{still_stand}
use Rattle.hum_context.proofs.memory.Collecting.pass_on.Goals as goal

pub returns-then-is_still-clause-stand : goal.returns-then-is_still-clause-stand
returns-then-is_still-clause-stand c path row rows known h =
    still_stand (choice_of c.args.self.now.options) path c.args.self.now.gone row rows
    c.args.kept.now c.args.self.now.walks.items known (c.is_still.ensures c.if-is_still.true) h

pub shorten-requires : goal.shorten-requires
shorten-requires c = c.keeps_columns.ensures c.if-keeps_columns.true

pub returns-then-keeps_columns-clause-stand : goal.returns-then-keeps_columns-clause-stand
returns-then-keeps_columns-clause-stand c path row rows known h =
    c.shorten.ensures (choice_of c.args.self.now.options) path c.args.self.now.gone row rows
    c.wanted-wanted.ensures known h

pub returns-clause-stand : goal.returns-clause-stand
returns-clause-stand c path row rows known h =
    rw c.swap.ensures.x_after (c.in_ok-share.ensures (choice_of c.args.self.now.options) path
    c.args.self.now.gone row rows c.wanted-wanted.ensures known (rw c.deref.ensures.value h))

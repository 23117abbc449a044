use Rattle.std.proofs.Common.{◌∙◌, ◌-◌, ap, take}
use Rattle.hum_context.proofs.Told.{moved}
use Rattle.hum_context.proofs.saying.move_to_front.Goals as goal

pub returns : goal.returns
returns c =
    ap (take (c.args.end - c.args.from)) c.copy_within.ensures.after
    ∙ moved c.args.text.now c.args.from c.args.end c.requires.order c.requires.within

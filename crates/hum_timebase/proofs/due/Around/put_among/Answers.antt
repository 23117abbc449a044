use Rattle.hum_timebase.proofs.Around.{due_among}
use Rattle.hum_timebase.proofs.due.Around.put_among.Goals as goal

pub returns : goal.returns
returns c = rw c.kept_if.ensures
    (due_among c.args.before c.args.after c.args.stays c.args.row c.make_null.new.other c.requires.kind
    (λ some. c.in_ok-make_null.ensures.made (c.are_some.ensures some)))

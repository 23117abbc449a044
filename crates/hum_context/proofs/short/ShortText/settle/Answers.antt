use Rattle.std.proofs.Common.{arith, take}
use Rattle.hum_context.proofs.Told.{none_behind}
use Rattle.hum_context.proofs.short.ShortText.settle.Goals as goal

pub invariant_of-self : goal.invariant_of-self
invariant_of-self c =
    let e = c.move_to_front.ensures in
    let old = c.args.self.now in
    let order = old.order in
    let within = old.within in
    record {
      order = omega arith;
      within = omega (arith, order, within);
      one_token = rw e (none_behind _ old.begin (take old.len old.bytes) old.one_token);
      one_line = rw e (none_behind _ old.begin (take old.len old.bytes) old.one_line);
      no_line_end = rw e (none_behind _ old.begin (take old.len old.bytes) old.no_line_end);
    }

use Rattle.std.proofs.Common.{refl}
use Rattle.hum_record.proofs.Filled.{FilledFields, as_wide, filled_record}
use Rattle.hum_record.proofs.reading.Record.filled_from.Goals as goal

pub put_filled-requires-clause-as_wide : goal.put_filled-requires-clause-as_wide
put_filled-requires-clause-as_wide c =
    rw (c.deref.ensures, c.deref-2.ensures)
    (as_wide c.args.self.now c.args.above.now _ _ _ _ c.self.invariant c.self.view_is c.above.invariant c.above.view_is c.requires.as_wide)

abbrev made : (c : goal.Then-put_filled) → FilledFields c.args.self.now c.args.above.now c.put_filled.new.self.text c.put_filled.new.self.ends
made c =
    let filled = c.if-put_filled.ensures in
    filled_record c.args.self.now c.args.above.now _ _ _ _ c.self.invariant c.self.view_is c.above.invariant c.above.view_is
    c.put_filled.new.self.text c.put_filled.new.self.ends c.requires.kind c.requires.kind_above
    (rw (c.deref.ensures, c.deref-2.ensures) at (filled.text refl)) (rw (c.deref.ensures, c.deref-2.ensures) at (filled.ends refl))
    (filled.at_most refl)

pub invariant_of-result : goal.invariant_of-result
invariant_of-result c = (made c).fields

pub returns-then-put_filled-clause-made : goal.returns-then-put_filled-clause-made
returns-then-put_filled-clause-made c = (made c).is

pub returns-then-put_filled-clause-at_most : goal.returns-then-put_filled-clause-at_most
returns-then-put_filled-clause-at_most c = (made c).at_most

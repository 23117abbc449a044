use Rattle.hum_record.proofs.Left.{ends_cut, ends_wide, retained}
use Rattle.hum_record.proofs.reading.Record.retain.Goals as goal

pub leave-requires-clause-cut : goal.leave-requires-clause-cut
leave-requires-clause-cut c =
    rw c.deref_mut.ensures.value
    (ends_cut c.args.self.now _ _ c.args.selection.now c.self.invariant c.self.view_is c.requires.as_wide c.requires.some)

pub leave-requires-clause-as_wide : goal.leave-requires-clause-as_wide
leave-requires-clause-as_wide c =
    rw c.deref_mut.ensures.value
    (ends_wide c.args.self.now _ _ c.args.selection.now c.self.invariant c.self.view_is c.requires.as_wide c.requires.some)

pub invariant_of-self : goal.invariant_of-self
invariant_of-self c =
    let left = c.leave.ensures in
    let e = c.deref_mut.ensures.value in
    let yes = c.if-leave.true in
    (retained c.args.self.now _ _ c.args.selection.now c.self.invariant c.self.view_is c.requires.as_wide c.requires.some
    c.leave.new.self.text c.leave.new.self.ends (rw e at left.text yes) (rw e at left.ends yes) (rw e at left.short yes)).fields

pub returns-then-leave-clause-left : goal.returns-then-leave-clause-left
returns-then-leave-clause-left c =
    let left = c.leave.ensures in
    let e = c.deref_mut.ensures.value in
    let yes = c.if-leave.true in
    (retained c.args.self.now _ _ c.args.selection.now c.self.invariant c.self.view_is c.requires.as_wide c.requires.some
    c.leave.new.self.text c.leave.new.self.ends (rw e at left.text yes) (rw e at left.ends yes) (rw e at left.short yes)).is

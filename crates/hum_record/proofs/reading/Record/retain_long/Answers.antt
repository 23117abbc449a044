use Rattle.std.proofs.Common.{◌∙◌, sym}
use Rattle.hum_record.proofs.Left.{ends_cut, ends_wide, retained}
use Rattle.hum_record.proofs.reading.Record.retain_long.Goals as goal

pub leave_long-requires-clause-cut : goal.leave_long-requires-clause-cut
leave_long-requires-clause-cut c =
    let body = c.into_body-copy.ensures in
    rw c.deref_mut.ensures.value
    (ends_cut c.args.self.now _ _ c.args.selection.now body.fields (sym body.text ∙ c.in_ok-copy.ensures) c.requires.as_wide c.requires.some)

pub leave_long-requires-clause-as_wide : goal.leave_long-requires-clause-as_wide
leave_long-requires-clause-as_wide c =
    let body = c.into_body-copy.ensures in
    rw c.deref_mut.ensures.value
    (ends_wide c.args.self.now _ _ c.args.selection.now body.fields (sym body.text ∙ c.in_ok-copy.ensures) c.requires.as_wide c.requires.some)

pub invariant_of-self : goal.invariant_of-self
invariant_of-self c =
    let body = c.into_body-copy.ensures in
    let left = c.in_ok-leave_long.ensures in
    let e = c.deref_mut.ensures.value in
    (retained c.args.self.now _ _ c.args.selection.now body.fields (sym body.text ∙ c.in_ok-copy.ensures) c.requires.as_wide c.requires.some
    c.leave_long.new.self.text c.leave_long.new.self.ends (rw e at left.text) (rw e at left.ends) (rw e at left.short)).fields

pub returns-clause-left : goal.returns-clause-left
returns-clause-left c =
    let body = c.into_body-copy.ensures in
    let left = c.in_ok-leave_long.ensures in
    let e = c.deref_mut.ensures.value in
    (retained c.args.self.now _ _ c.args.selection.now body.fields (sym body.text ∙ c.in_ok-copy.ensures) c.requires.as_wide c.requires.some
    c.leave_long.new.self.text c.leave_long.new.self.ends (rw e at left.text) (rw e at left.ends) (rw e at left.short)).is

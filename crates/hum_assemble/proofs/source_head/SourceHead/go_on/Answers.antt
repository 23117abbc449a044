use Rattle.std.proofs.Common.{◌≡◌, ◌∙◌, sym, Some}
use Rattle.hum_assemble.proofs.Notes.{note_moved}
use Rattle.hum_assemble.proofs.source_head.SourceHead.go_on.Goals as goal

pub returns-in-Note-clause-moved : goal.returns-in-Note-clause-moved
returns-in-Note-clause-moved c =
    let coming : c.self.inside.head ≡ Some c.in-Some.head = sym c.take.ensures.value ∙ c.in-Some.is in
    let fits = rw coming at c.self.invariant.fits in
    rw (← c.self.view_is, c.if-not-taken.false, coming, c.take.ensures.after)
    (note_moved c.args.going c.args.p _ c.self.inside.due _ _ (sym fits.place ∙ c.in-Note.is))

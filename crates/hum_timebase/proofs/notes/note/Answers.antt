use Rattle.std.proofs.Common.{◌≡◌, ◌∙◌, sym, true}
use Rattle.hum_timebase.specs.Notes.{is_sounding}
use Rattle.hum_timebase.proofs.notes.note.Goals as goal

pub returns-then-is_sounding : goal.returns-then-is_sounding
returns-then-is_sounding c =
    let sounding : is_sounding c.args.token.now ≡ true = sym c.is_sounding.ensures ∙ c.if-is_sounding.true in
    rw (c.if-timed.true, sounding) c.first_duration.ensures

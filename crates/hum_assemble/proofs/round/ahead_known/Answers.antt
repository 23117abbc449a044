use Rattle.std.proofs.Common.{◌∙◌, sym}
use Rattle.hum_assemble.proofs.Notes.{notes_ahead}
use Rattle.hum_assemble.proofs.round.ahead_known.Goals as goal

pub returns-then-are_notes : goal.returns-then-are_notes
returns-then-are_notes c =
    notes_ahead _ _ _ c.if-not-going.true (sym c.is_empty.ensures ∙ c.if-not-is_empty.true) c.if-given-lt-MOST_RECORDS.true
    (c.are_notes.ensures c.if-are_notes.true)

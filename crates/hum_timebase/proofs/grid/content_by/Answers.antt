use Rattle.std.proofs.Common.{sym, ◌∙◌}
use Rattle.hum_timebase.proofs.Reading.{sounds_misread, sounds_noted}
use Rattle.hum_timebase.proofs.grid.content_by.Goals as goal

pub returns-then-is_some : goal.returns-then-is_some
returns-then-is_some c = sym (sounds_misread c.requires.0 _ _ _ c.requires.1 (sym c.is_some.ensures ∙ c.if-is_some.true))

pub returns-then-has_note : goal.returns-then-has_note
returns-then-has_note c = sym (sounds_noted c.requires.0 _ _ _ _ c.requires.1 (sym c.is_some.ensures ∙ c.if-is_some.false)
    c.has_note.ensures c.if-has_note.true)

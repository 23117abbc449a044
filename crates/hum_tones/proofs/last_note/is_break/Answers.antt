use Rattle.std.proofs.Common.{◌∙◌}
use Rattle.hum_tones.proofs.LastNotes.{break_of}
use Rattle.hum_tones.proofs.last_note.is_break.Goals as goal

pub returns-clause-found : goal.returns-clause-found
returns-clause-found c = c.is_matched.ensures.found ∙ break_of _ c.args.token.now c.requires

use Rattle.std.proofs.Common.{sym}
use Rattle.hum_tones.proofs.LastNotes.{nothing_heard}
use Rattle.hum_tones.proofs.last_note.LastNote.hear_nothing.Goals as goal

pub returns : goal.returns
returns c = sym (nothing_heard c.args._options.now c.args._token.now c.requires.whole c.requires.data c.requires.silent c.args.self.now)

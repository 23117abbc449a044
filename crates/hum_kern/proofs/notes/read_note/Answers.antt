use Rattle.std.proofs.Common.{◌∙◌}
use Rattle.hum_kern.specs.Note.{notation_of, reading_in}
use Rattle.hum_kern.proofs.Notations.{are_note_parts, note_alone}
use Rattle.hum_kern.proofs.Placing.{written}
use Rattle.hum_kern.proofs.Found.{within, text_read, can_be_replaced}
use Rattle.hum_kern.proofs.Lasting.{keeps_duration}
use Rattle.hum_kern.proofs.notes.read_note.Goals as goal

pub returns-clause-says : goal.returns-clause-says
returns-clause-says c = (notation_of c.args.bytes.now, are_note_parts c.args.bytes.now, c.read_subtoken.ensures)

pub returns-clause-alone : goal.returns-clause-alone
returns-clause-alone c = note_alone c.args.bytes.now (reading_in c.read_subtoken.result) c.read_subtoken.ensures

pub returns-clause-written : goal.returns-clause-written
returns-clause-written c = λ p. λ e. c.read_subtoken.ensures ∙ written c.args.bytes.now p e

pub returns-clause-within : goal.returns-clause-within
returns-clause-within c = within c.args.bytes.now c.read_subtoken.result c.read_subtoken.ensures

pub returns-clause-text : goal.returns-clause-text
returns-clause-text c = text_read c.args.bytes.now c.read_subtoken.result c.read_subtoken.ensures

pub returns-clause-replaced : goal.returns-clause-replaced
returns-clause-replaced c = can_be_replaced c.args.bytes.now c.read_subtoken.result c.read_subtoken.ensures

pub returns-clause-keeps_duration : goal.returns-clause-keeps_duration
returns-clause-keeps_duration c = keeps_duration c.args.bytes.now c.read_subtoken.result c.read_subtoken.ensures

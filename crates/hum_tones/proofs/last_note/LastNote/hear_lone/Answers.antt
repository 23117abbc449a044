use Rattle.std.proofs.Common.{ap, ◌∙◌, Some}
use Rattle.hum_pitch.specs.Given.{spelled}
use Rattle.hum_tones.specs.Memory.{HeardColumn}
use Rattle.hum_kern.specs.Note.{reading}
use Rattle.hum_tones.specs.Hearing.{hearing}
use Rattle.hum_tones.proofs.TokenTone.{one_heard}
use Rattle.hum_tones.proofs.LastNotes.{note_heard}
use Rattle.hum_tones.proofs.last_note.LastNote.hear_lone.Goals as goal

pub returns-in_default : goal.returns-in_default
returns-in_default c =
    let read = one_heard c.args.token.now (reading c.args.note) c.with-heard.result c.requires.read c.with-heard.ensures in
    let none = rw c.in_default.is at c.new_pitch.ensures in
    rw (
      note_heard c.args.options.now c.args.token.now (hearing c.with-heard.result) c.requires.whole c.requires.data c.requires.told read c.args.self.now,
      ← none,
    ) c.tell.ensures

pub returns-in-Some : goal.returns-in-Some
returns-in-Some c =
    let read = one_heard c.args.token.now (reading c.args.note) c.with-heard.result c.requires.read c.with-heard.ensures in
    let some = rw c.in-Some.is at c.new_pitch.ensures in
    rw (
      note_heard c.args.options.now c.args.token.now (hearing c.with-heard.result) c.requires.whole c.requires.data c.requires.told read c.args.self.now,
      ← some,
    ) (ap (λ (m : HeardColumn). record { told = m.told; note = Some (spelled c.in-Some.pitch) }) (c.self.view_is ∙ c.tell.ensures))

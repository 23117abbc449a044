use Rattle.std.proofs.Common.{◌∙◌, ap}
use Rattle.hum_tones.proofs.TokenTone.{pitch_heard, remembered_is}
use Rattle.hum_tones.proofs.last_note.remembered_of.Goals as goal

pub returns-in-Ok : goal.returns-in-Ok
returns-in-Ok c = λ token e. c.new_pitch.ensures ∙ ap pitch_heard (rw c.in-Ok.is at e) ∙ remembered_is token

pub returns-in-Err : goal.returns-in-Err
returns-in-Err c = λ token e. ap pitch_heard (rw c.in-Err.is at e) ∙ remembered_is token

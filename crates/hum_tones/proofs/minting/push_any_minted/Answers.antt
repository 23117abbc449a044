use Rattle.std.proofs.Common.{◌∙◌, refl, sym, ap}
use Rattle.std.specs.Prelude.{option_map}
use Rattle.hum_pitch.specs.Given.{spelled}
use Rattle.hum_tones.specs.Hearing.{heard_by}
use Rattle.hum_tones.specs.Mint.{approached}
use Rattle.hum_tones.proofs.TokenTone.{told_anew, told_on, told_still}
use Rattle.hum_tones.proofs.minting.push_any_minted.Goals as goal
use Rattle.hum_tones.proofs.minting.push_any_minted.Goals.{then-heard, else-heard}

pub returns-then-tone-clause-pushed : goal.returns-then-tone-clause-pushed
returns-then-tone-clause-pushed c = (
  _,
  told_on c.args.approach.now.naming.signless c.args.approach.now.naming.sizeonly (option_map spelled c.args.approach.now.before)
      (heard_by c.args.approach.now.heard) c.in-Ok.heard c.in-Some.tone (sym (ap heard_by c.in-Ok.is)) c.in-Some.is c.if-tone.true,
  λ tokens held. c.in_ok-push-in-Some.ensures.pushed _ tokens held,
)

pub returns-in_ok-push_any_tone-in-Some-clause-pushed : goal.returns-in_ok-push_any_tone-in-Some-clause-pushed
returns-in_ok-push_any_tone-in-Some-clause-pushed c =
    let naming = c.args.approach.now.naming in (
      approached naming.signless naming.sizeonly (option_map spelled c.args.approach.now.before) (spelled c.in-Some.tone.pitch),
      told_anew naming.signless naming.sizeonly (option_map spelled c.args.approach.now.before) (heard_by c.args.approach.now.heard)
          c.in-Ok.heard c.in-Some.tone (sym (ap heard_by c.in-Ok.is)) c.in-Some.is c.if-tone.false,
      λ tokens held. c.in_ok-push_any_tone-in-Some.ensures.pushed tokens held,
    )

pub returns-in_ok-push-in-None-clause-pushed : goal.returns-in_ok-push-in-None-clause-pushed
returns-in_ok-push-in-None-clause-pushed c = (
  c.if-heard.push.now,
  elim c.if-heard.branch [
    | then-heard w ↦ rw w.push-is (told_still _ _ _ _ c.in-Ok.heard (sym (ap heard_by c.in-Ok.is)) c.in-None.is ∙ rw w.if-heard.true refl)
    | else-heard w ↦ rw w.push-is (told_still _ _ _ _ c.in-Ok.heard (sym (ap heard_by c.in-Ok.is)) c.in-None.is ∙ rw w.if-heard.false refl)
  ],
  λ tokens held. c.in_ok-push-in-None.ensures.pushed _ tokens held,
)

use Rattle.std.proofs.Common.{◌≡◌, ◌∙◌, sym, ap, Ok, List, ℕ}
use Rattle.hum_kern.specs.Note.{reading}
use Rattle.hum_tones.specs.PartRule.{given}
use Rattle.hum_tones.specs.Subtokens.{lone_text}
use Rattle.hum_tones.proofs.GivenLawful.{given_lawful}
use Rattle.hum_tones.proofs.Lone.{semits_lone, recip_lone}
use Rattle.hum_tones.proofs.part_rule.PartRule.push_usual.Goals as goal

pub push-requires : goal.push-requires
push-requires c =
    let told : given c.args.self c.args.token.now ≡ Ok c.or_null.result.now =
    rw c.in-Semitones.is (semits_lone c.in-Semitones.ties_left_out c.args.token.now (reading c.in-Some.note) c.in-Some.ensures)
    ∙ ap (λ (t : List ℕ). Ok t) (sym (c.or_null.ensures ∙ ap lone_text c.note_text.ensures)) in
    rw c.requires.kind (given_lawful c.args.self c.args.token.now c.or_null.result.now told c.requires.lawful)

pub push-requires-in-Some-leading_text : goal.push-requires-in-Some-leading_text
push-requires-in-Some-leading_text c =
    let told : given c.args.self c.args.token.now ≡ Ok c.in-Some-leading_text.given.now =
    rw c.in-Durations.is (recip_lone c.args.token.now c.in-Some-leading_text.given.now c.in-Some-leading_text.ensures) in
    rw c.requires.kind (given_lawful c.args.self c.args.token.now c.in-Some-leading_text.given.now told c.requires.lawful)

pub returns-in_ok-push-in-Some-clause-pushed : goal.returns-in_ok-push-in-Some-clause-pushed
returns-in_ok-push-in-Some-clause-pushed c = λ _. (
  c.or_null.result.now,
  rw c.in-Semitones.is (semits_lone c.in-Semitones.ties_left_out c.args.token.now (reading c.in-Some.note) c.in-Some.ensures)
      ∙ ap (λ (t : List ℕ). Ok t) (sym (c.or_null.ensures ∙ ap lone_text c.note_text.ensures)),
  λ tokens held. c.in_ok-push-in-Some.ensures.pushed _ tokens held,
)

pub returns-in_ok-push-in-Some-leading_text-clause-pushed : goal.returns-in_ok-push-in-Some-leading_text-clause-pushed
returns-in_ok-push-in-Some-leading_text-clause-pushed c = λ _. (
  c.in-Some-leading_text.given.now,
  rw c.in-Durations.is (recip_lone c.args.token.now c.in-Some-leading_text.given.now c.in-Some-leading_text.ensures),
  λ tokens held. c.in_ok-push-in-Some-leading_text.ensures.pushed _ tokens held,
)

pub returns-in-Some-read_lone-clause-pushed : goal.returns-in-Some-read_lone-clause-pushed
returns-in-Some-read_lone-clause-pushed c = rw c.in-Transposed.is c.push_transposed.ensures.pushed

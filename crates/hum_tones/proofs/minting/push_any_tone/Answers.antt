use Rattle.std.proofs.Common.{◌≡◌, ◌∙◌, ap, List, ℕ, ◌++◌}
use Rattle.std.specs.Prelude.{option_map}
use Rattle.hum_pitch.specs.Given.{spelled}
use Rattle.hum_score.specs.declared.records.SpinedKind.TheVariants.{Values}
use Rattle.hum_tones.specs.Mint.{approached}
use Rattle.hum_path.proofs.Carry.{on_ok}
use Rattle.hum_tones.proofs.MintedLawful.{approached_lawful}
use Rattle.hum_tones.proofs.minting.push_any_tone.Goals as goal

pub push-requires : goal.push-requires
push-requires c =
    rw (c.requires, c.deref.ensures.value, c.in_ok-add_tone.ensures, c.clear.ensures.items)
    (approached_lawful c.args.naming.signless c.args.naming.sizeonly c.args.before c.args.pitch)

pub returns-clause-pushed : goal.returns-clause-pushed
returns-clause-pushed c =
    let name = approached c.args.naming.signless c.args.naming.sizeonly (option_map spelled c.args.before) (spelled c.args.pitch) in
    let written : c.deref.result.now ≡ name =
    c.deref.ensures.value ∙ c.in_ok-add_tone.ensures ∙ ap (λ (xs : List ℕ). xs ++ name) c.clear.ensures.items in
    on_ok c.push.result (λ pushed tokens held. rw (← written) (pushed Values tokens held)) c.push.ensures.pushed

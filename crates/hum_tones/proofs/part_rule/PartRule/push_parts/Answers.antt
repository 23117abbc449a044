use Rattle.hum_stage.proofs.Telling.{told_on}
use Rattle.hum_tones.proofs.Told.{told_so, refused_so}
use Rattle.hum_tones.specs.PartRule.{given}
use Rattle.hum_tones.proofs.part_rule.PartRule.push_parts.Goals as goal

pub push-requires : goal.push-requires
push-requires c =
    rw (c.requires.kind, c.deref.ensures.value) (told_so (given c.args.self c.args.token.now) _ c.in_ok-join_parts.ensures).1

pub returns-clause-pushed : goal.returns-clause-pushed
returns-clause-pushed c = (
  c.join_parts.new.text.items,
  (told_so (given c.args.self c.args.token.now) _ c.in_ok-join_parts.ensures).0,
  λ tokens held. rw c.deref.ensures.value at (c.in_ok-push.ensures.pushed _ tokens held),
)

pub returns-in_err-join_parts-clause-pushed : goal.returns-in_err-join_parts-clause-pushed
returns-in_err-join_parts-clause-pushed c =
    told_on c.from_residual.result c.in_err-join_parts.field-0.0 _ _ c.from_residual.ensures.1 c.in_err-join_parts.ensures
    (λ rule refused. refused_so (given c.args.self c.args.token.now) _ rule refused)

use Rattle.std.proofs.Common.{◌≡◌, Ok, rules}
use Rattle.hum_tones.specs.declared.part_rule.PartRule.TheVariants.{Transposed}
use Rattle.hum_tones.specs.PartRule.{given}
use Rattle.hum_tones.proofs.GivenLawful.{given_lawful}
use Rattle.hum_tones.proofs.Lone.{trans_lone, trans_stays}
use Rattle.hum_tones.proofs.transposing.push_transposed.Goals as goal

pub push-requires-2 : goal.push-requires-2
push-requires-2 c =
    let told : given (Transposed c.args.options) c.args.token.now ≡ Ok c.put_short.new.text.items =
    trans_lone c.args.options c.args.token.now c.put_short.new.text.items c.requires.read.alone
    (c.put_short.ensures c.if-not-put_short.false) in
    rw (c.requires.kind, c.as_slice.ensures.value) (given_lawful (Transposed c.args.options) c.args.token.now _ told c.requires.lawful)

pub returns-clause-pushed : goal.returns-clause-pushed
returns-clause-pushed c = λ _. (
  c.put_short.new.text.items,
  trans_lone c.args.options c.args.token.now c.put_short.new.text.items c.requires.read.alone
      (c.put_short.ensures c.if-not-put_short.false),
  λ tokens held. rw c.as_slice.ensures.value at (c.in_ok-push-2.ensures.pushed _ tokens held),
)

pub returns-then-is_none-clause-pushed : goal.returns-then-is_none-clause-pushed
returns-then-is_none-clause-pushed c = λ _. (
  c.args.token.now,
  trans_stays c.args.options c.args.token.now c.args.found c.requires.read.read c.requires.read.alone (search rules),
  λ tokens held. c.in_ok-push.ensures.pushed _ tokens held,
)

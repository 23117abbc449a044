use Rattle.std.proofs.Common.{rules, ◌≡◌, ◌∙◌, refl, ◌==◌, length, [], arith}
use Rattle.std.proofs.lemmas.Iterator.Splits.{YieldsList-from_slice_split}
use Rattle.std.proofs.lemmas.Iterator.Consumers.{YieldsList-turn, YieldsList-end}
use Rattle.std.proofs.lemmas.List.{length_push, nil_from_length}
use Rattle.hum_tones.specs.Subtokens.{subtokens}
use Rattle.hum_tones.specs.PartRule.{gives}
use Rattle.hum_stage.proofs.Telling.{told_on}
use Rattle.hum_tones.proofs.SoFar.{nothing_yet, one_more, refused, none_given, some_given}
use Rattle.hum_tones.proofs.GivenLawful.{given_lawful}
use Rattle.hum_tones.proofs.part_rule.PartRule.join_parts.Goals as goal

pub loop-part-init : goal.loop-part-init
loop-part-init c = rw c.requires.empty (nothing_yet (gives c.args.self) (subtokens c.args.token.now))

pub returns-in_err-add : goal.returns-in_err-add
returns-in_err-add c =
    let start = c.into_iter-part-iterator.ensures.into_iter_gives in
    let t = YieldsList-turn (YieldsList-from_slice_split {s = c.into_iter-part-iterator.result} _ (λ b. b == 32)
    c.args.token.now (rw start c.split-part-items.ensures.rest) (rw start c.split-part-items.ensures.done)
    (rw start c.split-part-items.ensures.closure) (λ x b q k. search rules)) c.loop-part.yielded _
    c.loop-part.yielded_by _ _ c.in-Some.part c.in-Some.is c.next.ensures.steps in
    told_on c.from_residual.result c.in_err-add.field-0.0 _ _ c.from_residual.ensures.1 c.in_err-add.ensures
    (λ rule added. rw (refused (gives c.args.self) (subtokens c.args.token.now) (length c.loop-part.yielded)
    c.loop-part.text.items c.loop-part.invariant c.in-Some.part.now c.add.new.text.items rule t added) refl)

pub loop-part-preserved : goal.loop-part-preserved
loop-part-preserved c =
    let start = c.into_iter-part-iterator.ensures.into_iter_gives in
    let t = YieldsList-turn (YieldsList-from_slice_split {s = c.into_iter-part-iterator.result} _ (λ b. b == 32)
    c.args.token.now (rw start c.split-part-items.ensures.rest) (rw start c.split-part-items.ensures.done)
    (rw start c.split-part-items.ensures.closure) (λ x b q k. search rules)) c.loop-part.yielded _
    c.loop-part.yielded_by _ _ c.in-Some.part c.in-Some.is c.next.ensures.steps in
    rw (length_push c.loop-part.yielded c.in-Some.part)
    (one_more (gives c.args.self) (subtokens c.args.token.now) (length c.loop-part.yielded)
    c.loop-part.text.items c.loop-part.invariant c.in-Some.part.now c.add.new.text.items t
    c.in_ok-add.ensures)

pub returns-in_ok-push-in-None-pop : goal.returns-in_ok-push-in-None-pop
returns-in_ok-push-in-None-pop c =
    let start = c.into_iter-part-iterator.ensures.into_iter_gives in
    let t = YieldsList-end (YieldsList-from_slice_split {s = c.into_iter-part-iterator.result} _ (λ b. b == 32)
    c.args.token.now (rw start c.split-part-items.ensures.rest) (rw start c.split-part-items.ensures.done)
    (rw start c.split-part-items.ensures.closure) (λ x b q k. search rules)) c.loop-part.yielded _
    c.loop-part.yielded_by _ _ c.in-None.is c.next.ensures.steps in
    let length_0 : length c.pop.new.self.items ≡ 0 = omega (arith, (rw c.in-None-pop.is at c.pop.ensures.cases).1, c.pop.new.self.ok.0) in
    let empty : c.pop.new.self.items ≡ [] = nil_from_length c.pop.new.self.items length_0 in
    let given = none_given (gives c.args.self) (subtokens c.args.token.now) (length c.loop-part.yielded)
    c.loop-part.text.items c.loop-part.invariant (omega (arith, t.1)) ((rw c.in-None-pop.is at c.pop.ensures.items) ∙ rw empty refl) in
    let is = c.in_ok-push-in-None-pop.ensures.items ∙ rw empty refl in
    rw (given, is) (refl, given_lawful c.args.self c.args.token.now _ given c.requires.lawful)

pub returns-in-Some-pop : goal.returns-in-Some-pop
returns-in-Some-pop c =
    let start = c.into_iter-part-iterator.ensures.into_iter_gives in
    let t = YieldsList-end (YieldsList-from_slice_split {s = c.into_iter-part-iterator.result} _ (λ b. b == 32)
    c.args.token.now (rw start c.split-part-items.ensures.rest) (rw start c.split-part-items.ensures.done)
    (rw start c.split-part-items.ensures.closure) (λ x b q k. search rules)) c.loop-part.yielded _
    c.loop-part.yielded_by _ _ c.in-None.is c.next.ensures.steps in
    let given = some_given (gives c.args.self) (subtokens c.args.token.now) (length c.loop-part.yielded)
    c.loop-part.text.items c.loop-part.invariant (omega (arith, t.1)) c.pop.new.self.items _
    (rw c.in-Some-pop.is at c.pop.ensures.items) in
    rw given (refl, given_lawful c.args.self c.args.token.now c.pop.new.self.items given c.requires.lawful)

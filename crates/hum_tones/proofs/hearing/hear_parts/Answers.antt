use Rattle.std.proofs.Common.{rules, ◌==◌, length, arith, refl}
use Rattle.std.proofs.lemmas.Iterator.Splits.{YieldsList-from_slice_split}
use Rattle.std.proofs.lemmas.Iterator.Consumers.{YieldsList-turn, YieldsList-end}
use Rattle.std.proofs.lemmas.List.{length_push}
use Rattle.hum_kern.specs.Note.{reading}
use Rattle.hum_tones.specs.Subtokens.{subtokens}
use Rattle.hum_tones.proofs.TokenTone.{one_more, refused, all_heard}
use Rattle.hum_tones.proofs.hearing.hear_parts.Goals as goal

pub loop-part-preserved : goal.loop-part-preserved
loop-part-preserved c =
    let start = c.into_iter-part-iterator.ensures.into_iter_gives in
    let t = YieldsList-turn (YieldsList-from_slice_split {s = c.into_iter-part-iterator.result} _ (λ b. b == 32)
    c.args.token.now (rw start c.split-part-items.ensures.rest) (rw start c.split-part-items.ensures.done)
    (rw start c.split-part-items.ensures.closure) (λ x b q k. search rules)) c.loop-part.yielded _
    c.loop-part.yielded_by _ _ c.in-Some.part c.in-Some.is c.next.ensures.steps in
    rw (length_push c.loop-part.yielded c.in-Some.part)
    (one_more (subtokens c.args.token.now) (length c.loop-part.yielded) c.loop-part.heard
    c.loop-part.invariant c.in-Some.part.now (reading c.in-Ok.note) c.with-heard.result t
    c.in-Ok.ensures.read c.with-heard.ensures)

pub returns-in-Err : goal.returns-in-Err
returns-in-Err c =
    let start = c.into_iter-part-iterator.ensures.into_iter_gives in
    let t = YieldsList-turn (YieldsList-from_slice_split {s = c.into_iter-part-iterator.result} _ (λ b. b == 32)
    c.args.token.now (rw start c.split-part-items.ensures.rest) (rw start c.split-part-items.ensures.done)
    (rw start c.split-part-items.ensures.closure) (λ x b q k. search rules)) c.loop-part.yielded _
    c.loop-part.yielded_by _ _ c.in-Some.part c.in-Some.is c.next.ensures.steps in
    rw (
      refused (subtokens c.args.token.now) (length c.loop-part.yielded) c.loop-part.heard
          c.loop-part.invariant c.in-Some.part.now c.in-Err.fault t c.in-Err.ensures.read,
      c.rule_of.ensures,
    ) refl

pub returns : goal.returns
returns c =
    let start = c.into_iter-part-iterator.ensures.into_iter_gives in
    let t = YieldsList-end (YieldsList-from_slice_split {s = c.into_iter-part-iterator.result} _ (λ b. b == 32)
    c.args.token.now (rw start c.split-part-items.ensures.rest) (rw start c.split-part-items.ensures.done)
    (rw start c.split-part-items.ensures.closure) (λ x b q k. search rules)) c.loop-part.yielded _
    c.loop-part.yielded_by _ _ c.in-None.is c.next.ensures.steps in
    all_heard (subtokens c.args.token.now) (length c.loop-part.yielded) c.loop-part.heard c.loop-part.invariant (omega (arith, t.1))

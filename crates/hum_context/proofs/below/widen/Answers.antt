use Rattle.std.proofs.Common.{◌∙◌, ◌∷◌, [], arith, length-append, None, Option, ℕ}
use Rattle.hum_context.proofs.Places.{get_more_none}
use Rattle.hum_context.proofs.below.widen.Goals as goal

pub loop-preserved : goal.loop-preserved
loop-preserved c =
    let items = c.in_ok-push.ensures.items in
    let sum = length-append {A = Option ℕ} c.loop.places.items (None ∷ []) in
    let wide = c.loop.invariant.wide in
    record {
      kept = λ n. rw items (get_more_none c.loop.places.items n ∙ c.loop.invariant.kept n);
      wide = rw items (omega (arith, sum, wide));
    }

pub returns-clause-wide : goal.returns-clause-wide
returns-clause-wide c =
    let wide = c.loop.invariant.wide in
    let over = c.loop-test.false in
    omega (arith, wide, over)

use Rattle.std.proofs.Common.{◌≡◌, ◌<◌, ℕ, arith, length, length-append, subst, [], ◌∷◌}
use Rattle.hum_context.specs.Walking.{Stands}
use Rattle.hum_context.proofs.Standing.{stand_last, stand_in}
use Rattle.hum_context.proofs.sharing.place.Goals as goal

pub loop-preserved : goal.loop-preserved
loop-preserved c =
    let items = c.in_ok-push.ensures.items in
    let sum = length-append c.loop.walks.items (c.from.result ∷ []) in
    let wide = c.loop.invariant.wide in
    let none = c.from.ensures.at in
    record {
      wide = rw items (omega (arith, sum, wide));
      stand = λ o path first rows h. stand_last o path first rows _ _ c.from.result
          (c.loop.invariant.stand o path first rows h)
          (λ beyond. absurd (omega (arith, none, beyond))) items;
    }

pub returns-then-len-i : goal.returns-then-len-i
returns-then-len-i c o path first rows h s =
    let size = c.loop.walks.ok.0 in
    let len = c.len.ensures in
    let here = c.if-len-i.true in
    let same : c.args.i ≡ length c.loop.walks.items = omega (arith, size, len, here) in
    stand_last o path first rows c.loop.walks.items _ c.args.walk
    (c.loop.invariant.stand o path first rows h)
    (subst (λ (m : ℕ). first < c.args.walk.at → Stands o path first rows m c.args.walk) same s) c.in_ok-push-2.ensures.items

pub returns-then-other-walk : goal.returns-then-other-walk
returns-then-other-walk c o path first rows h s =
    stand_in o path first rows c.loop.walks.items c.args.i c.args.walk
    (c.loop.invariant.stand o path first rows h) s

pub index-other-requires : goal.index-other-requires
index-other-requires c =
    let size = c.loop.walks.ok.0 in
    let wide = c.loop.invariant.wide in
    let over = c.loop-test.false in
    let len = c.len.ensures in
    let other = c.if-len-i.false in
    omega (arith, size, wide, over, len, other)

pub index_mut-requires : goal.index_mut-requires
index_mut-requires c =
    let size = c.loop.walks.ok.0 in
    let wide = c.loop.invariant.wide in
    let over = c.loop-test.false in
    let len = c.len.ensures in
    let other = c.if-len-i.false in
    omega (arith, size, wide, over, len, other)

pub returns-else-other-walk : goal.returns-else-other-walk
returns-else-other-walk c o path first rows h s = c.loop.invariant.stand o path first rows h

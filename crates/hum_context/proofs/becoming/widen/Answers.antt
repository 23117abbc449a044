use Rattle.std.proofs.Common.{arith, length-append, [], ◌∷◌}
use Rattle.hum_context.proofs.Standing.{stand_push}
use Rattle.hum_context.proofs.becoming.widen.Goals as goal

pub loop-j-preserved : goal.loop-j-preserved
loop-j-preserved c =
    let items = c.in_ok-push.ensures.items in
    let sum = length-append c.loop-j.walks.items (c.from.result ∷ []) in
    let wide = c.loop-j.invariant.wide in
    record {
      wide = rw items (omega (arith, sum, wide));
      stand = λ o path rows h. stand_push o path c.args.gone rows _ _ c.from.result
          (c.loop-j.invariant.stand o path rows h) c.from.ensures.at items;
    }

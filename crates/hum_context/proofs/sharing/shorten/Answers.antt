use Rattle.std.proofs.Common.{◌≡◌, ◌∙◌, refl, sym, ap, arith, Some}
use Rattle.std.proofs.lemmas.List.{length-set}
use Rattle.std.specs.Prelude.{slice_get}
use Rattle.hum_context.specs.declared.walk.Walk.{Walk}
use Rattle.hum_context.proofs.Standing.{get_there}
use Rattle.hum_context.proofs.Shorter.{short_none, short_more, short_all, shared_stand}
use Rattle.hum_context.proofs.sharing.shorten.Goals as goal

pub loop-j-init : goal.loop-j-init
loop-j-init c = record {
  wide = refl;
  stand = λ o path first row rows want known h. short_none o path first row rows _ h;
}

pub loop-j-preserved : goal.loop-j-preserved
loop-j-preserved c =
    let wide = c.loop-j.invariant.wide in
    let size = c.args.walks.now.ok.0 in
    let end = c.len-j-end.ensures in
    let test = c.loop-j-test.true in
    let walks = c.loop-j.walks.items in
    let old = c.index_mut.result.now in
    let at : slice_get walks c.loop-j.j ≡ Some old =
    get_there walks c.loop-j.j old (omega (arith, wide, size, end, test))
    ∙ ap (λ (w : Walk). Some w) (sym c.index_mut.ensures.value) in
    record {
      wide = length-set walks c.loop-j.j c.lose.new.self ∙ wide;
      stand = λ o path first row rows want known h.
          let s = c.loop-j.invariant.stand o path first row rows want known h in
          short_more o path first row rows c.loop-j.j walks c.lose.new.self s
          (shared_stand o path first row rows c.loop-j.j c.loop-j.j c.args.kept.now old c.lose.new.self
          known (c.requires c.loop-j.j) (s.long c.loop-j.j old at (omega arith)) c.lose.ensures.at
          (λ front below has moved. c.lose.ensures.has o path row front c.loop-j.j want known below has moved));
    }

pub returns : goal.returns
returns c o path first row rows want known h =
    let over = c.loop-j-test.false in
    let wide = c.loop-j.invariant.wide in
    let size = c.args.walks.now.ok.0 in
    let end = c.len-j-end.ensures in
    short_all o path first row rows c.loop-j.j _ (c.loop-j.invariant.stand o path first row rows want known h)
    (omega (arith, over, wide, size, end))

use Rattle.std.proofs.Common.{◌∙◌, ap, sym, Some}
use Rattle.std.proofs.lemmas.Option.{slice_get-get_or}
use Rattle.std.proofs.lemmas.Result.{err_from_is_err_and}
use Rattle.hum_net.proofs.Bundling.{counted_none, counted_next, counted_all, lacks_one}
use Rattle.hum_net.proofs.Bundling.{filled_none, filled_next, filled_all, lacks_here}
use Rattle.hum_net.proofs.scores.readers.Goals as goal

pub loop-k-init : goal.loop-k-init
loop-k-init g c = rw c.new-readers.ensures.items (counted_none, λ known. filled_none)

pub loop-k-preserved : goal.loop-k-preserved
loop-k-preserved g c =
    let here = ap Some c.index-stages-k.is ∙ sym (slice_get-get_or _ _ _ c.loop-k-test.true) in (
      counted_next {stage = c.index-stages-k.result} c.loop-k.invariant.0 here c.in_ok-add_reader.ensures.many,
      λ known. filled_next {stage = c.index-stages-k.result} (c.loop-k.invariant.1 known) here
          (c.in_ok-add_reader.ensures.added known),
    )

pub returns-in_err-add_reader-clause-lacks : goal.returns-in_err-add_reader-clause-lacks
returns-in_err-add_reader-clause-lacks g c =
    let p = err_from_is_err_and c.from_residual.result c.from_residual.ensures.1 in
    let here = ap Some c.index-stages-k.is ∙ sym (slice_get-get_or _ _ _ c.loop-k-test.true) in
    rw (p.1, p.2) (lacks_one _ _ {stage = c.index-stages-k.result} here _ c.in_err-add_reader.ensures.lacks)

pub returns-in_err-add_reader-clause-lacks_now : goal.returns-in_err-add_reader-clause-lacks_now
returns-in_err-add_reader-clause-lacks_now g c known =
    let p = err_from_is_err_and c.from_residual.result c.from_residual.ensures.1 in
    rw (p.1, p.2) (lacks_here {stage = c.index-stages-k.result} (c.loop-k.invariant.1 known)
    (ap Some c.index-stages-k.is ∙ sym (slice_get-get_or _ _ _ c.loop-k-test.true)) _
    (c.in_err-add_reader.ensures.lacks_here known))

pub returns : goal.returns
returns g c = record {
  count = counted_all c.loop-k.invariant.0 c.loop-k-test.false;
  there = λ known. (filled_all (c.loop-k.invariant.1 known) c.loop-k-test.false).there;
  told = λ known. (filled_all (c.loop-k.invariant.1 known) c.loop-k-test.false).told;
  lacks = tt;
  lacks_now = λ known. tt;
}

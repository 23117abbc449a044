use Rattle.std.proofs.Common.{◌∙◌, sym, arith}
use Rattle.hum_timebase.proofs.Spanning.{none_at, end_by-next, end_by-all}
use Rattle.hum_timebase.proofs.ends.end_by.Goals as goal

pub loop-j-init : goal.loop-j-init
loop-j-init c =
    let is = c.min-j.ensures in
    let high = c.high.ensures in
    record { within = omega arith; below = omega arith; end = none_at c.args.from c.args.ends.now c.high.result c.min-j.result high is }

pub loop-j-preserved : goal.loop-j-preserved
loop-j-preserved c =
    let low = c.low-first.ensures in
    record {
      within = omega arith;
      below = omega arith;
      end = end_by-next c.args.from c.args.ends.now c.loop-j.j c.index-ends-j.result c.loop-j.end
          c.later-end.result (omega arith) c.loop-j.invariant.within c.loop-j.invariant.below (omega arith)
          c.index-ends-j.is c.loop-j.invariant.end c.later-end.ensures;
    }

pub returns : goal.returns
returns c = let low = c.low-first.ensures in c.loop-j.invariant.end ∙ sym (end_by-all c.args.from c.args.ends.now c.loop-j.j (omega arith))

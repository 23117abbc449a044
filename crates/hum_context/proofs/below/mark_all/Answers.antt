use Rattle.std.proofs.Common.{◌∙◌, ap, arith, cond, Option, Some, ℕ}
use Rattle.std.specs.Prelude.{◌==◌}
use Rattle.hum_context.proofs.Places.{marked_none, marked_more, marked_all}
use Rattle.hum_context.proofs.below.mark_all.Goals as goal

pub loop-j-init : goal.loop-j-init
loop-j-init c = record {
  from = omega arith;
  marked = λ n. marked_none c.args.first c.args.last n _ _;
}

pub loop-j-preserved : goal.loop-j-preserved
loop-j-preserved c =
    let from = c.loop-j.invariant.from in
    let test = c.loop-j-test.true in
    let place = c.args.place in
    let j = c.loop-j.j in
    record {
      from = omega (arith, from);
      marked = λ n. c.in_ok-mark.ensures n
          ∙ (ap (λ (x : Option ℕ). cond (j == n) (Some place) x) (c.loop-j.invariant.marked n)
          ∙ marked_more c.args.first c.args.last j n _ _ from (omega (arith, test)));
    }

pub returns : goal.returns
returns c n =
    let over = c.loop-j-test.false in
    c.loop-j.invariant.marked n
    ∙ marked_all c.args.first c.args.last c.loop-j.j n _ _ (omega (arith, over))

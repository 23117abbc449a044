use Rattle.std.proofs.lemmas.Bool.Decides.{nat_tests}
use Rattle.std.proofs.Common.{◌≡◌, arith}
use Rattle.std.proofs.lemmas.Result.{err_from_is_err_and}
use Rattle.hum_record.proofs.Picked.{picks, passes, picked}
use Rattle.hum_record.proofs.selection.Selection.new.Goals.{then-marks-j+in_ok-push, else-marks-j}
use Rattle.hum_record.proofs.selection.Selection.new.Goals as goal

pub loop-j-preserved : goal.loop-j-preserved
loop-j-preserved c = elim c.if-marks-j.branch [
  | then-marks-j+in_ok-push w ↦
      rw (w.moved-is, w.in_ok-push.ensures.items)
      (picks c.args.marks.now c.loop-j.j c.loop-j.moved.items _ c.loop-j-test.true c.loop-j.invariant w.if-marks-j.true)
  | else-marks-j w ↦ grind (arith, nat_tests, passes)
]

pub invariant_of-result : goal.invariant_of-result
invariant_of-result c =
    let each : c.extend_from_slice.new.self.items ≡ c.args.marks.now =
    rw c.new-each.ensures.items at c.in_ok-extend_from_slice.ensures.items in
    let front = c.count_in_front-front.ensures in
    rw each (front, picked c.args.marks.now c.loop-j.j _ c.loop-j.moved.items c.loop-j-test.false front c.loop-j.invariant)

pub returns-in_err-push : goal.returns-in_err-push
returns-in_err-push c =
    let p = err_from_is_err_and c.from_residual.result c.from_residual.ensures.1 in rw p.1 tt

pub returns-in_err-extend_from_slice : goal.returns-in_err-extend_from_slice
returns-in_err-extend_from_slice c =
    let p = err_from_is_err_and c.from_residual-in_err-extend_from_slice.result c.from_residual-in_err-extend_from_slice.ensures.1 in rw p.1 tt

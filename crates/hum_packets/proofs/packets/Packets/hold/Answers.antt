use Rattle.std.proofs.Common.{ap, length, arith}
use Rattle.std.proofs.lemmas.Result.{err_from_is_err_and}
use Rattle.hum_packets.proofs.Feeding.{fed-trans, serves-trans}
use Rattle.hum_packets.proofs.packets.Packets.hold.Goals as goal

pub returns-in_err-send-clause-serves : goal.returns-in_err-send-clause-serves
returns-in_err-send-clause-serves g c =
    let p = err_from_is_err_and c.from_residual.result c.from_residual.ensures.1 in
    rw (p.1, p.2) (serves-trans c.loop-answers.invariant.1 c.in_err-send.ensures.serves)

pub returns-in_err-fill-clause-serves : goal.returns-in_err-fill-clause-serves
returns-in_err-fill-clause-serves g c =
    let p = err_from_is_err_and c.from_residual-in_err-fill.result c.from_residual-in_err-fill.ensures.1 in
    rw (p.1, p.2, c.in_err-fill.ensures.stop) (serves-trans c.loop-answers.invariant.1 c.in_ok-send.ensures.serves)

pub returns-in_err-fill-clause-held : goal.returns-in_err-fill-clause-held
returns-in_err-fill-clause-held g c =
    let p = err_from_is_err_and c.from_residual-in_err-fill.result c.from_residual-in_err-fill.ensures.1 in
    rw (p.1, p.2, c.in_err-fill.ensures.stop) (
      omega (arith, c.loop-answers-test.true, ap length c.pending.ensures, ap length c.in_err-fill.ensures.same),
      (c.fill.new.self.source, c.in_err-fill.ensures.failed),
    )

pub returns-then-not-branch-clause-serves : goal.returns-then-not-branch-clause-serves
returns-then-not-branch-clause-serves g c = serves-trans c.loop-answers.invariant.1 c.in_ok-send.ensures.serves

pub loop-answers-preserved : goal.loop-answers-preserved
loop-answers-preserved g c =
    (fed-trans c.loop-answers.invariant.0 c.in_ok-fill.ensures.fed, serves-trans c.loop-answers.invariant.1 c.in_ok-send.ensures.serves)

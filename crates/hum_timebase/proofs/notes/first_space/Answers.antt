use Rattle.std.proofs.Common.{arith}
use Rattle.hum_timebase.proofs.Lasts.{run_more, run_ends, run_none}
use Rattle.hum_timebase.proofs.notes.first_space.Goals as goal

pub loop-n-preserved : goal.loop-n-preserved
loop-n-preserved c =
    let test = c.loop-n-test.true in
    let is = c.loop-n.invariant.run in
    let more = run_more c.args.text.now c.loop-n.n test c.if-text-n-ne32.true in
    record { within = omega (arith, test); run = omega (arith, is, more) }

pub returns-else-text-n-ne32-clause-first : goal.returns-else-text-n-ne32-clause-first
returns-else-text-n-ne32-clause-first c =
    let is = c.loop-n.invariant.run in
    let ends = run_ends c.args.text.now c.loop-n.n c.loop-n-test.true c.if-text-n-ne32.false in
    omega (arith, is, ends)

pub returns-after-loop-n-clause-first : goal.returns-after-loop-n-clause-first
returns-after-loop-n-clause-first c =
    let is = c.loop-n.invariant.run in
    let none = run_none c.args.text.now c.loop-n.n c.loop-n-test.false in
    omega (arith, is, none)

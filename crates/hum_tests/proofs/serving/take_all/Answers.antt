use Rattle.hum_assemble.specs.Standing.{Stands}
use Rattle.hum_tests.proofs.Wanted.{taken_on}
use Rattle.hum_tests.proofs.serving.take_all.Goals as goal

pub loop-preserved : goal.loop-preserved
loop-preserved g c t stand =
    let at = c.loop.invariant t stand in
    let ok = rw c.expect.ensures at c.take.ensures.ok in
    taken_on (Stands c.take.new.self) c.expect.result t at.0 (ok (record t { given = at.0 }) at.1).1

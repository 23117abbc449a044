use Rattle.std.proofs.Common.{ℕ}
use Rattle.hum_assemble.specs.Meaning.{Moment}
use Rattle.hum_assemble.specs.Standing.{Stands}
use Rattle.hum_tests.proofs.serving.take_all.Given as goal

abbrev pub invariant-loop : goal.invariant-loop
invariant-loop g l =
    (t : Moment) → Stands l.fn.stage t → (n : ℕ) × Stands l.stage (record t { given = n })

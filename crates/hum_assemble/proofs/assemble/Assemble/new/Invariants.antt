use Rattle.std.proofs.Common.{◌≡◌, [], replicate}
use Rattle.std.specs.Prelude.{None}
use Rattle.hum_assemble.specs.Source.{untouched}
use Rattle.hum_assemble.proofs.assemble.Assemble.new.Given as goal

abbrev pub invariant-loop : goal.invariant-loop
invariant-loop l = l.heads.items ≡ replicate l.counter (untouched None [])

use Rattle.std.proofs.Common.{◌≡◌, ◌++◌, replicate}
use Rattle.hum_record.proofs.building.RecordBuilder.push_nulls.Given as goal

abbrev pub invariant-loop : goal.invariant-loop
invariant-loop l = l.self ≡ record l.initial.self { tokens = l.initial.self.tokens ++ replicate l.counter l.null }

use Rattle.std.proofs.Common.{◌≡◌}
use Rattle.hum_score.specs.declared.records.SpinedKind.TheVariants.{Values}
use Rattle.hum_tests.proofs.memory.tokens_are_taken_until_memory_runs_out.Given as goal

abbrev pub invariant-loop : goal.invariant-loop
invariant-loop g l = l.builder.kind ≡ Values

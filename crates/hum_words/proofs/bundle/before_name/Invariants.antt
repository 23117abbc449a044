use Rattle.std.proofs.Common.{◌≡◌, ◌++◌, ◌≤◌, drop, take, length}
use Rattle.hum_words.specs.Bundle.{before_name, lines}
use Rattle.hum_words.proofs.bundle.before_name.Given as goal

abbrev pub invariant-loop-rest : goal.invariant-loop-rest
invariant-loop-rest l = record {
  within : l.len ≤ length l.bytes;
  rest : l.rest ≡ drop l.len l.bytes;
  before : before_name (lines l.bytes) ≡ take l.len l.bytes ++ before_name (lines l.rest);
}

abbrev pub decreases-loop-rest : goal.decreases-loop-rest
decreases-loop-rest l = length l.rest

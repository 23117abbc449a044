use Rattle.std.proofs.Common.{◌≡◌, ◌+◌, ◌++◌, length}
use Rattle.hum_tones.proofs.short_token.put_many.Given as goal

abbrev pub invariant-loop-rest : goal.invariant-loop-rest
invariant-loop-rest l = record {
  all : l.text.items ++ l.rest ≡ l.initial.text.items ++ l.bytes;
  len : length l.text.items + length l.rest ≡ length l.initial.text.items + length l.bytes;
}

abbrev pub decreases-loop-rest : goal.decreases-loop-rest
decreases-loop-rest l = length l.rest

use Rattle.std.proofs.Common.{◌≡◌, ◌*◌, length, take}
use Rattle.hum_record.proofs.wide.copy_words.Given as goal

abbrev pub invariant-loop-k : goal.invariant-loop-k
invariant-loop-k l = (take (64 * l.k) l.text ≡ take (64 * l.k) l.held) × (length l.text ≡ length l.fn.text)

use Rattle.std.proofs.Common.{◌≡◌, ◌*◌, length, take}
use Rattle.hum_record.proofs.wide.copy_groups.Given as goal

abbrev pub invariant-loop-k : goal.invariant-loop-k
invariant-loop-k l = (take (8 * l.k) l.places ≡ take (8 * l.k) l.held) × (length l.places ≡ length l.fn.places)

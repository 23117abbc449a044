use Rattle.std.proofs.Common.{◌≡◌, ◌≤◌, length, drop}
use Rattle.hum_record.specs.Cutting.{bits_of}
use Rattle.hum_record.proofs.bits.bits_one_by_one.Given as goal

abbrev pub invariant-loop-i : goal.invariant-loop-i
invariant-loop-i l = (l.i ≤ length l.text) × (l.bits ≡ bits_of l.byte (drop l.i l.text))

abbrev pub decreases-loop-i : goal.decreases-loop-i
decreases-loop-i l = l.i

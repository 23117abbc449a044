use Rattle.std.proofs.Common.{◌≡◌, ℕ, ◌<◌, ◌≤◌, ◌-◌, false, length, get_or}
use Rattle.memchr.specs.Find.{is_byte}
use Rattle.hum_text.proofs.near.near_lf.Given as goal

abbrev pub invariant-loop-at : goal.invariant-loop-at
invariant-loop-at l = ((k : ℕ) → k < l.at → is_byte 10 (get_or l.bytes k 0) ≡ false) × (l.at ≤ length l.bytes)

abbrev pub decreases-loop-at : goal.decreases-loop-at
decreases-loop-at l = 256 - l.at

use Rattle.std.proofs.Common.{◌≡◌, ℕ, ◌<◌, true, false, get_or}
use Rattle.hum_record.proofs.selection.count_in_front.Given as goal

abbrev pub invariant-loop-front : goal.invariant-loop-front
invariant-loop-front l = (k : ℕ) → k < l.front → get_or l.marks k false ≡ true

use Rattle.std.proofs.Common.{◌≡◌, ◌≤◌, ℕ, length, get_or, None}
use Rattle.hum_context.proofs.below.widen.Given as goal

abbrev pub invariant-loop : goal.invariant-loop
invariant-loop l = record {
  kept : (c : ℕ) → get_or l.places.items c None ≡ get_or l.fn.places.items c None;
  wide : l.counter ≤ length l.places.items;
}

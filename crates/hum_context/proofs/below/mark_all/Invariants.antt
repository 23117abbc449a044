use Rattle.std.proofs.Common.{◌≡◌, ◌≤◌, ◌&&◌, ℕ, get_or, cond, None, Some}
use Rattle.std.specs.Prelude.{nat_le, nat_lt}
use Rattle.hum_context.proofs.below.mark_all.Given as goal

abbrev pub invariant-loop-j : goal.invariant-loop-j
invariant-loop-j l = record {
  from : l.first ≤ l.j;
  marked : (c : ℕ) → get_or l.places.items c None
      ≡ cond (nat_le l.first c && (nat_lt c l.j && nat_le c l.last)) (Some l.place)
      (get_or l.fn.places.items c None);
}

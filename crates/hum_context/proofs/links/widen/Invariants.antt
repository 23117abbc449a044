use Rattle.std.proofs.Common.{◌≡◌, ◌≤◌, ℕ, length, get_or}
use Rattle.hum_context.specs.Leads.{no_ways}
use Rattle.hum_context.proofs.links.widen.Given as goal

abbrev pub invariant-loop : goal.invariant-loop
invariant-loop l = record {
  kept : (c : ℕ) → get_or l.ways.items c no_ways ≡ get_or l.fn.ways.items c no_ways;
  wide : l.counter ≤ length l.ways.items;
}

use Rattle.std.proofs.Common.{◌≡◌, ◌≤◌, ℕ, length, Some, slice_get}
use Rattle.hum_turns.specs.Links.{fresh}
use Rattle.hum_engine.specs.declared.link.Link.{Link}
use Rattle.hum_engine.specs.Links.{IsLink}
use Rattle.hum_engine.proofs.web.Web.new.Given as goal

abbrev pub invariant-loop : goal.invariant-loop
invariant-loop g l = record {
  count : length l.links.items ≡ l.counter;
  within : l.counter ≤ l.end;
  each : (k : ℕ) (link : Link) → slice_get l.links.items k ≡ Some link → IsLink l.size link fresh;
}

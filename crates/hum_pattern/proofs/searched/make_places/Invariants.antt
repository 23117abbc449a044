use Rattle.std.proofs.Common.{ℕ, List}
use Rattle.hum_pattern.specs.Searching.{AllFound}
use Rattle.hum_pattern.proofs.searched.make_places.Given as goal

abbrev pub invariant-loop : goal.invariant-loop
invariant-loop l = (text : List ℕ) → AllFound text l.initial.searched.items → AllFound text l.searched.items

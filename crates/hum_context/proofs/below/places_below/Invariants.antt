use Rattle.std.proofs.Common.{◌≡◌, ◌-◌, ℕ, drop, length, get_or, None}
use Rattle.std.specs.List.{position_from}
use Rattle.hum_path.specs.Chains.{goes_on}
use Rattle.hum_context.proofs.below.places_below.Given as goal

abbrev pub invariant-loop-n : goal.invariant-loop-n
invariant-loop-n l = (c : ℕ) → get_or l.places.items c None
    ≡ position_from (goes_on c) (length l.moves - l.n) (drop (length l.moves - l.n) l.moves)

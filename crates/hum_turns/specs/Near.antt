-- Which links an actor looks at, and that a turn leaves all others as they are.
use Rattle.std.specs.Prelude.{◌≡◌, ◌⊎◌, ℕ, ◌<◌, ◌≤◌, List, Some, slice_get}
use Rattle.hum_turns.specs.Plan.{Plan, IsPlan, last}
use Rattle.hum_turns.specs.Links.{Moment}
use Rattle.hum_turns.specs.Turns.{State, Gives, Reads, Takes, Ends, ready, Step}

abbrev pub IsOneOf : List ℕ → ℕ → Type 0
IsOneOf ss i = (place : ℕ) × (slice_get ss place ≡ Some i)

-- A stage looks at its own link and at those of its sources, the sink at the last stage's.
abbrev pub LooksAt : {R : Type 0} → Plan R → ℕ → ℕ → Type 0
LooksAt plan k i =
    ((k < plan.count) × ((i ≡ k) ⊎ IsOneOf (plan.stage k).sources i))
    ⊎ ((plan.count ≤ k) × (i ≡ last plan))

-- The one link that an actor's turn changes: the one that it takes from, or its own.
abbrev pub touched : ℕ → State → ℕ
touched k Gives = k
touched k Reads = k
touched k (Takes s) = s
touched k Ends = k

-- No link that actor k looks at is one that actor j looks at.
abbrev pub AreApart : {R : Type 0} → Plan R → ℕ → ℕ → Type 0
AreApart plan k j = (i : ℕ) → LooksAt plan k i → LooksAt plan j i → ⊥

-- A turn changes no link but those that its actor looks at, so who looks at none of these is as
-- ready as before.
pub record LeavesAlone {R : Type 0} (plan : Plan R) (size k : ℕ) (old new : Moment R)
    : Type 0 where
  pub links : (i : ℕ) → (LooksAt plan k i → ⊥) → new i ≡ old i
  pub ready : (j : ℕ) → AreApart plan k j → ready plan size new j ≡ ready plan size old j

-- Every turn of every actor.
abbrev pub EveryTurnIsNear : Type 0 → Type 0
EveryTurnIsNear R = (plan : Plan R) (size k : ℕ) (old new : Moment R) → IsPlan plan
    → Step plan size k old new → LeavesAlone plan size k old new

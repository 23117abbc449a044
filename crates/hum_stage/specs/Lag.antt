-- How long records wait for later ones, and how many are held.
use Rattle.std.specs.Prelude.{ℕ, zero, suc, ◌+◌, ◌-◌, ◌<◌, ◌≤◌, Bool, true, false, not}
use Rattle.std.specs.Prelude.{List, [], ◌∷◌, take, length}
use Rattle.std.specs.List.{prefix_len, range_with_len}
use Rattle.hum_score.specs.Row.{Row}
use Rattle.hum_score.specs.InOrder.{IsScore}
use Rattle.hum_stage.specs.Outcome.{Outcome, Becomes, Refused, Undecided, settled, held_of}

abbrev pub is_decided : Outcome → Bool
is_decided (Becomes rows) = true
is_decided (Refused rule) = true
is_decided Undecided = false

-- whether the record at place i of a list is decided, from 0
abbrev pub decided_at : ℕ → List Outcome → Bool
decided_at i [] = false
decided_at zero (o ∷ os) = is_decided o
decided_at (suc i) (o ∷ os) = decided_at i os

-- the same of a list that ends with n records behind that one
abbrev pub decided_with : (List Row → List Outcome) → List Row → ℕ → ℕ → Bool
decided_with outcomes p i n = decided_at i (outcomes (take (i + 1 + n) p))

-- The lag of the record at place i: the least number of records behind it with which it is decided;
-- where there are too few, how many there are.
abbrev pub lag : (List Row → List Outcome) → List Row → ℕ → ℕ
lag outcomes p i =
    prefix_len (λ n. not (decided_with outcomes p i n)) (range_with_len 0 (length p - (i + 1)))

-- no record of a list lags more
abbrev pub LagsAtMost : (List Row → List Outcome) → ℕ → List Row → Type 0
LagsAtMost outcomes n p = (i : ℕ) → i < length p → lag outcomes p i ≤ n

-- Each record of a list was put where all that was settled before it is among the first g given: the
-- stage wanted it.
abbrev pub ArePutAtWants : (List Row → List Outcome) → List Row → ℕ → Type 0
ArePutAtWants outcomes p g =
    (k : ℕ) → k < length p → length (settled (outcomes (take k p))) ≤ g

-- Of records that were put so, at most one more is held than the greatest lag.
abbrev pub HoldsByLag : (List Row → List Outcome) → Type 0
HoldsByLag outcomes =
    (p : List Row) (g n : ℕ) (ended : Bool) → IsScore p → ArePutAtWants outcomes p g
    → LagsAtMost outcomes n p → held_of g ended (outcomes p) ≤ n + 1

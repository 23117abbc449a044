-- Orders: who has the next turn, by a rule that sees which actors are ready and may remember.
use Rattle.std.specs.Prelude.{◌≡◌, ℕ, zero, suc, ◌+◌, ◌≤◌, ◌<◌}
use Rattle.std.specs.Prelude.{Bool, true, false, ◌||◌, List, []}
use Rattle.std.specs.Prelude.{◌∷◌, ◌++◌, map, get_or, None, if◌then◌else◌}
use Rattle.hum_turns.specs.declared.order.Side.{Side}
use Rattle.hum_turns.specs.declared.order.Side.TheVariants as side
use Rattle.hum_turns.specs.Plan.{Plan, IsPlan}
use Rattle.hum_turns.specs.Failures.{Now, result, is_ready, SameNow, Turn, IsFirst, HoldsNow}

-- What an order of this type picks from the actors that are ready, and what it is after that pick.
pub record Order (O : Type 0) : Type 0 where
  pub pick : O → List Bool → ℕ
  pub next : O → List Bool → O

-- the numbers below n
abbrev pub upto : ℕ → List ℕ
upto zero = []
upto (suc n) = upto n ++ n ∷ []

-- Which actors are ready, stage by stage, the sink last.
abbrev pub ready_list : {R : Type 0} → Plan R → ℕ → Now R → List Bool
ready_list plan size now = map (is_ready plan size now) (upto (plan.count + 1))

abbrev pub first_true : List Bool → ℕ
first_true [] = 0
first_true (true ∷ bs) = 0
first_true (false ∷ bs) = suc (first_true bs)

abbrev pub some_true : List Bool → Bool
some_true [] = false
some_true (b ∷ bs) = b || some_true bs

abbrev pub last_true : List Bool → ℕ
last_true [] = 0
last_true (b ∷ bs) = if some_true bs then suc (last_true bs) else 0

-- the one furthest to a side
abbrev pub outermost : Side → List Bool → ℕ
outermost side.Left bs = first_true bs
outermost side.Right bs = last_true bs

-- An order that picks the actor furthest to this side that is ready, at each moment, and remembers
-- nothing.
pub record LeansTo {O : Type 0} (to : Side) (picks : O → List Bool → ℕ) (after : O → List Bool → O)
    (o : O) : Type 0 where
  pub outermost_is : (ready : List Bool) → picks o ready ≡ outermost to ready
  pub stays : (ready : List Bool) → after o ready ≡ o

-- A pick that isn't ready counts as the leftmost actor that is.
abbrev pub chosen : List Bool → ℕ → ℕ
chosen bs pick = if get_or bs pick false then pick else first_true bs

-- the actor whose turn is next
abbrev pub choice : {R O : Type 0} → Order O → Plan R → ℕ → O → Now R → ℕ
choice order plan size o now =
    chosen (ready_list plan size now) (order.pick o (ready_list plan size now))

-- The turns that an order drives, from one moment and state of the order to another.
abbrev pub Driven : {R O : Type 0} → Order O → Plan R → ℕ → (R → List ℕ)
    → O → Now R → List ℕ → Now R → O → Type 0
Driven order plan size bytes o old [] new p = SameNow old new × (p ≡ o)
Driven {R} order plan size bytes o old (k ∷ ks) new p =
    (between : Now R) × (k ≡ choice order plan size o old) × Turn plan size bytes k old between
    × Driven order plan size bytes (order.next o (ready_list plan size old)) between ks new p

-- Where an order has led.
pub record Leads {R O : Type 0} (order : Order O) (plan : Plan R) (size : ℕ) (bytes : R → List ℕ)
    (turns : List ℕ) (now : Now R) (p : O) : Type 0 where
  -- all that holds of every list of turns
  pub holds : HoldsNow plan size bytes turns now
  -- until the run has ended the order's choice is an actor that is ready
  pub goes_on : result plan now ≡ None
      → (choice order plan size p now ≤ plan.count)
      × (is_ready plan size now (choice order plan size p now) ≡ true)

-- Every order, whatever it picks and remembers.
abbrev pub EveryPick : Type 0 → Type 0 → Type 0
EveryPick R O = (order : Order O) (plan : Plan R) (size : ℕ) (bytes : R → List ℕ)
    → IsPlan plan → 0 < size → (turns : List ℕ) (first now : Now R) (o p : O)
    → IsFirst first → Driven order plan size bytes o first turns now p
    → Leads order plan size bytes turns now p

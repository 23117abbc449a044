-- What holds at each moment that a run reaches, in whatever order its actors had their turns.
use Rattle.std.specs.Prelude.{◌≡◌, ℕ, ◌<◌, ◌≤◌, true, false, List, length}
use Rattle.hum_turns.specs.Flow.{Begins}
use Rattle.hum_turns.specs.Plan.{Plan, IsPlan, last}
use Rattle.hum_turns.specs.Meaning.{meaning, plan_meaning}
use Rattle.hum_turns.specs.Links.{Moment, given, linked, view, IsOpening, is_over, Agrees}
use Rattle.hum_turns.specs.Turns.{ready, Step, Run}
use Rattle.hum_turns.specs.Counts.{turns_of, most, most_in_all, bound}

pub record SomeReady {R : Type 0} (plan : Plan R) (size : ℕ) (m : Moment R) : Type 0 where
  pub actor : ℕ
  pub within : actor ≤ plan.count
  pub is_ready : ready plan size m actor ≡ true

pub record HasTurn {R : Type 0} (plan : Plan R) (size : ℕ) (m : Moment R) (k : ℕ) : Type 0 where
  pub next : Moment R
  pub step : Step plan size k m next

pub record Holds {R : Type 0} (plan : Plan R) (size : ℕ) (turns : List ℕ) (m : Moment R)
    : Type 0 where
  -- what each link has had is a prefix of what its stage means,
  pub front : (k : ℕ) → k < plan.count → Begins (given (m k)) (meaning plan k).items
  -- also in every other plan that agrees as far as bytes were read
  pub any_rest : (other : Plan R) → IsPlan other → Agrees plan other m
      → (k : ℕ) → k < plan.count → Begins (given (m k)) (meaning other k).items
  pub agrees : Agrees plan plan m
  -- a link holds no more than its size
  pub links : (k : ℕ) → k < plan.count → linked (m k) ≤ size
  -- until the run is over some actor is ready, and each ready one has a turn
  pub progress : is_over plan m ≡ false → SomeReady plan size m
  pub goes : (k : ℕ) → k ≤ plan.count → ready plan size m k ≡ true → HasTurn plan size m k
  -- the turns of each actor, and of all, are bounded by what was moved, and a run by its plan
  pub each : (k : ℕ) → turns_of k turns ≤ most plan m k
  pub all : length turns ≤ most_in_all plan m
  pub bounded : length turns ≤ bound plan
  -- when it is over, the sink has had the plan's whole list and its end
  pub whole : is_over plan m ≡ true → view (m (last plan)) ≡ plan_meaning plan

-- Every run of every plan, for every size of its links.
abbrev pub EveryOrder : Type 0 → Type 0
EveryOrder R = (plan : Plan R) (size : ℕ) → IsPlan plan → 0 < size
    → (turns : List ℕ) (first m : Moment R) → IsOpening first → Run plan size first turns m
    → Holds plan size turns m

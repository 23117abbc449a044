-- What a stage means, over whole lists.
use Rattle.std.specs.Prelude.{◌≡◌, ℕ, ◌+◌, ◌-◌, ◌<◌, ◌≤◌, nat_lt, nat_le, List, [], ◌∷◌}
use Rattle.std.specs.Prelude.{◌++◌, length}
use Rattle.std.specs.Prelude.{if◌then◌else◌, Option, Some, None, is_some, drop}
use Rattle.std.specs.Prelude.{MatchOption, slice_get}
use Rattle.hum_stage.specs.declared.faults.Rule.{Rule}
use Rattle.hum_words.specs.declared.commands.Command.{Command}
use Rattle.hum_stage.specs.declared.faults.Fault.{Fault}
use Rattle.hum_stage.specs.declared.faults.End.{End}
use Rattle.hum_stage.specs.declared.faults.End.TheVariants.{Closed, Broken}
use Rattle.hum_stage.specs.declared.faults.State.{State}
use Rattle.hum_stage.specs.declared.faults.State.TheVariants.{Wants, Gives, Done}
use Rattle.hum_stage.specs.declared.faults.Readiness.{Readiness}
use Rattle.hum_stage.specs.declared.faults.Readiness.TheVariants as ready
use Rattle.hum_score.specs.Row.{Row}
use Rattle.hum_score.specs.InOrder.{IsScore, IsClosed}
use Rattle.hum_record.specs.Room.{rooms_for}
use Rattle.hum_stage.specs.Lag.{LagsAtMost, ArePutAtWants, HoldsByLag}
use Rattle.hum_stage.specs.Outcome.{Outcome, Becomes, Refused, Undecided, AllDecided, settled, refusal, held_of}
use Rattle.hum_stage.specs.declared.TheConstants.{MOST_RECORDS}

-- the number of the stage, its command, and what that makes of each record of a list
pub record Meaning : Type 0 where
  pub stage : ℕ
  pub command : Command
  pub outcomes : List Row → List Outcome

abbrev pub output : Meaning → List Row → List Row
output m p = settled (m.outcomes p)

abbrev pub fault_at : ℕ → Command → Option (ℕ × Rule) → Option Fault
fault_at stage command None = None
fault_at stage command (Some r) =
    Some (record { stage = stage; command = command; line = r.0; rule = r.1 })

-- the stage's own fault
abbrev pub own_fault : Meaning → List Row → Option Fault
own_fault m p = fault_at m.stage m.command (refusal 1 (m.outcomes p))

-- the input's fault, else the own one, else closed
abbrev pub end_of : End → Option Fault → End
end_of (Broken f) own = Broken f
end_of Closed None = Closed
end_of Closed (Some f) = Broken f

-- what a stage means, the records that were put, how many were given, and the end once it came
pub record Moment : Type 0 where
  pub meaning : Meaning
  pub put : List Row
  pub given : ℕ
  pub ended : Option End

-- nothing was put yet
abbrev pub opening : Meaning → Moment
opening m = record { meaning = m; put = []; given = 0; ended = None }

abbrev pub after_put : Moment → Row → Moment
after_put t r =
    record { meaning = t.meaning; put = t.put ++ r ∷ []; given = t.given; ended = t.ended }

abbrev pub after_take : Moment → Moment
after_take t = record { meaning = t.meaning; put = t.put; given = t.given + 1; ended = t.ended }

abbrev pub after_end : Moment → End → Moment
after_end t e = record { meaning = t.meaning; put = t.put; given = t.given; ended = Some e }

-- all that is settled
abbrev pub all_of : Moment → List Row
all_of t = output t.meaning t.put

-- all that is settled was given, and no end came
abbrev pub settled_moment : Meaning → List Row → Moment
settled_moment m p = record { meaning = m; put = p; given = length (output m p); ended = None }

abbrev pub resting_state : Option Fault → Option End → State
resting_state own None = Wants
resting_state own (Some e) = Done (end_of e own)

abbrev pub state_of : Moment → State
state_of t =
    if nat_lt t.given (length (all_of t)) then Gives
    else resting_state (own_fault t.meaning t.put) t.ended

-- a state without its end
abbrev pub readiness_by : State → Readiness
readiness_by Wants = ready.Wants
readiness_by Gives = ready.Gives
readiness_by (Done end) = ready.Done

abbrev pub held_at : Moment → ℕ
held_at t = held_of t.given (is_some t.ended) (t.meaning.outcomes t.put)

-- Of the records that were put those that aren't served: from the first on whose whole list isn't among the g
-- given; none once one was refused.
abbrev pub unserved : ℕ → List Outcome → List Row → List Row
unserved g [] rows = []
unserved g (o ∷ os) [] = []
unserved g (Becomes made ∷ os) (row ∷ rows) =
    if nat_le (length made) g then unserved (g - length made) os rows else row ∷ rows
unserved g (Refused rule ∷ os) (row ∷ rows) = []
unserved g (Undecided ∷ os) (row ∷ rows) = row ∷ rows

-- the records that wait: what is settled and wasn't given, and what isn't served
abbrev pub waiting_rows : Moment → List Row
waiting_rows t = drop t.given (all_of t) ++ unserved t.given (t.meaning.outcomes t.put) t.put

-- No record lags more than n; and at each moment where every record was put when the stage wanted
-- it, n + 1 are held at most.
pub record IsWithinLag (n : ℕ) (m : Meaning) : Type 0 where
  pub lags : (p : List Row) → LagsAtMost m.outcomes n p
  pub holds : (t : Moment) → t.meaning ≡ m → IsScore t.put → ArePutAtWants m.outcomes t.put t.given
      → held_at t ≤ n + 1

-- a stage that wants may be given this record
pub record MayPut (stands : Moment → Type 0) (r : Row) : Type 0 where
  pub at : Moment
  pub stand : stands at
  pub wants : state_of at ≡ Wants
  pub score : IsScore (at.put ++ r ∷ [])
  pub few : length at.put < MOST_RECORDS

-- a stage that wants may be given this end
pub record MayEnd (stands : Moment → Type 0) (e : End) : Type 0 where
  pub at : Moment
  pub stand : stands at
  pub wants : state_of at ≡ Wants
  pub closed : e ≡ Closed → IsClosed at.put

-- the record that comes next was taken, the last one that was held
pub record TookFirst (after : Moment → Type 0) (t : Moment) (first : Row) : Type 0 where
  pub next : Some first ≡ slice_get (all_of t) t.given
  pub held : held_at t ≡ 1
  pub stand : after (after_take t)

-- The calls of a stage, by what it stands for before and after.

-- the input goes on with this record
abbrev pub HasPut : (Moment → Type 0) → (Moment → Type 0) → Row → Type 0
HasPut before after row =
    (t : Moment) → before t → t.ended ≡ None → IsScore (t.put ++ row ∷ []) → after (after_put t row)

-- The input goes on with this record, and the first of what was settled by then was taken, or none. Until
-- it was taken one record was held.
abbrev pub HasPutAndTaken : (Moment → Type 0) → (Moment → Type 0) → Row → Option Row → Type 0
HasPutAndTaken before after row taken =
    (t : Moment) → before t → t.ended ≡ None → IsScore (t.put ++ row ∷ [])
    → MatchOption taken (after (after_put t row)) (λ first. TookFirst after (after_put t row) first)

-- the input has ended
abbrev pub HasEnded : (Moment → Type 0) → (Moment → Type 0) → End → Type 0
HasEnded before after end = (t : Moment) → before t → t.ended ≡ None → after (after_end t end)

-- the next record that is settled was taken, or there was none
abbrev pub HasTaken : (Moment → Type 0) → (Moment → Type 0) → Option Row → Type 0
HasTaken before after taken =
    (t : Moment) → before t
    → (taken ≡ slice_get (all_of t) t.given)
    × MatchOption taken (after t) (λ _. after (after_take t))

-- where a record was taken, fewer are left
abbrev pub LeavesFewer : Option Row → ℕ → ℕ → Type 0
LeavesFewer None before after = Unit {0}
LeavesFewer (Some row) before after = after < before

abbrev pub ShowsState : (Moment → Type 0) → State → Type 0
ShowsState stands state = (t : Moment) → stands t → state ≡ state_of t

abbrev pub ShowsReadiness : (Moment → Type 0) → Readiness → Type 0
ShowsReadiness stands is = (t : Moment) → stands t → is ≡ readiness_by (state_of t)

abbrev pub ShowsHeld : (Moment → Type 0) → ℕ → Type 0
ShowsHeld stands held = (t : Moment) → stands t → held ≡ held_at t

-- what waits takes no more than what it says needs
abbrev pub ShowsRoom : (Moment → Type 0) → ℕ → Type 0
ShowsRoom stands room = (t : Moment) → stands t → room ≤ rooms_for (waiting_rows t)

-- with one record more, what was settled stays
abbrev pub Goes : List Outcome → List Outcome → Type 0
Goes [] new = Unit {0}
Goes (Becomes rows ∷ os) [] = ⊥
Goes (Becomes rows ∷ os) (n ∷ ns) = (n ≡ Becomes rows) × Goes os ns
Goes (Refused rule ∷ os) [] = ⊥
Goes (Refused rule ∷ os) (n ∷ ns) = n ≡ Refused rule
Goes (Undecided ∷ os) new = Unit {0}

-- in a closed score no record waits for a later one
abbrev pub DecidesClosed : (List Row → List Outcome) → Type 0
DecidesClosed outcomes = (p : List Row) → IsClosed p → AllDecided (outcomes p)

-- what every command keeps
pub record IsLawful (m : Meaning) : Type 0 where
  pub each : (p : List Row) → length (m.outcomes p) ≡ length p
  pub grows : (p : List Row) (r : Row) → IsScore (p ++ r ∷ [])
      → Goes (m.outcomes p) (m.outcomes (p ++ r ∷ []))
  -- Of records that were put when the stage wanted them, at most one more is held than the greatest
  -- lag.
  pub holds : HoldsByLag m.outcomes
  pub decides : DecidesClosed m.outcomes
  pub limited : (p : List Row) → length p ≤ MOST_RECORDS → length (output m p) ≤ MOST_RECORDS

-- Of scores it makes scores: of a closed one a closed one, unless it refuses.
pub record KeepsScore (outcomes : List Row → List Outcome) : Type 0 where
  pub score : (p : List Row) → IsScore p → IsScore (settled (outcomes p))
  pub closed : (p : List Row) → IsClosed p → refusal 1 (outcomes p) ≡ None
      → IsClosed (settled (outcomes p))

abbrev pub given_to : Moment → ℕ → Moment
given_to t n = record { meaning = t.meaning; put = t.put; given = n; ended = t.ended }

-- from before to after, records of all that is settled at t were taken, up to the n-th
pub record TookTo (new : Moment → Type 0) (before after : List Row) (t : Moment) (n : ℕ)
    : Type 0 where
  pub stand : new (given_to t n)
  pub list : after ++ drop n (all_of t) ≡ before ++ drop t.given (all_of t)

-- what a run over a whole list gives, and how it ends
abbrev pub IsWhole : Meaning → List Row → End → List Row → End → Type 0
IsWhole m records end given ending =
    (given ≡ output m records) × (ending ≡ end_of end (own_fault m records))

-- what is left of all that is settled was taken
pub record TookAll (new : Moment → Type 0) (before after : List Row) (t : Moment) : Type 0 where
  pub stand : new (given_to t (length (all_of t)))
  pub list : after ≡ before ++ drop t.given (all_of t)

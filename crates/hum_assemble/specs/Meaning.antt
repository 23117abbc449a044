-- What assemble means, over whole lists of records so far.
use Rattle.std.specs.Prelude.{◌≡◌, ℕ, zero, suc, ◌+◌, ◌<◌, nat_lt, Bool, true, false}
use Rattle.std.specs.Prelude.{List, [], ◌∷◌, ◌++◌, map, length, replicate, if◌then◌else◌}
use Rattle.std.specs.Prelude.{Option, None, Some, is_none, MatchOption, slice_get}
use Rattle.std.specs.List.{AllByRecursion, position_from}
use Rattle.hum_score.specs.Row.{Row}
use Rattle.hum_stage.specs.declared.faults.Rule.{Rule}
use Rattle.hum_stage.specs.declared.faults.Fault.{Fault}
use Rattle.hum_words.specs.declared.commands.Command.TheVariants.{Assemble}
use Rattle.hum_stage.specs.declared.faults.End as end
use Rattle.hum_stage.specs.declared.faults.End.TheVariants.{Closed, Broken}
use Rattle.hum_stage.specs.declared.faults.State as state
use Rattle.hum_stage.specs.declared.faults.State.TheVariants.{Gives}
use Rattle.hum_stage.specs.Meaning.{fault_at, resting_state}
use Rattle.hum_score.specs.InOrder.{IsScore, IsClosed}
use Rattle.hum_assemble.specs.declared.places.Next as next
use Rattle.hum_assemble.specs.declared.places.Next.TheVariants.{Gives as GivesAt, Refused}
use Rattle.hum_assemble.specs.declared.places.Next.TheVariants.{Wants as WantsOf, Over}
use Rattle.hum_assemble.specs.Source.{Source, untouched}
use Rattle.hum_assemble.specs.Change.{Input, Change, had_at}
use Rattle.hum_assemble.specs.Merge.{Merge, ahead, given_row, given_on}
use Rattle.hum_stage.specs.declared.TheConstants.{MOST_RECORDS}

abbrev pub begun : Input → Source
begun x = untouched x.ended x.put

abbrev pub opening : List Input → Merge
opening xs = record { sources = map begun xs; given = 0 }

-- The records that can be given one after another, at most n.
abbrev pub gives : ℕ → Merge → List Row
gives zero m = []
gives (suc n) m = elim (ahead m) [
  | GivesAt p ↦ given_row p m ∷ gives n (given_on p m)
  | Refused rule ↦ []
  | WantsOf j ↦ []
  | Over ↦ []
]

-- The merge after these.
abbrev pub goes_on : ℕ → Merge → Merge
goes_on zero m = m
goes_on (suc n) m = elim (ahead m) [
  | GivesAt p ↦ goes_on n (given_on p m)
  | Refused rule ↦ m
  | WantsOf j ↦ m
  | Over ↦ m
]

-- How many records are still to be given. Each record that is given takes one of these at least.
abbrev pub total : List Source → ℕ
total [] = 0
total (s ∷ ss) = length s.coming + total ss

abbrev pub all_given : Merge → List Row
all_given m = gives (total m.sources) m

-- The merge when no more can be given.
abbrev pub rest : Merge → Merge
rest m = goes_on (total m.sources) m

-- What is given for the inputs so far.
abbrev pub output : List Input → List Row
output xs = all_given (opening xs)

-- The rule that the next record would break, and its number.
abbrev pub refusal : ℕ → next.Next → Option (ℕ × Rule)
refusal line (Refused rule) = Some (line, rule)
refusal line (GivesAt p) = None
refusal line (WantsOf j) = None
refusal line Over = None

-- The stage's own fault, at the number of the record that isn't given.
abbrev pub own_fault : ℕ → List Input → Option Fault
own_fault stage xs =
    let m = rest (opening xs) in fault_at stage Assemble (refusal (m.given + 1) (ahead m))

-- Of an assembler: its stage's number, what was put into each source with the ends that came, and
-- how many records were given.
pub record Moment : Type 0 where
  pub stage : ℕ
  pub inputs : List Input
  pub given : ℕ

-- all that is settled
abbrev pub all_of : Moment → List Row
all_of t = output t.inputs

abbrev pub after_take : Moment → Moment
after_take t = record t { given = t.given + 1 }

abbrev pub after : ℕ → Change → Moment → Moment
after j change t = record t { inputs = had_at j change t.inputs }

-- the lower-numbered fault
abbrev pub lower : end.End → end.End → end.End
lower Closed b = b
lower (Broken f) Closed = Broken f
lower (Broken f) (Broken g) = if nat_lt g.stage f.stage then Broken g else Broken f

abbrev pub with_end : Option end.End → Option end.End → Option end.End
with_end None ends = None
with_end (Some e) None = None
with_end (Some e) (Some f) = Some (lower e f)

-- The lowest-numbered fault of the inputs, once all have ended.
abbrev pub inputs_end : List (Option end.End) → Option end.End
inputs_end [] = Some Closed
inputs_end (ended ∷ more) = with_end ended (inputs_end more)

abbrev pub ends : List Input → List (Option end.End)
ends xs = map (λ x. x.ended) xs

-- It gives while it has records that are settled, then wants until every source has ended.
abbrev pub state_of : Moment → state.State
state_of t =
    if nat_lt t.given (length (all_of t)) then Gives
    else resting_state (own_fault t.stage t.inputs) (inputs_end (ends t.inputs))

-- The source whose record is needed; once nothing more can be given, the leftmost that hasn't
-- ended.
abbrev pub wanted : next.Next → List (Option end.End) → Option ℕ
wanted (WantsOf j) ended = Some j
wanted (GivesAt p) ended = position_from is_none 0 ended
wanted (Refused rule) ended = position_from is_none 0 ended
wanted Over ended = position_from is_none 0 ended

abbrev pub wants_of : Moment → Option ℕ
wants_of t =
    if nat_lt t.given (length (all_of t)) then None
    else wanted (ahead (rest (opening t.inputs))) (ends t.inputs)

-- Nothing more can be given, whatever comes.
abbrev pub is_stopped : next.Next → Bool
is_stopped (GivesAt p) = false
is_stopped (WantsOf j) = false
is_stopped (Refused rule) = true
is_stopped Over = true

abbrev pub held_by : List Source → next.Next → ℕ
held_by sources step = if is_stopped step then 0 else total sources

abbrev pub held_in : Merge → ℕ
held_in m = held_by m.sources (ahead m)

-- How many records that were put stand in no record given, as long as more can be given.
abbrev pub held_at : Moment → ℕ
held_at t = held_in (goes_on t.given (opening t.inputs))

-- the records that wait, of each source one at most
abbrev pub heads : List Source → List Row
heads [] = []
heads (s ∷ ss) = s.coming ++ heads ss

abbrev pub waiting_by : List Source → next.Next → List Row
waiting_by sources step = if is_stopped step then [] else heads sources

abbrev pub waiting_in : Merge → List Row
waiting_in m = waiting_by m.sources (ahead m)

-- Those of the records that were put that stand in no record given, as long as more can be given.
abbrev pub waiting_at : Moment → List Row
waiting_at t = waiting_in (goes_on t.given (opening t.inputs))

abbrev pub put_of : ℕ → List Input → List Row
put_of j [] = []
put_of zero (x ∷ xs) = x.put
put_of (suc j) (x ∷ xs) = put_of j xs

-- An assembler that wants a record of this source may be given this one.
pub record MayPut (stands : Moment → Type 0) (j : ℕ) (row : Row) : Type 0 where
  pub at : Moment
  pub stand : stands at
  pub wants : wants_of at ≡ Some j
  pub score : IsScore (put_of j at.inputs ++ row ∷ [])
  pub few : length (put_of j at.inputs) < MOST_RECORDS

-- And this end.
pub record MayEnd (stands : Moment → Type 0) (j : ℕ) (e : end.End) : Type 0 where
  pub at : Moment
  pub stand : stands at
  pub wants : wants_of at ≡ Some j
  pub closed : e ≡ Closed → IsClosed (put_of j at.inputs)

-- The calls of an assembler, by what it stands for before and after.

-- the wanted source goes on by a record, or ends
abbrev pub HasChanged : (Moment → Type 0) → (Moment → Type 0) → ℕ → Change → Type 0
HasChanged before after_it j change =
    (t : Moment) → before t → wants_of t ≡ Some j → after_it (after j change t)

-- what was settled stays, and more may come
abbrev pub HasGrown : (Moment → Type 0) → ℕ → Change → Type 0
HasGrown before j change =
    (t : Moment) → before t → wants_of t ≡ Some j
    → (more : List Row) × (all_of t ++ more ≡ all_of (after j change t))

-- the next record that is settled was taken, or there was none
abbrev pub HasTaken : (Moment → Type 0) → (Moment → Type 0) → Option Row → Type 0
HasTaken before after_it taken =
    (t : Moment) → before t
    → (taken ≡ slice_get (all_of t) t.given)
    × MatchOption taken (after_it t) (λ _. after_it (after_take t))

-- Of so many sources nothing was put yet.
abbrev pub empty_moment : ℕ → ℕ → Moment
empty_moment stage sources =
    record {
      stage = stage;
      inputs = replicate sources (record { put = []; ended = None });
      given = 0;
    }

-- A score was put into each source, a closed one where it ended so.
abbrev pub AreScores : List Input → Type 0
AreScores = AllByRecursion (λ x. IsScore x.put × (x.ended ≡ Some Closed → IsClosed x.put))

-- Of scores it makes scores: of closed ones a closed one, unless it refuses.
pub record KeepsScores (stage : ℕ) : Type 0 where
  pub score : (xs : List Input) → AreScores xs → IsScore (output xs)
  pub closed : (xs : List Input) → AreScores xs → inputs_end (ends xs) ≡ Some Closed
      → own_fault stage xs ≡ None → IsClosed (output xs)

-- Of one source alone all records are given as they are, unless it refuses one.
abbrev pub GivesOneAsItIs : Type 0
GivesOneAsItIs =
    (stage : ℕ) (x : Input) → IsScore x.put → own_fault stage (x ∷ []) ≡ None
    → output (x ∷ []) ≡ x.put

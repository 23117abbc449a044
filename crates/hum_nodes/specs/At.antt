-- What a node stands for, and what its calls make of that.
use Rattle.std.specs.Prelude.{◌≡◌, ℕ, zero, suc, ◌+◌, ◌≤◌, Bool, true, if◌then◌else◌, nat_lt, List, [], ◌∷◌, ◌++◌, map}
use Rattle.std.specs.Prelude.{length, Option, Some, MatchOption, slice_get, slice_set}
use Rattle.hum_score.specs.Row.{Row}
use Rattle.hum_stage.specs.declared.faults.End.{End}
use Rattle.hum_turns.specs.Flow.{Flow, so_far, AllFine}
use Rattle.hum_turns.specs.Plan.{Want, Bytes, Source, Nothing, Stage, AreInputs, end_of}
use Rattle.hum_nodes.specs.Doing.{Doing, Gives, Reads, Wants, Done}
use Rattle.hum_stage.specs.declared.faults.Readiness.{Readiness}
use Rattle.hum_stage.specs.declared.faults.Readiness.TheVariants as ready
use Rattle.hum_nodes.specs.Fine.{fine}

-- A stage; how many records wait inside it, by what it has had of its inputs and how many it has
-- given; what these say; and whether they are at most one of each input.
pub record Kind : Type 0 where
  pub stage : Stage Row
  pub holds : List (Flow Row) → ℕ → ℕ
  pub waits : List (Flow Row) → ℕ → List Row
  pub one_each : Bool

-- What it has had of its inputs, how many bytes it has read, and how many records it has given.
pub record At : Type 0 where
  pub kind : Kind
  pub inputs : List (Flow Row)
  pub read : ℕ
  pub given : ℕ

-- a list in which this is set at each of these places
abbrev pub set_each : List ℕ → ℕ → List ℕ → List ℕ
set_each [] k list = list
set_each (place ∷ places) k list = set_each places k (slice_set list place k)

-- a stage that has had nothing
abbrev pub fresh : Kind → At
fresh kind = record {
  kind = kind;
  inputs = map (λ s. so_far []) kind.stage.sources;
  read = 0;
  given = 0;
}

abbrev pub sources_of : At → List ℕ
sources_of t = t.kind.stage.sources

abbrev pub bytes_of : At → ℕ
bytes_of t = t.kind.stage.bytes

-- all that is settled
abbrev pub output_of : At → List Row
output_of t = t.kind.stage.output t.read t.inputs

-- its end, once it has given all
abbrev pub ending_of : At → End
ending_of t = end_of t.kind.stage t.read t.inputs

abbrev pub holds_of : At → ℕ
holds_of t = t.kind.holds t.inputs t.given

abbrev pub waits_of : At → List Row
waits_of t = t.kind.waits t.inputs t.given

-- Where at most one record of each input waits, so many are no more than these inputs.
abbrev pub HoldsOneEach : Kind → ℕ → ℕ → Type 0
HoldsOneEach kind inputs many = kind.one_each ≡ true → many ≤ inputs

abbrev pub doing_by : Want → End → Doing
doing_by Bytes end = Reads
doing_by (Source place) end = Wants place
doing_by Nothing end = Done end

-- It gives while something is settled that it hasn't given, then goes on by what it wants.
abbrev pub doing_of : At → Doing
doing_of t =
    if nat_lt t.given (length (output_of t)) then Gives
    else doing_by (t.kind.stage.wants t.read t.inputs) (ending_of t)

-- The same without the place and the end. What reads gives next, or reads on.
abbrev pub readiness_of : Doing → Readiness
readiness_of Gives = ready.Gives
readiness_of Reads = ready.Gives
readiness_of (Wants place) = ready.Wants
readiness_of (Done end) = ready.Done

-- It gives no more records than a score may have.
abbrev pub IsLimited : Stage Row → Type 0
IsLimited stage =
    (r : ℕ) (a : List (Flow Row)) → r ≤ stage.bytes → AreInputs fine stage a
    → length (stage.output r a) ≤ 4294967295

-- How it goes on.

abbrev pub read_to : ℕ → At → At
read_to n t = record t { read = n }

abbrev pub after_take : At → At
after_take t = record t { given = t.given + 1 }

-- a change of the flow at a place
abbrev pub change_at : (Flow Row → Flow Row) → ℕ → List (Flow Row) → List (Flow Row)
change_at change place [] = []
change_at change zero (f ∷ fs) = change f ∷ fs
change_at change (suc place) (f ∷ fs) = f ∷ change_at change place fs

-- a record more
abbrev pub with_record : Row → Flow Row → Flow Row
with_record row f = record f { items = f.items ++ row ∷ [] }

abbrev pub with_end : End → Flow Row → Flow Row
with_end end f = record f { end = Some end }

abbrev pub after_change : (Flow Row → Flow Row) → ℕ → At → At
after_change change place t = record t { inputs = change_at change place t.inputs }

-- What is asked before a call.

-- it stands for something of which this holds
pub record MayDo (stands : At → Type 0) (Holds : At → Type 0) : Type 0 where
  pub at : At
  pub stand : stands at
  pub holds : Holds at

-- it wants from this place, and with what it gets there its inputs may still lie on links
pub record MayChange (t : At) (change : Flow Row → Flow Row) (place : ℕ) : Type 0 where
  pub wants : doing_of t ≡ Wants place
  pub fine : AllFine fine (change_at change place t.inputs)

abbrev pub MayPut : (At → Type 0) → ℕ → Row → Type 0
MayPut stands place row = MayDo stands (λ t. MayChange t (with_record row) place)

abbrev pub MayStop : (At → Type 0) → ℕ → End → Type 0
MayStop stands place end = MayDo stands (λ t. MayChange t (with_end end) place)

-- The calls, by what it stands for before and after.

-- the input that it wants has changed
abbrev pub HasChanged : (At → Type 0) → (At → Type 0) → ℕ → (Flow Row → Flow Row) → Type 0
HasChanged before after place change =
    (t : At) → before t → MayChange t change place → after (after_change change place t)

abbrev pub HasPut : (At → Type 0) → (At → Type 0) → ℕ → Row → Type 0
HasPut before after place row = HasChanged before after place (with_record row)

abbrev pub HasStopped : (At → Type 0) → (At → Type 0) → ℕ → End → Type 0
HasStopped before after place end = HasChanged before after place (with_end end)

-- the next record that is settled was taken, or there was none
abbrev pub HasTaken : (At → Type 0) → (At → Type 0) → Option Row → Type 0
HasTaken before after taken =
    (t : At) → before t
    → (taken ≡ slice_get (output_of t) t.given)
    × MatchOption taken (after t) (λ _. after (after_take t))

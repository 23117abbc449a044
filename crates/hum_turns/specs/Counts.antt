-- How many turns an actor can have had at a moment, and in a whole run.
use Rattle.std.specs.Prelude.{ℕ, zero, suc, pred, ◌+◌, min, if◌then◌else◌, nat_eq, nat_lt, List, []}
use Rattle.std.specs.Prelude.{◌∷◌, length}
use Rattle.hum_turns.specs.Plan.{Stage, Plan, last}
use Rattle.hum_turns.specs.Meaning.{meaning}
use Rattle.hum_turns.specs.Links.{Link, Moment, given}
use Rattle.hum_turns.specs.Turns.{is_source}

-- how many of the turns are actor k's
abbrev pub turns_of : ℕ → List ℕ → ℕ
turns_of k [] = 0
turns_of k (j ∷ js) = if nat_eq j k then 1 + turns_of k js else turns_of k js

-- The bytes that a source has read: its end of the bytes, which `read` counts too, is none.
abbrev pub bytes_read : {R : Type 0} → Stage R → Link R → ℕ
bytes_read stage l = min l.read (pred stage.bytes)

-- The records put into a stage: those taken from its sources.
abbrev pub put : {R : Type 0} → Moment R → List ℕ → ℕ
put m [] = 0
put m (s ∷ ss) = length (m s).taken + put m ss

-- For a source the bytes read and the records given, and 2; for another stage the records put and
-- given and the number of its inputs, and 1; for the sink the records written, and 1.
abbrev pub most_of_source : {R : Type 0} → Stage R → Link R → ℕ
most_of_source stage l = bytes_read stage l + length (given l) + 2

abbrev pub most_of_stage : {R : Type 0} → Stage R → Moment R → Link R → ℕ
most_of_stage stage m l = put m stage.sources + length (given l) + length stage.sources + 1

abbrev pub most_of_sink : {R : Type 0} → Link R → ℕ
most_of_sink l = length l.taken + 1

-- The most turns that actor k can have had.
abbrev pub most : {R : Type 0} → Plan R → Moment R → ℕ → ℕ
most plan m k =
    if is_source plan k
    then most_of_source (plan.stage k) (m k)
    else if nat_lt k plan.count
    then most_of_stage (plan.stage k) m (m k)
    else most_of_sink (m (last plan))

-- f 0 and so on up to f (n - 1), added up
abbrev pub total : (ℕ → ℕ) → ℕ → ℕ
total f zero = 0
total f (suc n) = total f n + f n

-- The most turns that all stages and the sink can have had.
abbrev pub most_in_all : {R : Type 0} → Plan R → Moment R → ℕ
most_in_all plan m = total (most plan m) (plan.count + 1)

-- Every byte was read, and each stage has given its whole meaning, which was taken.
abbrev pub all_done : {R : Type 0} → Plan R → Moment R
all_done plan k = record {
  read = (plan.stage k).bytes;
  taken = (meaning plan k).items;
  waiting = [];
  mark = (meaning plan k).end;
  heard = (meaning plan k).end;
}

-- The most turns that a run can have, whatever the order.
abbrev pub bound : {R : Type 0} → Plan R → ℕ
bound plan = most_in_all plan (all_done plan)

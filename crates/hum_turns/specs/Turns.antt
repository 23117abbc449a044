-- Turns: which actors are ready, and what one turn of one actor does. Actor k is stage k, and the
-- actor behind the last stage is the sink.
use Rattle.std.specs.Prelude.{◌≡◌, ◌≢◌, ◌⊎◌, ℕ, ◌+◌, ◌<◌, ◌≤◌, Bool, true, ◌&&◌}
use Rattle.std.specs.Prelude.{if◌then◌else◌, nat_lt, List}
use Rattle.std.specs.Prelude.{[], ◌∷◌, ◌++◌, length, Some, is_none, slice_get, slice_index}
use Rattle.hum_turns.specs.Flow.{Flow}
use Rattle.hum_turns.specs.Plan.{Want, Bytes, Source, Nothing, Stage, Plan, last, end_of}
use Rattle.hum_turns.specs.Links.{Link, Moment, given, inputs, settled, has_room, has_some, Same}

-- What an actor is about to do.
pub data State : Type 0 where
  -- puts onto its link the next record that is settled
  Gives : State
  -- reads bytes
  Reads : State
  -- takes from the link of this stage
  Takes : (source : ℕ) → State
  -- sets its end
  Ends : State

abbrev pub by_want : List ℕ → Want → State
by_want sources Bytes = Reads
by_want sources (Source j) = Takes (slice_index sources j)
by_want sources Nothing = Ends

-- A stage gives while something is settled that it hasn't given, then goes on by what it wants.
abbrev pub stage_state : {R : Type 0} → Stage R → Link R → List (Flow R) → State
stage_state stage l inputs =
    if nat_lt (length (given l)) (length (stage.output l.read inputs))
    then Gives
    else by_want stage.sources (stage.wants l.read inputs)

-- The sink takes from the last stage.
abbrev pub state : {R : Type 0} → Plan R → Moment R → ℕ → State
state plan m k =
    if nat_lt k plan.count
    then stage_state (plan.stage k) (m k) (inputs plan m k)
    else Takes (last plan)

-- Who is ready.

abbrev pub can : {R : Type 0} → ℕ → Moment R → ℕ → State → Bool
can size m k Gives = has_room size (m k)
can size m k Reads = has_room size (m k)
can size m k (Takes s) = has_some (m s)
can size m k Ends = is_none (m k).mark

abbrev pub is_source : {R : Type 0} → Plan R → ℕ → Bool
is_source plan k = nat_lt k plan.count && nat_lt 0 (plan.stage k).bytes

-- A source is ready while it hasn't set its end and its link has room, another actor where it can
-- do what it is about to do.
abbrev pub ready : {R : Type 0} → Plan R → ℕ → Moment R → ℕ → Bool
ready plan size m k =
    if is_source plan k
    then is_none (m k).mark && has_room size (m k)
    else can size m k (state plan m k)

-- What changes in a turn.

-- The link of stage k becomes this one, and no other changes.
pub record Becomes {R : Type 0} (k : ℕ) (l : Link R) (old new : Moment R) : Type 0 where
  pub here : new k ≡ l
  pub elsewhere : (i : ℕ) → i ≢ k → new i ≡ old i

-- a link with this record more behind those that wait
abbrev pub pushed : {R : Type 0} → Link R → R → Link R
pushed l x = record l { waiting = l.waiting ++ x ∷ [] }

-- the next record is taken, or the mark is heard where no record waits
abbrev pub popped : {R : Type 0} → Link R → List R → Link R
popped l [] = record l { heard = l.mark }
popped l (x ∷ rest) = record l { taken = l.taken ++ x ∷ []; waiting = rest }

-- what stage k's link is once the stage has set its end
abbrev pub marked : {R : Type 0} → Plan R → Moment R → ℕ → Link R
marked plan m k = record (m k) {
  mark = Some (end_of (plan.stage k) (m k).read (inputs plan m k));
}

-- The record that follows those given is put onto the link.
pub record HasGiven {R : Type 0} (plan : Plan R) (k : ℕ) (old new : Moment R) : Type 0 where
  pub next : R
  pub is_next : slice_get (settled plan old k) (length (given (old k))) ≡ Some next
  pub becomes : Becomes k (pushed (old k) next) old new

-- What an actor does that is about to do this; one that needs bytes has read them before.
abbrev pub Does : {R : Type 0} → Plan R → ℕ → State → Moment R → Moment R → Type 0
Does plan k Gives old new = HasGiven plan k old new
Does plan k Reads old new = Same old new
Does plan k (Takes s) old new = Becomes s (popped (old s) (old s).waiting) old new
Does plan k Ends old new = Becomes k (marked plan old k) old new

-- One byte or more is read, or the end of the bytes.
pub record HasRead {R : Type 0} (plan : Plan R) (k : ℕ) (old new : Moment R) : Type 0 where
  pub upto : ℕ
  pub more : (old k).read < upto
  pub within : upto ≤ (plan.stage k).bytes
  pub becomes : Becomes k (record (old k) { read = upto }) old new

-- Bytes are read, and what these bring is left to the next turn. Or all bytes were read before and their
-- end is read: then something is done at once.
pub record ReadsAndDoes {R : Type 0} (plan : Plan R) (k : ℕ) (old new : Moment R) : Type 0 where
  pub between : Moment R
  pub reads : HasRead plan k old between
  pub does : ((reads.upto < (plan.stage k).bytes) × Same between new)
      ⊎ (((old k).read + 1 ≡ (plan.stage k).bytes) × Does plan k (state plan between k) between new)

abbrev pub Turns : {R : Type 0} → Plan R → ℕ → State → Moment R → Moment R → Type 0
Turns plan k Gives old new = Does plan k Gives old new
Turns plan k Reads old new = ReadsAndDoes plan k old new
Turns plan k (Takes s) old new = Does plan k (Takes s) old new
Turns plan k Ends old new = Does plan k Ends old new

-- One turn of actor k, which is ready.
pub record Step {R : Type 0} (plan : Plan R) (size k : ℕ) (old new : Moment R) : Type 0 where
  pub within : k ≤ plan.count
  pub is_ready : ready plan size old k ≡ true
  pub turns : Turns plan k (state plan old k) old new

-- A run: the turns of these actors, one after another, each free to be any that is ready.
abbrev pub Run : {R : Type 0} → Plan R → ℕ → Moment R → List ℕ → Moment R → Type 0
Run plan size old [] new = Same old new
Run {R} plan size old (k ∷ ks) new =
    (between : Moment R) × Step plan size k old between × Run plan size between ks new

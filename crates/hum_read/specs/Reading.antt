-- A reader of scores: what it shows, what it has read, and what a poll gives.
use Rattle.std.specs.Prelude.{◌≡◌, ℕ, ◌<◌, ◌⊎◌, Bool, false, true, List, [], ◌∷◌}
use Rattle.std.specs.Prelude.{◌++◌, length}
use Rattle.std.specs.Prelude.{Option, None, Some, Result, Ok, Err}
use Rattle.hum_text.specs.declared.TextFault.{TextFault}
use Rattle.hum_text.specs.Calls.{IsCalled}
use Rattle.hum_text.specs.Reading.{Reader, opening, Holds, bytes_read, NeedsRead, IsUnread, IsRead}
use Rattle.hum_score.specs.Row.{Row}
use Rattle.hum_score.specs.Spines.{Unopened}
use Rattle.hum_path.specs.Tracked.{Tracked}
use Rattle.hum_stage.specs.declared.faults.End.{End}
use Rattle.hum_stage.specs.declared.faults.End.TheVariants.{Closed}
use Rattle.hum_score.specs.InOrder.{through, IsScore, IsClosed}
use Rattle.hum_read.specs.declared.ReadError.{ReadError}
use Rattle.hum_read.specs.declared.ReadError.TheVariants as error
use Rattle.hum_read.specs.Denoted.{Score, denoted, standard, score_of, end_at}

-- A reader of scores, as contracts see it: the number of its stage, its lines, the spines after the
-- records that it gave, and how it has stopped, if it has.
pub record Scores (R : Type 0) : Type 0 where
  pub stage : ℕ
  pub lines : Reader R
  pub spines : Tracked
  pub stopped : Option (Result End ReadError)

-- What a poll of the reader comes to: the next record; nothing yet, since it has made a read, which
-- gave bytes; or the end, since every record was given or a rule is broken.
pub data Polled : Type 0 where
  Gave : Row → Polled
  ReadOn : Polled
  Ended : End → Polled

-- Nothing was read yet.
pub record IsFresh {R : Type 0} (v : Scores R) : Type 0 where
  pub lines : v.lines ≡ opening v.lines.source standard
  pub spines : v.spines ≡ record { path = Unopened; spent = false }
  pub going : v.stopped ≡ None

-- records in front of a score
abbrev pub ahead : List Row → Score → Score
ahead rows score = record { rows = rows ++ score.rows; fault = score.fault }

-- Lines are read as these records: whatever lines follow, the score begins with the records.
abbrev pub AreRead : List (List ℕ) → List Row → Type 0
AreRead given rows =
    (more : List (List ℕ)) (broken : Option (ℕ × TextFault))
    → denoted Unopened 0 (given ++ more) broken
    ≡ ahead rows (denoted (through Unopened rows) (length rows) more broken)

-- Of all these bytes the reader has given these records, one for each line so far, and the rest is
-- still to be read.
pub record HasRead {R : Type 0} (v : Scores R) (all : List ℕ) (rows : List Row) (rest : List ℕ)
    : Type 0 where
  pub limits : v.lines.limits ≡ standard
  pub given : List (List ℕ)
  pub holds : Holds v.lines all given rest
  pub read : AreRead given rows
  pub score : IsScore rows
  pub path : v.spines.path ≡ through Unopened rows
  pub as_many : length given ≡ length rows

-- The bytes denote these records and this end, as the stage of this number tells it. It is closed
-- only where no spine is open.
pub record Denotes (stage : ℕ) (all : List ℕ) (rows : List Row) (end : End) : Type 0 where
  pub records : (score_of all).rows ≡ rows
  pub ending : end_at stage (score_of all).fault ≡ end
  pub closed : end ≡ Closed → IsClosed rows

-- What a poll gave after these records: the next record; nothing; the end, and they are all; or an
-- error, which says nothing of the bytes. `After` holds of the records that were given then.
abbrev pub Gives : ℕ → List ℕ → List Row → Result Polled ReadError → (List Row → Type 0) → Type 0
Gives stage all rows (Ok (Gave row)) After =
    After (rows ++ row ∷ []) × (length rows < standard.records)
Gives stage all rows (Ok ReadOn) After = After rows
Gives stage all rows (Ok (Ended end)) After = Denotes stage all rows end
Gives stage all rows (Err error) After = Unit {0}

-- However the input goes on after what the poll read, the poll gave what comes next there.
abbrev pub GivesNext : {R : Type 0} → Scores R → Result Polled ReadError → Scores R → Type 0
GivesNext old result new =
    (all : List ℕ) (rows : List Row) (rest : List ℕ)
    → HasRead old all rows (bytes_read old.lines new.lines ++ rest)
    → (new.lines.ended ≡ true → rest ≡ [])
    → Gives old.stage all rows result (λ after. HasRead new all after rest)

-- how a poll that answers this leaves the reader: an end and an error last
abbrev pub stop_of : Result Polled ReadError → Option (Result End ReadError)
stop_of (Ok (Gave row)) = None
stop_of (Ok ReadOn) = None
stop_of (Ok (Ended end)) = Some (Ok end)
stop_of (Err error) = Some (Err error)

-- what a reader answers that has stopped
abbrev pub answer_of : Result End ReadError → Result Polled ReadError
answer_of (Ok end) = Ok (Ended end)
answer_of (Err error) = Err error

-- at most one call was made
abbrev pub IsCalledAtMostOnce : {S : Type 0} → (S → ℕ) → (S → Bool) → S → S → Type 0
IsCalledAtMostOnce calls failed old new =
    (old ≡ new) ⊎ ((failure : Bool) × IsCalled calls failed old new failure)

-- A read is due: the reader has not stopped, and its lines need a read.
pub record IsDue {R : Type 0} (v : Scores R) : Type 0 where
  pub going : v.stopped ≡ None
  pub needs : NeedsRead v.lines

-- What a poll made of the read that was due. It gave bytes, or it failed, or it gave none and so the
-- end is marked. Where memory ran out, it was before the read or after the end.
abbrev pub ReadsOnce : {R : Type 0} → (R → ℕ) → (R → Bool) → Scores R → Result Polled ReadError
    → Scores R → Type 0
ReadsOnce calls failed old (Ok ReadOn) new = IsRead calls failed old.lines new.lines false false
ReadsOnce calls failed old (Err error.Read) new = IsRead calls failed old.lines new.lines true false
ReadsOnce calls failed old (Err error.Memory) new =
    IsUnread old.lines new.lines ⊎ IsRead calls failed old.lines new.lines false true
ReadsOnce calls failed old (Ok (Gave row)) new =
    IsRead calls failed old.lines new.lines false true
ReadsOnce calls failed old (Ok (Ended end)) new =
    IsRead calls failed old.lines new.lines false true

-- the end, or nearer to it
abbrev pub Nears : Polled → ℕ → ℕ → Type 0
Nears (Gave row) old new = new < old
Nears ReadOn old new = new < old
Nears (Ended end) old new = Unit {0}

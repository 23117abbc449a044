-- The parts of a poll: a line that was just given, the end of the lines, and a stop.
use Rattle.std.specs.Prelude.{◌≡◌, ◌≢◌, ℕ, ◌+◌, ◌≤◌, ◌⊎◌, Bool, true, List, [], ◌∷◌, ◌++◌, length}
use Rattle.std.specs.Prelude.{Option, None, Some, Result, Ok, Err, IfOk, IfSome}
use Rattle.std.specs.Io.KnownBytes.{Consumes, IsAtEnd}
use Rattle.hum_text.specs.declared.TextFault.{TextFault}
use Rattle.hum_text.specs.declared.TextFault.TheVariants as text
use Rattle.hum_text.specs.declared.calls.TheConstants.{LARGEST_READ}
use Rattle.hum_text.specs.Reading.{Reader, Holds, NeedsRead, IsUnread, IsFed, bytes_read, left_to_do}
use Rattle.hum_record.specs.Lines.{IsRead}
use Rattle.hum_score.specs.Row.{Row}
use Rattle.hum_score.specs.Spines.{Unopened}
use Rattle.hum_stage.specs.declared.faults.End.{End}
use Rattle.hum_score.specs.InOrder.{through, IsScore}
use Rattle.hum_stage.specs.declared.faults.Rule.{Rule}
use Rattle.hum_stage.specs.declared.faults.Rule.TheVariants.{S1, S2, S3, S7}
use Rattle.hum_read.specs.declared.ReadError.{ReadError}
use Rattle.hum_read.specs.declared.ReadError.TheVariants.{Read, Memory}
use Rattle.hum_read.specs.Denoted.{standard, end_at, ending}
use Rattle.hum_read.specs.Reading.{Scores, Polled, Gave, ReadOn}
use Rattle.hum_read.specs.Reading.{HasRead, AreRead, Gives, GivesNext, answer_of, stop_of}
use Rattle.hum_read.specs.Reading.{IsCalledAtMostOnce, IsDue, ReadsOnce, Nears}

-- a reader that goes on has met no fault
pub record IsTidy {R : Type 0} (lines : Reader R) (stopped : Option (Result End ReadError))
    : Type 0 where
  pub limits : lines.limits ≡ standard
  pub going : stopped ≡ None → lines.fault ≡ None

-- Of all these bytes the reader has given these records, one for each line but the last, which was
-- given and isn't read as a record yet.
pub record HasLine {R : Type 0} (v : Scores R) (all : List ℕ) (rows : List Row) (rest : List ℕ)
    : Type 0 where
  pub limits : v.lines.limits ≡ standard
  pub given : List (List ℕ)
  pub holds : Holds v.lines all (given ++ v.lines.line ∷ []) rest
  pub read : AreRead given rows
  pub score : IsScore rows
  pub path : v.spines.path ≡ through Unopened rows
  pub as_many : length given ≡ length rows

-- In front of the bytes that come next stands a line that keeps to the limits, and it is read as this record.
pub record IsAhead {R : Type 0} (lines : Reader R) (row : Row) : Type 0 where
  pub held : List ℕ
  pub behind : List ℕ
  pub next : lines.pending ≡ held ++ behind
  pub line : length held ≤ lines.limits.line
  pub records : lines.given + length held ≤ lines.limits.records
  pub bytes : lines.taken + length held ≤ lines.limits.bytes
  pub read : IsRead held row

-- It has so many bytes with its line end.
pub record IsAheadTo {R : Type 0} (lines : Reader R) (row : Row) (size : ℕ) : Type 0 where
  pub ahead : IsAhead lines row
  pub whole : size ≡ ahead.read.line.lf + 1

-- the line that was just given is read
abbrev pub ReadsLine : {R : Type 0} → Scores R → Result Polled ReadError → Scores R → Type 0
ReadsLine old result new =
    (all : List ℕ) (rows : List Row) (rest : List ℕ)
    → HasLine old all rows rest
    → Gives old.stage all rows result (λ after. HasRead new all after rest)

-- why a reader stops where a line is refused by a rule, or memory runs out
abbrev pub refusal : ℕ → ℕ → Option Rule → Result End ReadError
refusal stage line None = Err Memory
refusal stage line (Some rule) = Ok (end_at stage (Some (line, rule)))

-- what a reader answers that has given a record, or none since it has stopped
abbrev pub given_by : Option Row → Option (Result End ReadError) → Result Polled ReadError
given_by (Some row) stopped = Ok (Gave row)
given_by None (Some why) = answer_of why
given_by None None = Ok ReadOn

-- how the score ends that a reader has given, where no line follows
abbrev pub end_of : {R : Type 0} → Scores R → End
end_of v = end_at v.stage (ending v.spines.path v.lines.given None).fault

-- why it stops after so many lines, by a fault of the next
abbrev pub stop_by : ℕ → ℕ → TextFault → Result End ReadError
stop_by stage given text.Read = Err Read
stop_by stage given text.Memory = Err Memory
stop_by stage given text.S1 = Ok (end_at stage (Some (given + 1, S1)))
stop_by stage given text.S2 = Ok (end_at stage (Some (given + 1, S2)))
stop_by stage given text.S3 = Ok (end_at stage (Some (given + 1, S3)))
stop_by stage given text.S7 = Ok (end_at stage (Some (given + 1, S7)))

-- What `next` comes to: its clauses, in their order. The functions tell what a source shows.
abbrev pub Nexts : {R : Type 0} → (R → Option (List ℕ)) → (R → ℕ) → (R → Bool) → Scores R
    → Result Polled ReadError → Scores R → Type 0
Nexts remaining calls has_failed old result new = record {
  gives : old.stopped ≡ None → GivesNext old result new;
  stops : new.stopped ≡ stop_of result;
  again : IfSome old.stopped (λ s. (result ≡ answer_of s) × (new ≡ old));
  stage : new.stage ≡ old.stage;
  unread : ¬ NeedsRead old.lines → IsUnread old.lines new.lines;
  once : NeedsRead old.lines → IsCalledAtMostOnce calls has_failed old.lines.source new.lines.source;
  due : IsDue old → ReadsOnce calls has_failed old result new;
  more : result ≡ Ok ReadOn → IsFed old.lines new.lines;
  unfed : result ≢ Ok ReadOn → bytes_read old.lines new.lines ≡ [];
  asked : length (bytes_read old.lines new.lines) ≤ LARGEST_READ;
  consumes : Consumes (remaining old.lines.source) (remaining new.lines.source) (bytes_read old.lines new.lines);
  at_end : new.lines.ended ≡ true → (old.lines.ended ≡ true) ⊎ IsAtEnd (remaining new.lines.source);
  failed : result ≡ Err Read → (old.stopped ≡ Some (Err Read)) ⊎ (has_failed new.lines.source ≡ true);
  marked : has_failed new.lines.source ≡ true → (has_failed old.lines.source ≡ true) ⊎ (result ≡ Err Read);
  taken : old.stopped ≡ None → new.lines.taken ≤ new.lines.limits.bytes;
  nears : IfOk result (λ step. Nears step (left_to_do old.lines) (left_to_do new.lines));
}

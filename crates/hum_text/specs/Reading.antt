-- What a reader of lines shows, what it stands for, and what a poll does.
use Rattle.std.specs.Prelude.{◌≡◌, ◌≢◌, ℕ, ◌+◌, ◌-◌, ◌*◌, ◌<◌, ◌≤◌}
use Rattle.std.specs.Prelude.{◌==◌, ◌⊎◌, Bool, true, false}
use Rattle.std.specs.Prelude.{List, [], ◌∷◌, ◌++◌, length, slice_index}
use Rattle.std.specs.Prelude.{Option, None, Some, Result, Ok, Err, IfOk, IfErr, OnOk}
use Rattle.std.specs.Io.KnownBytes.{Consumes, IsAtEnd}
use Rattle.std.specs.Io.{appended_bytes}
use Rattle.std.specs.List.{list_any}
use Rattle.hum_text.specs.declared.Limits.{Limits}
use Rattle.hum_text.specs.declared.TextFault.{TextFault}
use Rattle.hum_text.specs.declared.TextFault.TheVariants.{Read, Memory}
use Rattle.hum_text.specs.declared.reader.Step.{Step}
use Rattle.hum_text.specs.declared.reader.Step.TheVariants.{Line, More, End}
use Rattle.hum_text.specs.declared.calls.TheConstants.{LARGEST_READ}
use Rattle.hum_text.specs.Calls.{IsCalled}
use Rattle.hum_text.specs.Text.{lf, lines, pieces, rule_at_end, fault_after, fault_of}
use Rattle.hum_text.specs.Text.{IsAtStart, IsOfText, IsLawful}

-- A reader of lines, as contracts see it: its source and limits, the line that was given last, the
-- bytes that were read and not handed out, how many lines were given and from how many bytes,
-- whether a read gave no byte, and its fault.
pub record Reader (R : Type 0) : Type 0 where
  pub source : R
  pub limits : Limits
  pub line : List ℕ
  pub pending : List ℕ
  pub given : ℕ
  pub taken : ℕ
  pub ended : Bool
  pub fault : Option TextFault

-- a reader of which nothing was read yet
abbrev pub opening : {R : Type 0} → R → Limits → Reader R
opening source limits = record {
  source = source;
  limits = limits;
  line = [];
  pending = [];
  given = 0;
  taken = 0;
  ended = false;
  fault = None;
}

-- So many lines were given, from so many bytes, and both are within the limits. So they stay where so many
-- of the pending bytes are given too, whatever lines they are.
pub record IsWithin (l : Limits) (given taken : ℕ) (pending : List ℕ) (free : ℕ) : Type 0 where
  pub lines : given + free ≤ l.records
  pub bytes : taken + free ≤ l.bytes
  pub line : free ≤ l.line
  pub held : free ≤ length pending

-- Of all the bytes these lines were given, n of them from t bytes, and the rest stands.
pub record Stands (l : Limits) (all : List ℕ) (given : List (List ℕ)) (rest : List ℕ) (n t : ℕ)
    : Type 0 where
  pub before : List ℕ
  pub whole : all ≡ before ++ rest
  pub start : IsAtStart before ⊎ ((rest ≡ []) × (rule_at_end before ≡ None))
  pub left : lines all ≡ given ++ lines rest
  pub fault : fault_of l all ≡ fault_after l before rest
  pub count : length (pieces before) ≡ n
  pub size : length before ≡ t
  pub number : length given ≡ n

-- Of all these bytes the reader has given these lines, it holds its pending bytes, and the rest is
-- to come. Where it has ended, nothing is to come.
pub record Holds {R : Type 0} (v : Reader R) (all : List ℕ) (given : List (List ℕ)) (rest : List ℕ)
    : Type 0 where
  pub stands : Stands v.limits all given (v.pending ++ rest) v.given v.taken
  pub done : v.ended ≡ true → rest ≡ []

-- the bytes that a poll read: they stand behind those that were pending
abbrev pub bytes_read : {R : Type 0} → Reader R → Reader R → List ℕ
bytes_read old new = appended_bytes old.pending new.pending

-- What a poll gave: the next line, which is this one; nothing; the end, after all lines of a text
-- without fault; or the text's first fault, which stands in the line after those given.
abbrev pub Gives : Limits → List ℕ → List (List ℕ) → Result Step TextFault → List ℕ
    → (List (List ℕ) → Type 0) → Type 0
Gives l all given (Ok Line) line After = After (given ++ line ∷ [])
Gives l all given (Ok More) line After = After given
Gives l all given (Ok End) line After =
    (lines all ≡ given) × (fault_of l all ≡ None) × After given
Gives l all given (Err f) line After = IsOfText f → fault_of l all ≡ Some (length given + 1, f)

-- However the input goes on after what the poll read, the poll gave what comes next there.
abbrev pub GivesNext : {R : Type 0} → Reader R → Result Step TextFault → Reader R → Type 0
GivesNext old result new =
    (all : List ℕ) (given : List (List ℕ)) (rest : List ℕ)
    → Holds old all given (bytes_read old new ++ rest) → (new.ended ≡ true → rest ≡ [])
    → Gives old.limits all given result new.line (λ after. Holds new all after rest)

-- A poll needs a read: there is no fault yet, no read gave 0 bytes, and no pending byte is LF or
-- breaks a rule.
pub record NeedsRead {R : Type 0} (v : Reader R) : Type 0 where
  pub no_fault : v.fault ≡ None
  pub going : v.ended ≡ false
  pub unended : (k : ℕ) → k < length v.pending → slice_index v.pending k ≢ lf
  pub lawful : IsLawful v.limits (v.given + 1) v.taken v.pending

-- no read was made
abbrev pub IsUnread : {R : Type 0} → Reader R → Reader R → Type 0
IsUnread old new =
    (new.source ≡ old.source) × (new.ended ≡ old.ended) × (bytes_read old new ≡ [])

-- one read was made, which failed or didn't, and the reader has ended or it hasn't
abbrev pub IsRead : {R : Type 0} → (R → ℕ) → (R → Bool) → Reader R → Reader R → Bool → Bool → Type 0
IsRead calls failed old new failure end =
    IsCalled calls failed old.source new.source failure × (new.ended ≡ end)

-- What a poll made of the read that it needs. It gave bytes, it failed, or it gave none and so the
-- end is marked. Where memory ran out, it was before the read.
abbrev pub ReadsOnce : {R : Type 0} → (R → ℕ) → (R → Bool) → Reader R → Result Step TextFault
    → Reader R → Type 0
ReadsOnce calls failed old (Ok More) new = IsRead calls failed old new false false
ReadsOnce calls failed old (Err Read) new = IsRead calls failed old new true false
ReadsOnce calls failed old (Err Memory) new = IsUnread old new
ReadsOnce calls failed old _ new = IsRead calls failed old new false true

-- The read that a poll needs gave bytes, and they stand behind those that were pending.
pub record IsFed {R : Type 0} (old new : Reader R) : Type 0 where
  pub needed : NeedsRead old
  pub some : 0 < length (bytes_read old new)
  pub behind : new ≡ record old {
    source = new.source;
    line = [];
    pending = old.pending ++ bytes_read old new;
  }

-- The reader has this fault, and what was pending it has still.
abbrev pub Fails : {R : Type 0} → Reader R → Reader R → TextFault → Type 0
Fails old new fault =
    new ≡ record old {
      source = new.source;
      line = new.line;
      ended = new.ended;
      fault = Some fault;
    }

-- the input has ended, all of it was handed out, and no fault was met
pub record IsOver {R : Type 0} (v : Reader R) : Type 0 where
  pub ended : v.ended ≡ true
  pub handed_out : v.pending ≡ []
  pub no_fault : v.fault ≡ None

-- A line that was given is within the limits, it and those before it, and it holds no LF.
abbrev pub KeepsLimits : Limits → Step → List ℕ → ℕ → Type 0
KeepsLimits l Line line given =
    (length line ≤ l.line) × (list_any (λ b. b == lf) line ≡ false) × (given ≤ l.records)
KeepsLimits l More line given = Unit {0}
KeepsLimits l End line given = Unit {0}

-- How much a reader can still do: bytes to read, up to the limit and one more, and bytes to hand
-- out.
abbrev pub left_to_do : {R : Type 0} → Reader R → ℕ
left_to_do v = (v.limits.bytes + 1 - length v.pending) + 2 * (v.limits.bytes - v.taken)

-- the end, or nearer to it
abbrev pub Nears : Step → ℕ → ℕ → Type 0
Nears End old new = Unit {0}
Nears More old new = new < old
Nears Line old new = new < old

-- The next line was handed out. Its LF was pending, so no read was needed, and none was made.
pub record GivesLine {R : Type 0} (old new : Reader R) : Type 0 where
  pub gives : GivesNext old (Ok Line) new
  pub within : KeepsLimits old.limits Line new.line new.given
  pub needless : ¬ NeedsRead old
  pub going : ¬ IsOver old
  pub unread : IsUnread old new
  pub no_fault : new.fault ≡ None
  pub nears : Nears Line (left_to_do old) (left_to_do new)
  pub limits : new.limits ≡ old.limits
  pub taken : new.taken ≤ new.limits.bytes

-- What each way through a poll does, from a reader without a fault: it gives what comes next, and
-- a line keeps to the limits; the end and a fault are told by the reader too; and it is nearer to
-- the end.
pub record Goes {R : Type 0} (old : Reader R) (result : Result Step TextFault) (new : Reader R)
    : Type 0 where
  pub within : IfOk result (λ step. KeepsLimits old.limits step new.line new.given)
  pub gives : GivesNext old result new
  pub end : result ≡ Ok End → IsOver new
  pub no_fault : OnOk result (new.fault ≡ None)
  pub err : IfErr result (Fails old new)
  pub nears : IfOk result (λ step. Nears step (left_to_do old) (left_to_do new))
  pub limits : new.limits ≡ old.limits
  pub taken : new.taken ≤ new.limits.bytes

-- It went so without a read: none was made, so none gave bytes or failed, and none took memory.
pub record GoesUnread {R : Type 0} (old : Reader R) (result : Result Step TextFault)
    (new : Reader R) : Type 0 where
  pub goes : Goes old result new
  pub unread : IsUnread old new
  pub not_more : result ≢ Ok More
  pub not_read : result ≢ Err Read
  pub not_memory : result ≢ Err Memory

-- It went so, from a reader that has not ended, and a read was made where it was needed, and then
-- once. The functions tell what a source shows.
pub record GoesReading {R : Type 0} (remaining : R → Option (List ℕ)) (calls : R → ℕ)
    (failed : R → Bool) (old : Reader R) (result : Result Step TextFault) (new : Reader R)
    : Type 0 where
  pub goes : Goes old result new
  pub reads_not : ¬ NeedsRead old → IsUnread old new
  pub reads_once : NeedsRead old → ReadsOnce calls failed old result new
  pub more : result ≡ Ok More → IsFed old new
  pub unfed : result ≢ Ok More → bytes_read old new ≡ []
  pub asked : length (bytes_read old new) ≤ LARGEST_READ
  pub consumes : Consumes (remaining old.source) (remaining new.source) (bytes_read old new)
  pub at_end : new.ended ≡ true → IsAtEnd (remaining new.source)
  pub failed_read : result ≡ Err Read → failed new.source ≡ true
  pub memory : result ≡ Err Memory → NeedsRead old

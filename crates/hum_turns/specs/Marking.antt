-- When a source sets its end.
use Rattle.std.specs.Prelude.{◌≡◌, ◌⊎◌, ℕ, ◌+◌, ◌<◌, true, length, is_some}
use Rattle.hum_turns.specs.Plan.{Plan, IsPlan}
use Rattle.hum_turns.specs.Links.{Moment, given}
use Rattle.hum_turns.specs.Turns.{Reads, state, is_source, Step}

-- It was about to read, since no end and no fault was met yet. It has read a byte or more, and not
-- the end of the bytes.
pub record HasReadOn {R : Type 0} (plan : Plan R) (k : ℕ) (old new : Moment R) : Type 0 where
  pub about : state plan old k ≡ Reads
  pub more : (old k).read < (new k).read
  pub before_end : (new k).read < (plan.stage k).bytes
  pub nothing_given : given (new k) ≡ given (old k)

-- It has read no byte: nothing, or the end behind all bytes.
abbrev pub ReadsNoByte : {R : Type 0} → Plan R → ℕ → Moment R → Moment R → Type 0
ReadsNoByte plan k old new = ((new k).read ≡ (old k).read) ⊎ ((old k).read + 1 ≡ (plan.stage k).bytes)

-- A source's turn gives a record or sets the end, and reads no byte; or it has read on, and gives nothing. So the
-- turn that meets the end, behind all records, sets it.
abbrev pub GivesOrMarks : {R : Type 0} → Plan R → ℕ → Moment R → Moment R → Type 0
GivesOrMarks plan k old new =
    (((length (given (new k)) ≡ length (given (old k)) + 1) ⊎ (is_some (new k).mark ≡ true))
    × ReadsNoByte plan k old new)
    ⊎ HasReadOn plan k old new

-- Every turn of every source.
abbrev pub EverySourceMarks : Type 0 → Type 0
EverySourceMarks R = (plan : Plan R) (size k : ℕ) (old new : Moment R) → IsPlan plan
    → is_source plan k ≡ true → Step plan size k old new → GivesOrMarks plan k old new

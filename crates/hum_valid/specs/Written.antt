-- The text of a score, and what it is read as.
use Rattle.std.specs.Prelude.{◌≡◌, ℕ, ◌+◌, ◌≤◌, List, length, Option, None, Some, if◌then◌else◌}
use Rattle.hum_score.specs.Row.{Row, text_of}
use Rattle.hum_score.specs.Spines.{Unopened}
use Rattle.hum_score.specs.Rules.{is_unfinished}
use Rattle.hum_stage.specs.declared.faults.Rule.{Rule}
use Rattle.hum_stage.specs.declared.faults.Rule.TheVariants.{P8}
use Rattle.hum_score.specs.InOrder.{through, IsScore}
use Rattle.hum_turns.specs.Text.{text}
use Rattle.hum_read.specs.Denoted.{score_of, standard}
use Rattle.hum_valid.specs.Records.{AreRecords}

-- what is broken behind records that are a score: nothing, or else a spine is open
abbrev pub left_open : List Row → Option (ℕ × Rule)
left_open rows = if is_unfinished (through Unopened rows) then Some (length rows + 1, P8) else None

-- Their text denotes these records, and what they leave open.
pub record IsReadAgain (written : List Row) : Type 0 where
  pub rows : (score_of (text text_of written)).rows ≡ written
  pub fault : (score_of (text text_of written)).fault ≡ left_open written

-- What a reader takes: lawful records that are a score, no more of them and no more bytes than one may
-- have.
pub record AreReadable (rows : List Row) : Type 0 where
  pub records : AreRecords rows
  pub score : IsScore rows
  pub few : length rows ≤ standard.records
  pub small : length (text text_of rows) ≤ standard.bytes

abbrev pub ReadsAgain : List Row → Type 0
ReadsAgain rows = AreReadable rows → IsReadAgain rows

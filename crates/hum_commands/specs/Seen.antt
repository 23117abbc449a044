-- What contracts see of a command's stage.
use Rattle.std.specs.Prelude.{◌≤◌, ℕ, length}
use Rattle.hum_stage.specs.Meaning.{Moment, all_of, IsLawful}

-- what a stage's contract says of a state, in one: what it stands for, how many records are left in
-- it, whether it is spent, and what holds of each moment that it stands for
pub record Seen : Type 1 where
  pub stands : Moment → Type 0
  pub left : ℕ
  pub spent : Type 0
  pub within : (t : Moment) → stands t → t.given ≤ length (all_of t)
  pub lawful : (t : Moment) → stands t → IsLawful t.meaning

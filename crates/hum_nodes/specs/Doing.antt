-- What a stage does next.
use Rattle.std.specs.Prelude.{ℕ}
use Rattle.hum_stage.specs.declared.faults.End.{End}

pub data Doing : Type 0 where
  -- gives a record that is settled
  Gives : Doing
  -- reads bytes
  Reads : Doing
  -- takes a record or the end of its input at this place, from 0
  Wants : (place : ℕ) → Doing
  -- has given all, and tells this end
  Done : (end : End) → Doing

-- What a writer that gathers holds.
use Rattle.std.specs.Prelude.{ℕ, Bool, List}

-- A writer that gathers, as contracts see it: what is behind it, the bytes that were taken and not
-- yet handed on, how many calls were made, how many of them were flushes, whether one failed, and
-- whether the last one was a flush that didn't.
pub record Gathering (T : Type 0) : Type 0 where
  pub inner : T
  pub held : List ℕ
  pub calls : ℕ
  pub flushes : ℕ
  pub failed : Bool
  pub flushed : Bool

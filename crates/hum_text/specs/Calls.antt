-- What a source and a sink show of the calls that were made.
use Rattle.std.specs.Prelude.{◌≡◌, ℕ, ◌+◌, ◌-◌, ◌^◌, min, Bool, true, ◌||◌, ◌==◌, Result}
use Rattle.std.specs.Prelude.{Ok, Err}

-- A source or a sink, as contracts see it: what it is made of, how many calls were made, how many of
-- them were flushes, whether one failed, and whether the last one was a flush that didn't.
pub record Calls (T : Type 0) : Type 0 where
  pub inner : T
  pub calls : ℕ
  pub flushes : ℕ
  pub failed : Bool
  pub flushed : Bool

-- one call more, in a number that stays at the greatest u64
abbrev pub counted : ℕ → ℕ
counted n = min (n + 1) (2 ^ 64 - 1)

-- a write failed: it gave an error, or it took no byte
abbrev pub write_fails : {E : Type 0} → Result ℕ E → Bool
write_fails (Ok n) = n == 0
write_fails (Err e) = true

-- One call more was made, and it failed or it didn't.
pub record IsCalled {S : Type 0} (calls : S → ℕ) (failed : S → Bool) (old new : S) (failure : Bool)
    : Type 0 where
  pub counted_once : calls new ≡ counted (calls old)
  pub marked : failed new ≡ (failed old || failure)

-- The window of a buffer that holds the bytes not yet handed out.
use Rattle.std.specs.Prelude.{◌≡◌, ℕ, ◌<◌, ◌≤◌, List, length, slice_index}
use Rattle.hum_text.specs.Text.{lf}

-- from start to end, of which no LF stands before scanned
pub record IsWindow (bytes : List ℕ) (start scanned end : ℕ) : Type 0 where
  pub low : start ≤ scanned
  pub middle : scanned ≤ end
  pub high : end ≤ length bytes
  pub searched : (k : ℕ) → start ≤ k → k < scanned → slice_index bytes k ≡ lf → ⊥

-- A buffer, as contracts see it: the line that was handed out last, and the bytes that were read
-- and not yet handed out.
pub record Held : Type 0 where
  pub line : List ℕ
  pub pending : List ℕ

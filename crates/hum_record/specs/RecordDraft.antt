-- A record in the making that may grow too long.
use Rattle.std.specs.Prelude.{◌≡◌, ◌<◌, ◌≤◌, ℕ, Bool, true, false, List, length}
use Rattle.std.specs.Prelude.{Option, None, Some, IsTrue}
use Rattle.hum_score.specs.declared.records.SpinedKind.{SpinedKind}
use Rattle.hum_score.specs.Row.{Row, Spined}
use Rattle.hum_record.specs.Building.{Draft, spelled}

-- The fields hold tokens of a kind, or that these are too long for a record.
pub record Holds (kind : SpinedKind) (draft : Draft) (long : Bool) (tokens : List (List ℕ))
    : Type 0 where
  pub of_kind : draft.kind ≡ kind
  pub sound : long ≡ false → draft.spent ≡ false
  pub held : long ≡ false → draft.tokens ≡ tokens
  pub fits : long ≡ false → length (spelled tokens) ≤ 1048576
  pub over : long ≡ true → 1048576 < length (spelled tokens)

-- Memory has run out.
abbrev pub IsSpent : Draft → Bool → Type 0
IsSpent draft long = IsTrue draft.spent × (long ≡ false)

-- the record of these tokens, or none where they are too long
abbrev pub IsMade : SpinedKind → List (List ℕ) → Option Row → Type 0
IsMade kind tokens None = 1048576 < length (spelled tokens)
IsMade kind tokens (Some row) =
    (row ≡ Spined kind tokens) × (length (spelled tokens) ≤ 1048576)

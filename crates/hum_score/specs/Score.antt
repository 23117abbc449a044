-- Lists of records, the newest first, and the spines after them.
use Rattle.std.specs.Prelude.{◌≡◌, ℕ, ◌+◌, false, length, if◌then◌else◌}
use Rattle.std.specs.Prelude.{List, [], ◌∷◌, Option, None, Some}
use Rattle.hum_score.specs.Row.{Row}
use Rattle.hum_score.specs.declared.spines.PathFault.{PathFault}
use Rattle.hum_score.specs.declared.spines.PathFault.TheVariants.{P8}
use Rattle.hum_score.specs.Spines.{Path, Unopened, Spines, exclusives, after}
use Rattle.hum_score.specs.Rules.{fault_of, is_unfinished}

-- the spines after records
abbrev pub path_after : List Row → Path
path_after [] = Unopened
path_after (row ∷ past) = after (path_after past) row

-- No rule is broken so far.
abbrev pub IsOpen : List Row → Type 0
IsOpen [] = Unit {0}
IsOpen (row ∷ past) = IsOpen past × (fault_of (path_after past) row ≡ None)

-- Nor is any spine open at the end.
abbrev pub IsClosed : List Row → Type 0
IsClosed past = IsOpen past × (is_unfinished (path_after past) ≡ false)

-- records in their order, put before those that came first
abbrev pub passed : List Row → List Row → List Row
passed past [] = past
passed past (row ∷ rows) = passed (row ∷ past) rows

abbrev pub fault_or : ℕ → Option PathFault → Option (ℕ × PathFault) → Option (ℕ × PathFault)
fault_or line None later = later
fault_or line (Some fault) later = Some (line, fault)

-- The first rule that a score breaks, and its line, its end included; some records have passed.
abbrev pub score_fault : List Row → List Row → Option (ℕ × PathFault)
score_fault past [] = if is_unfinished (path_after past) then Some (length past + 1, P8) else None
score_fault past (row ∷ rows) =
    fault_or (length past + 1) (fault_of (path_after past) row) (score_fault (row ∷ past) rows)

-- Records in their order break no rule on spines under some exclusive interpretations, and those
-- that stand after them are told.
abbrev pub Lead : List (List ℕ) → List Row → List (List ℕ) → Type 0
Lead names [] end = names ≡ end
Lead names (row ∷ rows) end =
    (fault_of (Spines names) row ≡ None) × Lead (exclusives (after (Spines names) row)) rows end

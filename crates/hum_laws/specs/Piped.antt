-- What one stage gives of a closed score, and two, the second behind the first.
use Rattle.std.specs.Prelude.{◌≡◌, List}
use Rattle.hum_score.specs.Row.{Row}
use Rattle.hum_stage.specs.declared.faults.End.TheVariants.{Closed}
use Rattle.hum_stage.specs.Meaning.{Meaning, Moment, opening, KeepsScore, IsWhole, output, own_fault, end_of}
use Rattle.hum_laws.specs.declared.given.Given.{Given}

abbrev pub IsAlone : Meaning → List Row → Given → Type 0
IsAlone command score given = IsWhole command score Closed given.records.items given.end

-- how the first ends is the end of the second's input
abbrev pub IsPiped : Meaning → Meaning → List Row → Given → Type 0
IsPiped first second score given =
    IsWhole second (output first score) (end_of Closed (own_fault first score))
    given.records.items given.end

-- Both sides give the same records, and end alike.
abbrev pub Same : Given → Given → Type 0
Same one other = (one.records.items ≡ other.records.items) × (one.end ≡ other.end)

-- Both sides give the same records, where both end closed.
abbrev pub SameWhereClosed : Given → Given → Type 0
SameWhereClosed one other = one.end ≡ Closed → other.end ≡ Closed → one.records.items ≡ other.records.items

-- a new stage that makes scores of scores
pub record IsFirst (stands : Moment → Type 0) : Type 0 where
  pub meaning : Meaning
  pub stand : stands (opening meaning)
  pub keeps : KeepsScore meaning.outcomes

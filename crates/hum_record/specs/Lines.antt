-- Lines, and what stands behind a text.
use Rattle.std.specs.Prelude.{◌≡◌, ◌<◌, ◌+◌, ◌⊎◌, ℕ, List, length, slice_index, take, Some, Ok}
use Rattle.memchr.specs.Find.{IsFirstByte, is_byte}
use Rattle.hum_score.specs.declared.records.Kind.TheVariants.{Values}
use Rattle.hum_score.specs.Row.{Row, kind_of, text_of}
use Rattle.hum_score.specs.Spelling.{IsTextOf, reading}

-- LF stands in some bytes behind a text that ends at a place: there, or behind a CR.
abbrev pub IsBehind : List ℕ → ℕ → ℕ → Type 0
IsBehind held len lf =
    (lf < length held) × (slice_index held lf ≡ 10)
    × ((lf ≡ len) ⊎ ((lf ≡ len + 1) × (slice_index held len ≡ 13)))

-- A line stands in front of some bytes, whose text is so long.
pub record IsLine (held : List ℕ) (len : ℕ) : Type 0 where
  pub lf : ℕ
  pub first : IsFirstByte (is_byte 10) held (Some lf)
  pub text : (lf ≡ len) ⊎ ((lf ≡ len + 1) × (slice_index held len ≡ 13))

-- It is read as this record, which is data.
pub record IsRead (held : List ℕ) (row : Row) : Type 0 where
  pub line : IsLine held (length (text_of row))
  pub text : take (length (text_of row)) held ≡ text_of row
  pub read : reading (text_of row) ≡ Ok row
  pub lawful : IsTextOf row (text_of row)
  pub kind : kind_of row ≡ Values

-- It is read so, and with its line end it has so many bytes.
pub record IsReadTo (held : List ℕ) (row : Row) (size : ℕ) : Type 0 where
  pub read : IsRead held row
  pub whole : size ≡ read.line.lf + 1

-- LF stands behind a text that is the first of these bytes, unless it is empty.
abbrev pub IsEnded : List ℕ → ℕ → Type 0
IsEnded held len = 0 < len → (len < length held) × (slice_index held len ≡ 10)

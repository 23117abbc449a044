-- Where the tokens of a text end.
use Rattle.std.specs.Prelude.{◌≡◌, ◌==◌, ◌+◌, ◌/◌, ◌%◌, ℕ, zero, suc, true, false}
use Rattle.std.specs.Prelude.{List, [], ◌∷◌, map}
use Rattle.std.specs.Prelude.{Ok, if◌then◌else◌}
use Rattle.std.specs.Simd.Lanes.{mask_l}
use Rattle.hum_score.specs.declared.records.SpinedKind.TheVariants.{Values}
use Rattle.hum_record.specs.declared.tokens.Cut.{Cut}
use Rattle.hum_record.specs.declared.tokens.Cut.TheVariants.{Plain, Whole, Broken}
use Rattle.hum_score.specs.Spelling.{has_byte, kind_of_tokens, parts}
use Rattle.hum_record.specs.Fields.{ends_from}

-- the places of the tabs in a text whose first byte has this place
abbrev pub tabs_from : ℕ → List ℕ → List ℕ
tabs_from start [] = []
tabs_from start (byte ∷ text) =
    if byte == 9 then start ∷ tabs_from (start + 1) text else tabs_from (start + 1) text

-- the number whose bit k says whether byte k of a text is this one
abbrev pub bits_of : ℕ → List ℕ → ℕ
bits_of byte text = mask_l (map (λ x. x == byte) text)

-- base + i for each bit i that is set, of the k lowest ones of a number
unfoldable pub set_places : ℕ → ℕ → ℕ → List ℕ
set_places zero base n = []
set_places (suc k) base n =
    if n % 2 == 1 then base ∷ set_places k (base + 1) (n / 2) else set_places k (base + 1) (n / 2)

-- what a text was found to be, and where its tokens end
abbrev pub IsCut : List ℕ → List ℕ → Cut → Type 0
IsCut text ends Broken = has_byte 13 text ≡ true
IsCut text ends Whole = (has_byte 13 text ≡ false) × (ends ≡ ends_from 0 (parts text))
IsCut text ends Plain =
    (has_byte 13 text ≡ false) × (ends ≡ ends_from 0 (parts text))
    × (kind_of_tokens (parts text) ≡ Ok Values)

-- The barlines that are known of a record.
use Rattle.std.specs.Prelude.{◌≡◌, ℕ, Bool, true, List, [], ◌∷◌, ◌++◌}
use Rattle.std.specs.List.{list_any}
use Rattle.std.specs.Str.{bytes_eq}
use Rattle.hum_record.specs.Contents.{is_barline}
use Rattle.hum_cleave.specs.Tokens.{is_left_out}

-- Among those that are kept is each barline of those before, and no other.
abbrev pub Knows : List (List ℕ) → List (List ℕ) → Type 0
Knows kept before =
    (token : List ℕ) → is_barline token ≡ true
    → list_any (bytes_eq token) kept ≡ list_any (bytes_eq token) before

-- whether a token is left out behind those before, which are known, and it is known too
abbrev pub Tells : List (List ℕ) → List (List ℕ) → List ℕ → Bool → Type 0
Tells old new token out =
    (before : List (List ℕ)) → Knows old before
    → (out ≡ is_left_out before token) × Knows new (before ++ token ∷ [])

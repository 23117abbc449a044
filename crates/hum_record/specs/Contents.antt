-- What a token is: data or not, null, a barline.
use Rattle.std.specs.Prelude.{ℕ, nat_eq, Bool, not, ◌&&◌, List, ◌∷◌, if◌then◌else◌}
use Rattle.std.specs.List.{starts_with}
use Rattle.std.specs.Str.{bytes_eq}
use lib.Chars.{codes}
use Rattle.hum_score.specs.declared.records.SpinedKind.TheVariants.{Values}
use Rattle.hum_score.specs.Spelling.{kind_of_token, same_kind}

-- data, and not an interpretation or a comment
abbrev pub is_data : List ℕ → Bool
is_data token = same_kind (kind_of_token token) Values

-- the null token of data
abbrev pub is_null : List ℕ → Bool
is_null = bytes_eq (codes ".")

-- data that isn't null
abbrev pub is_filled : List ℕ → Bool
is_filled token = is_data token && not (is_null token)

abbrev pub is_barline : List ℕ → Bool
is_barline token = starts_with nat_eq token (codes "=")

-- some tokens, and in place of each that is null what stands above it
abbrev pub filled_from : List (List ℕ) → List (List ℕ) → List (List ℕ)
filled_from (above ∷ more) (token ∷ tokens) =
    (if is_null token then above else token) ∷ filled_from more tokens
filled_from _ tokens = tokens

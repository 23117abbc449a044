-- Timed columns, and the notes in their cells.
use Rattle.std.specs.Prelude.{ℕ, Bool, ◌&&◌, ◌||◌, not, List, [], ◌∷◌, map}
use Rattle.std.specs.Prelude.{Option, None, Some, if◌then◌else◌}
use Rattle.std.specs.List.{list_any}
use Rattle.std.specs.Str.{bytes_eq}
use lib.Chars.{codes}
use Rattle.hum_record.specs.Contents.{is_null, is_barline}
use Rattle.hum_score.specs.Sign.{sign_of, is_exclusive}
use Rattle.hum_score.specs.Spines.{Path, exclusives}
use Rattle.hum_frac.specs.Ratio.{Ratio}
pub use Rattle.hum_kern.specs.Subtokens.{subtokens}
use Rattle.hum_kern.specs.Duration.{duration, value_in, is_refused}
use Rattle.hum_timebase.specs.Pairs.{paired}

-- whether columns under an exclusive interpretation are timed
abbrev pub is_timed : List ℕ → Bool
is_timed name = bytes_eq name (codes "**kern") || bytes_eq name (codes "**recip")

-- which spines are timed
abbrev pub timed_in : Path → List Bool
timed_in path = map is_timed (exclusives path)

-- the exclusive interpretation that a cell stands under: its own token, where that is one
abbrev pub own_name : List ℕ → List ℕ → List ℕ
own_name name token = if is_exclusive (sign_of token) then token else name

abbrev pub own_names : List (List ℕ) → List (List ℕ) → List (List ℕ)
own_names names [] = []
own_names [] (token ∷ tokens) = own_name [] token ∷ own_names [] tokens
own_names (name ∷ names) (token ∷ tokens) = own_name name token ∷ own_names names tokens

-- which cells of an interpretation stand in timed columns
abbrev pub timed_at : Path → List (List ℕ) → List Bool
timed_at path tokens = map is_timed (own_names (exclusives path) tokens)

-- neither null nor a barline
abbrev pub is_sounding : List ℕ → Bool
is_sounding token = not (is_null token || is_barline token)

-- no token is sounding, and one is a barline
abbrev pub is_barline_record : List (List ℕ) → Bool
is_barline_record tokens = not (list_any is_sounding tokens) && list_any is_barline tokens

-- the first of two, where there is one
abbrev pub or_else : Option Ratio → Option Ratio → Option Ratio
or_else None other = other
or_else (Some value) other = Some value

-- the first duration of some subtokens
abbrev pub first_duration : List (List ℕ) → Option Ratio
first_duration [] = None
first_duration (part ∷ parts) = or_else (value_in (duration part)) (first_duration parts)

-- whether one of them is refused
abbrev pub some_refused : List (List ℕ) → Bool
some_refused = list_any (λ part. is_refused (duration part))

-- The note of a data token: a duration in whole notes. It has one in a timed column alone.
abbrev pub note_of : Bool → List ℕ → Option Ratio
note_of timed token =
    if timed && is_sounding token then first_duration (subtokens token) else None

abbrev pub notes_of : List Bool → List (List ℕ) → List (Option Ratio)
notes_of = paired note_of

-- a subtoken of it is refused
abbrev pub is_misread : Bool → List ℕ → Bool
is_misread timed token = timed && (is_sounding token && some_refused (subtokens token))

abbrev pub has_misread : List Bool → List (List ℕ) → Bool
has_misread timed tokens = list_any (λ misread. misread) (paired is_misread timed tokens)

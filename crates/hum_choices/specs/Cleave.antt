-- Which spines become one, under which name, and what goes between their data.
use Rattle.std.specs.Prelude.{◌≡◌, ℕ, Bool, true, not, ◌&&◌, ◌||◌, List}
use Rattle.std.specs.Str.{bytes_eq}
use lib.Chars.{codes}
use Rattle.hum_score.specs.Spelling.{has_byte}
use Rattle.hum_score.specs.Sign.{sign_of, is_exclusive}

-- `-i`, `-o` and `-d`
pub record Options : Type 0 where
  pub name : List ℕ
  pub new_name : List ℕ
  pub separator : List ℕ

-- whether a text can stand in a token
abbrev pub fits_in_token : List ℕ → Bool
fits_in_token text = not (has_byte 9 text || (has_byte 13 text || has_byte 10 text))

-- `**` and at least one more byte
abbrev pub is_name : List ℕ → Bool
is_name name =
    is_exclusive (sign_of name) && (not (bytes_eq (codes "**") name) && fits_in_token name)

-- options that a plan may give
pub record AreLawful (options : Options) : Type 0 where
  pub named : is_name options.new_name ≡ true
  pub between : fits_in_token options.separator ≡ true

-- Names, labels and what goes between data.
use Rattle.std.specs.Prelude.{◌≡◌, ◌≢◌, ℕ, Bool, true, false, not, ◌&&◌, List, [], Option, None, Some, if◌then◌else◌}
use Rattle.hum_score.specs.Spelling.{has_byte}
use Rattle.hum_choices.specs.Cleave.{is_name, fits_in_token}
use Rattle.hum_kern.specs.Duration.{is_empty}

-- A name of a list is an exclusive interpretation without a comma.
pub record IsListedName (text name : List ℕ) : Type 0 where
  pub same : text ≡ name
  pub lawful : is_name text ≡ true
  pub alone : has_byte 44 text ≡ false

-- A label is some bytes without `[`, tab, LF and CR.
pub record IsLabel (text : List ℕ) : Type 0 where
  pub filled : text ≢ []
  pub no_bracket : has_byte 91 text ≡ false
  pub one_token : has_byte 9 text ≡ false
  pub no_line_end : has_byte 10 text ≡ false
  pub one_line : has_byte 13 text ≡ false

abbrev pub is_label : List ℕ → Bool
is_label text = not (is_empty text) && (not (has_byte 91 text) && fits_in_token text)

-- a text, if it passes a test
abbrev pub text_if : (List ℕ → Bool) → List ℕ → Option (List ℕ)
text_if test text = if test text then Some text else None

-- the name that a text is, if it is one
abbrev pub name_of : List ℕ → Option (List ℕ)
name_of = text_if is_name

-- Passages: stretches of a list of records, each from a marker to before the next, and their
-- numbers. In these lists the newest record stands first, so that the nearest marker above is the
-- first that is met.
use Rattle.std.specs.Prelude.{ℕ, ◌+◌, ◌*◌, ◌-◌, ◌==◌, max, Bool, true, false, not, ◌&&◌, nat_le}
use Rattle.std.specs.Prelude.{nat_eq, List, [], ◌∷◌, ◌++◌, filter, drop, length, if◌then◌else◌}
use Rattle.std.specs.Prelude.{Option, Some, None, is_some, unwrap_or}
use Rattle.std.specs.Option.{option_map_or}
use Rattle.std.specs.List.{list_any, find, starts_with, take_while}
use Rattle.std.specs.Str.{bytes_eq}
use lib.Chars.{codes}
use Rattle.hum_score.specs.declared.records.SpinedKind.TheVariants.{Local, Interpretation, Values}
use Rattle.hum_score.specs.Row.{Row, Comment, Spined}
use Rattle.hum_record.specs.Contents.{is_null}
use Rattle.hum_choices.specs.declared.yank.TheConstants.{GREATEST_PASSAGE}

-- How passages are marked: by each line; by a test that also tells where its match in a token ends;
-- by a test that begins them and one that ends them; by labels of sections.
pub data Form : Type 0 where
  Lines : Form
  Numbers : (List ℕ → Option ℕ) → Form
  Occurrences : (List ℕ → Bool) → (List ℕ → Bool) → Form
  Labels : List ℕ → Form

-- a data token that isn't null, and passes
abbrev pub passes : (List ℕ → Bool) → List ℕ → Bool
passes test token = not (is_null token) && test token

-- whether a data record has such a token
abbrev pub has_value : (List ℕ → Bool) → Row → Bool
has_value test (Comment text) = false
has_value test (Spined Local tokens) = false
has_value test (Spined Interpretation tokens) = false
has_value test (Spined Values tokens) = list_any (passes test) tokens

-- the leftmost such token of a data record
abbrev pub first_value : (List ℕ → Bool) → Row → Option (List ℕ)
first_value test (Comment text) = None
first_value test (Spined Local tokens) = None
first_value test (Spined Interpretation tokens) = None
first_value test (Spined Values tokens) = find (passes test) tokens

abbrev pub has_bracket : List ℕ → Bool
has_bracket = list_any (λ b. b == 91)

-- a label of a section, not of an order of sections
abbrev pub is_label : List ℕ → Bool
is_label token = starts_with nat_eq token (codes "*>") && not (has_bracket token)

-- the leftmost label of an interpretation record
abbrev pub label_of : Row → Option (List ℕ)
label_of (Comment text) = None
label_of (Spined Local tokens) = None
label_of (Spined Interpretation tokens) = find is_label tokens
label_of (Spined Values tokens) = None

abbrev pub is_digit : ℕ → Bool
is_digit b = nat_le 48 b && nat_le b 57

-- the value of digits, behind those of a number
abbrev pub value_of : ℕ → List ℕ → ℕ
value_of n [] = n
value_of n (digit ∷ digits) = value_of (10 * n + (digit - 48)) digits

-- none that is greater
abbrev pub at_most : ℕ → Option ℕ
at_most n = if nat_le n GREATEST_PASSAGE then Some n else None

-- The number that digits bear, unless it is too great.
abbrev pub number_of : List ℕ → Option ℕ
number_of [] = None
number_of (digit ∷ digits) = at_most (value_of 0 (digit ∷ digits))

-- the number directly after the first match
abbrev pub number_after : (List ℕ → Option ℕ) → List ℕ → Option ℕ
number_after end_of token =
    option_map_or (λ end. number_of (take_while is_digit (drop end token))) (end_of token) None

abbrev pub has_match : (List ℕ → Option ℕ) → List ℕ → Bool
has_match end_of token = is_some (end_of token)

-- whether a passage begins with a record
abbrev pub is_marker : Form → Row → Bool
is_marker Lines row = true
is_marker (Numbers end_of) row = has_value (has_match end_of) row
is_marker (Occurrences begins ends) row = has_value begins row
is_marker (Labels name) row = is_some (label_of row)

-- a label of this name
abbrev pub is_named : List ℕ → Option (List ℕ) → Bool
is_named name None = false
is_named name (Some label) = bytes_eq label (codes "*>" ++ name)

-- whether its passage is numbered by occurrence
abbrev pub is_counted : Form → Row → Bool
is_counted Lines row = true
is_counted (Numbers end_of) row = false
is_counted (Occurrences begins ends) row = has_value begins row
is_counted (Labels name) row = is_named name (label_of row)

-- how many such markers there are
abbrev pub counted : Form → List Row → ℕ
counted form seen = length (filter (is_counted form) seen)

-- whether a passage ends with a record, itself included
abbrev pub is_last : Form → Row → Bool
is_last Lines row = false
is_last (Numbers end_of) row = false
is_last (Occurrences begins ends) row = has_value ends row
is_last (Labels name) row = false

-- from the nearest marker on back
abbrev pub from_marker : Form → List Row → List Row
from_marker form [] = []
from_marker form (row ∷ past) = if is_marker form row then row ∷ past else from_marker form past

-- the records since the nearest marker, and it
abbrev pub stretch : Form → List Row → List Row
stretch form [] = []
stretch form (row ∷ past) = row ∷ (if is_marker form row then [] else stretch form past)

-- whether the passage at hand has ended with one of some records
abbrev pub has_ended : Form → List Row → Bool
has_ended form seen = list_any (is_last form) (stretch form seen)

-- the number of the passage that the first of some records begins, those before it known; before
-- the first marker there is passage 0, or none
abbrev pub number_at : Form → List Row → Option ℕ
number_at Lines seen = Some (length seen)
number_at (Numbers end_of) [] = Some 0
number_at (Numbers end_of) (row ∷ past) =
    option_map_or (number_after end_of) (first_value (has_match end_of) row) None
number_at (Occurrences begins ends) [] = None
number_at (Occurrences begins ends) (row ∷ past) =
    Some (counted (Occurrences begins ends) (row ∷ past))
number_at (Labels name) [] = None
number_at (Labels name) (row ∷ past) =
    if is_counted (Labels name) row then Some (counted (Labels name) (row ∷ past)) else None

-- the number of the nearest marker's passage
abbrev pub number_above : Form → List Row → Option ℕ
number_above form seen = number_at form (from_marker form seen)

-- The number of the passage in which a record lies, given the records before it, if it lies in one
-- that bears a number.
abbrev pub passage_of : Form → List Row → Row → Option ℕ
passage_of form past row =
    if is_marker form row then number_above form (row ∷ past)
    else if has_ended form past then None
    else number_above form (row ∷ past)

-- the greatest number that a passage bears
abbrev pub greatest : Form → List Row → ℕ
greatest form [] = 0
greatest form (row ∷ past) =
    max (unwrap_or (number_above form (row ∷ past)) 0) (greatest form past)

-- The last number of the passages of some records: how many lines or numbered passages there are,
-- or the greatest number.
abbrev pub last_of : Form → List Row → ℕ
last_of Lines seen = length seen
last_of (Numbers end_of) seen = greatest (Numbers end_of) seen
last_of (Occurrences begins ends) seen = counted (Occurrences begins ends) seen
last_of (Labels name) seen = counted (Labels name) seen

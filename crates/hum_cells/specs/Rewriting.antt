-- What the tokens of kern columns become.
use Rattle.std.specs.Prelude.{◌≡◌, ℕ, nat_lt, Bool, true, false, not, ◌&&◌, ◌||◌}
use Rattle.std.specs.Prelude.{List, [], ◌∷◌, map, length}
use Rattle.std.specs.Prelude.{Result, Ok, Err, if◌then◌else◌}
use Rattle.std.specs.List.{list_any}
use Rattle.std.specs.Str.{bytes_eq}
use lib.Chars.{codes}
use Rattle.hum_score.specs.declared.records.SpinedKind.TheVariants.{Local, Interpretation, Values}
use Rattle.hum_score.specs.Row.{Row, Comment, Spined, text_of}
use Rattle.hum_score.specs.Spelling.{IsToken}
use Rattle.hum_record.specs.Contents.{is_null, is_barline}
use Rattle.hum_score.specs.Sign.{sign_of, is_exclusive, is_plain}
use Rattle.hum_score.specs.Spines.{exclusives}
use Rattle.hum_score.specs.Score.{path_after}
use Rattle.hum_path.specs.Chains.{columns}
use Rattle.hum_words.specs.declared.commands.Command.{Command}
use Rattle.hum_stage.specs.declared.faults.Rule.{Rule}
use Rattle.hum_stage.specs.declared.faults.Rule.TheVariants.{L1}
use Rattle.hum_stage.specs.Meaning.{Meaning}
use Rattle.hum_stage.specs.Decided.{Decision, at_once}

-- what becomes of **kern where it stands in a record
pub data Heading : Type 0 where
  -- this exclusive interpretation stands in its place
  Renamed : List ℕ → Heading
  -- behind the record goes one with this tandem interpretation below it, and * elsewhere
  Followed : List ℕ → Heading

-- What a command makes of kern columns: of their heading, and of a data token, by the cells above
-- it in its column, the nearest first.
pub record Rewriting : Type 0 where
  pub heading : Heading
  pub becomes : List (List ℕ) → List ℕ → Result (List ℕ) Rule

abbrev pub is_kern : List ℕ → Bool
is_kern = bytes_eq (codes "**kern")

-- after records, the newest first: for each column, whether it is under **kern
abbrev pub kern_columns : List Row → List Bool
kern_columns past = map is_kern (exclusives (path_after past))

-- whether a data token of a kern column is told anew
abbrev pub has_content : List ℕ → Bool
has_content token = not (is_null token) && not (is_barline token)

-- What a data token becomes, by whether its column is under **kern and by the cells above it.
abbrev pub rewritten : (List (List ℕ) → List ℕ → Result (List ℕ) Rule) → Bool → List (List ℕ)
    → List ℕ → Result (List ℕ) Rule
rewritten becomes kern above token = if kern && has_content token then becomes above token else Ok token

-- a token and those to its right, unless one is refused: then the leftmost of these decides
abbrev pub beside : Result (List ℕ) Rule → Result (List (List ℕ)) Rule
    → Result (List (List ℕ)) Rule
beside (Ok token) (Ok tokens) = Ok (token ∷ tokens)
beside (Ok token) (Err rule) = Err rule
beside (Err rule) rest = Err rule

-- What all tokens of a data record become.
abbrev pub all_rewritten : (List (List ℕ) → List ℕ → Result (List ℕ) Rule) → List Bool
    → List (List (List ℕ)) → List (List ℕ) → Result (List (List ℕ)) Rule
all_rewritten becomes (kern ∷ kerns) (above ∷ aboves) (token ∷ tokens) =
    beside (rewritten becomes kern above token) (all_rewritten becomes kerns aboves tokens)
all_rewritten becomes _ _ tokens = Ok tokens

-- what stands in a token's place under a heading: in the record itself, where **kern is renamed, or
-- in the record that goes behind it
abbrev pub headed : Heading → List ℕ → List ℕ
headed (Renamed name) token = if is_kern token then name else token
headed (Followed tandem) token = if is_kern token then tandem else codes "*"

-- the records that an interpretation becomes
abbrev pub with_heading : Heading → List (List ℕ) → List Row
with_heading (Renamed name) tokens =
    Spined Interpretation (map (headed (Renamed name)) tokens) ∷ []
with_heading (Followed tandem) tokens =
    if list_any is_kern tokens then
    Spined Interpretation tokens
    ∷ Spined Interpretation (map (headed (Followed tandem)) tokens)
    ∷ []
    else Spined Interpretation tokens ∷ []

abbrev pub is_long : Row → Bool
is_long row = nat_lt 1048576 (length (text_of row))

-- records, unless one is too long
abbrev pub if_fit : List Row → Result (List Row) Rule
if_fit rows = if list_any is_long rows then Err L1 else Ok rows

abbrev pub data_record : Result (List (List ℕ)) Rule → Result (List Row) Rule
data_record (Ok tokens) = if_fit (Spined Values tokens ∷ [])
data_record (Err rule) = Err rule

-- What a record becomes, after the records above it, the newest first.
abbrev pub rewrite : Rewriting → Decision
rewrite rewriting past (Comment text) = Ok (Comment text ∷ [])
rewrite rewriting past (Spined Local tokens) = Ok (Spined Local tokens ∷ [])
rewrite rewriting past (Spined Interpretation tokens) =
    if_fit (with_heading rewriting.heading tokens)
rewrite rewriting past (Spined Values tokens) =
    data_record (all_rewritten rewriting.becomes (kern_columns past) (columns past) tokens)

-- what the stage of this number means
abbrev pub meaning : ℕ → Command → Rewriting → Meaning
meaning stage command rewriting = at_once stage command (rewrite rewriting)

-- A new name is an exclusive interpretation, and one that goes behind asks nothing of the spines.
abbrev pub IsHeading : Heading → Type 0
IsHeading (Renamed name) =
    IsToken Interpretation name
    × (is_exclusive (sign_of name) ≡ true)
    × (bytes_eq (codes "**") name ≡ false)
IsHeading (Followed tandem) = IsToken Interpretation tandem × (is_plain (sign_of tandem) ≡ true)

-- whether a data record has a token that is told anew
abbrev pub any_told : List Bool → List (List ℕ) → Bool
any_told (kern ∷ kerns) (token ∷ tokens) = (kern && has_content token) || any_told kerns tokens
any_told _ _ = false

-- The path rules, and the first that a record breaks.
use Rattle.std.specs.Prelude.{◌≡◌, ℕ, ◌==◌, nat_lt, Bool, true, false, not, ◌&&◌, ◌||◌}
use Rattle.std.specs.Prelude.{List, [], ◌∷◌, map, length, Option, None, Some}
use Rattle.std.specs.List.{list_any, list_all, find}
use Rattle.std.specs.Str.{bytes_eq}
use lib.Chars.{codes}
use Rattle.hum_score.specs.declared.records.SpinedKind.TheVariants.{Interpretation}
use Rattle.hum_score.specs.Spelling.{is_empty}
use Rattle.hum_score.specs.Row.{Row, Comment, Spined}
use Rattle.hum_score.specs.declared.spines.Sign.{Sign}
use Rattle.hum_score.specs.declared.spines.PathFault.{PathFault}
use Rattle.hum_score.specs.declared.spines.PathFault.TheVariants.{P1, P2, P3, P4, P5, P6, P7, P9, P10, P11, Memory}
use Rattle.hum_score.specs.Sign.{sign_of, is_join, is_exclusive, is_path_indicator}
use Rattle.hum_score.specs.Spines.{Path, Unopened, Spines, exchanges, moves_under}

abbrev pub first_is : (Sign → Bool) → List Sign → Bool
first_is test [] = false
first_is test (sign ∷ signs) = test sign

-- a join with none beside it
abbrev pub has_lone_join : Bool → List Sign → Bool
has_lone_join after_join [] = false
has_lone_join after_join (sign ∷ signs) =
    (is_join sign && not (after_join || first_is is_join signs))
    || has_lone_join (is_join sign) signs

-- whether the first two are joins under different exclusive interpretations
abbrev pub mixes_join : List (List ℕ) → List Sign → Bool
mixes_join (name ∷ other ∷ names) (sign ∷ next ∷ signs) =
    is_join sign && (is_join next && not (bytes_eq name other))
mixes_join _ _ = false

-- joins side by side under different exclusive interpretations
abbrev pub has_mixed_join : List (List ℕ) → List Sign → Bool
has_mixed_join (name ∷ names) (sign ∷ signs) =
    mixes_join (name ∷ names) (sign ∷ signs) || has_mixed_join names signs
has_mixed_join _ _ = false

-- two spines change places, or none do
abbrev pub is_pair_or_none : List ℕ → Bool
is_pair_or_none places = length places == 0 || length places == 2

-- an added spine that waits for its exclusive interpretation, and doesn't get one
abbrev pub stays_unnamed : List ℕ → Sign → Bool
stays_unnamed name sign = length name == 0 && not (is_exclusive sign)

abbrev pub has_unnamed : List (List ℕ) → List Sign → Bool
has_unnamed (name ∷ names) (sign ∷ signs) = stays_unnamed name sign || has_unnamed names signs
has_unnamed _ _ = false

-- an exclusive interpretation without a name
abbrev pub has_bare : List (List ℕ) → Bool
has_bare = list_any (bytes_eq (codes "**"))

-- an exclusive interpretation beside a path indicator
abbrev pub names_and_steers : List Sign → Bool
names_and_steers signs = list_any is_exclusive signs && list_any is_path_indicator signs

-- Whether an interpretation breaks a rule, given the spines before it.
abbrev pub breaks : Path → List (List ℕ) → PathFault → Bool
breaks Unopened tokens P1 = not (list_all is_exclusive (map sign_of tokens))
breaks Unopened tokens P10 = has_bare tokens
breaks Unopened tokens P9 = nat_lt 4096 (length tokens)
breaks Unopened tokens _ = false
breaks (Spines names) tokens P7 = length names == 0
breaks (Spines names) tokens P2 = not (length tokens == length names)
breaks (Spines names) tokens P6 = has_unnamed names (map sign_of tokens)
breaks (Spines names) tokens P10 = has_bare tokens
breaks (Spines names) tokens P11 = names_and_steers (map sign_of tokens)
breaks (Spines names) tokens P3 = has_lone_join false (map sign_of tokens)
breaks (Spines names) tokens P4 = not (is_pair_or_none (exchanges 0 (map sign_of tokens)))
breaks (Spines names) tokens P5 = has_mixed_join names (map sign_of tokens)
breaks (Spines names) tokens P9 = nat_lt 4096 (length (moves_under (map sign_of tokens)))
breaks (Spines names) tokens _ = false

-- The order of the rules at one record.
abbrev pub in_order : List PathFault
in_order = P7 ∷ P1 ∷ P2 ∷ P6 ∷ P10 ∷ P11 ∷ P3 ∷ P4 ∷ P5 ∷ P9 ∷ []

-- The same of a local comment or data: it is as wide as the spines, of which none waits for its
-- exclusive interpretation.
abbrev pub breaks_as_text : Path → List (List ℕ) → PathFault → Bool
breaks_as_text Unopened tokens P1 = true
breaks_as_text Unopened tokens _ = false
breaks_as_text (Spines names) tokens P7 = length names == 0
breaks_as_text (Spines names) tokens P2 = not (length tokens == length names)
breaks_as_text (Spines names) tokens P6 = list_any is_empty names
breaks_as_text (Spines names) tokens _ = false

-- The first rule that a record breaks, given the spines before it. A global comment breaks none.
abbrev pub fault_of : Path → Row → Option PathFault
fault_of path (Comment text) = None
fault_of path (Spined Interpretation tokens) = find (breaks path tokens) in_order
fault_of path (Spined kind tokens) = find (breaks_as_text path tokens) in_order

-- The fault, if it isn't running out of memory, is the first rule that is broken.
abbrev pub Refuses : PathFault → Option PathFault → Type 0
Refuses Memory broken = Unit {0}
Refuses fault broken = broken ≡ Some fault

-- spines that haven't ended
abbrev pub is_unfinished : Path → Bool
is_unfinished Unopened = false
is_unfinished (Spines names) = not (length names == 0)

-- no spine is open: a score may end here
abbrev pub is_closed : Path → Bool
is_closed path = not (is_unfinished path)

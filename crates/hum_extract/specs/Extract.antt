-- What the command extract makes of each record.
use Rattle.std.specs.Prelude.{ℕ, Bool, false, ◌&&◌, ◌||◌, if◌then◌else◌}
use Rattle.std.specs.Prelude.{List, [], ◌∷◌, map, Result, Ok, Err}
use lib.Chars.{codes}
use Rattle.hum_score.specs.declared.records.SpinedKind.TheVariants.{Interpretation}
use Rattle.hum_score.specs.Row.{Row, chosen}
use Rattle.hum_score.specs.declared.spines.Sign.{Sign}
use Rattle.hum_score.specs.Sign.{sign_of, is_exchange}
use Rattle.hum_columns.specs.Spread.{JoinedToken, spread, filled}
use Rattle.hum_stage.specs.declared.faults.Rule.{Rule}
use Rattle.hum_stage.specs.declared.faults.Rule.TheVariants.{X1, X2, X3}
use Rattle.hum_words.specs.declared.commands.Command.TheVariants.{Extract}
use Rattle.hum_stage.specs.Meaning.{Meaning}
use Rattle.hum_stage.specs.Decided.{Decision, at_once}
use Rattle.hum_choices.specs.declared.extract.ExtractOptions.{ExtractOptions}
use Rattle.hum_choices.specs.Extract.{Choice, choice_of}
use Rattle.hum_columns.specs.Chosen.{differ, is_torn, each_piece}
use Rattle.hum_columns.specs.Deciding.{ColumnCommand, by_columns}
use Rattle.hum_extract.specs.Choice.{misses, opening_flags}

-- for each exchanged column whether it is chosen
abbrev pub exchanged_flags : List Bool → List Sign → List Bool
exchanged_flags (f ∷ flags) (s ∷ signs) =
    if is_exchange s then f ∷ exchanged_flags flags signs else exchanged_flags flags signs
exchanged_flags _ _ = []

-- of the exchanged columns one is chosen and the other isn't
abbrev pub is_lone : List Bool → Bool
is_lone (f ∷ g ∷ more) = differ f g
is_lone _ = false

-- a chosen column stands strictly between the exchanged ones
abbrev pub chosen_before : List Bool → List Sign → Bool
chosen_before (f ∷ flags) (s ∷ signs) =
    if is_exchange s then false else f || chosen_before flags signs
chosen_before _ _ = false

abbrev pub chosen_between : List Bool → List Sign → Bool
chosen_between (f ∷ flags) (s ∷ signs) =
    if is_exchange s then chosen_before flags signs else chosen_between flags signs
chosen_between _ _ = false

-- A chosen column that is exchanged with a dropped one stays where it is.
abbrev pub softened : Bool → List ℕ → List ℕ
softened lone token = if lone && is_exchange (sign_of token) then codes "*" else token

-- the chosen tokens, each with whether it begins a join of the record
abbrev pub pieces : List Bool → List (List ℕ) → List JoinedToken
pieces flags tokens = chosen flags (each_piece false tokens)

-- what an interpretation becomes where these columns are chosen
abbrev pub cut : List Bool → List (List ℕ) → Result (List Row) Rule
cut flags tokens =
    let signs = map sign_of tokens in
    let lone = is_lone (exchanged_flags flags signs) in
    if is_torn flags signs then Err X1
    else if lone && chosen_between flags signs then Err X3
    else Ok (filled Interpretation (spread (pieces flags (map (softened lone) tokens))))

-- what the opening record becomes
abbrev pub opened : Choice → List (List ℕ) → Result (List Row) Rule
opened choice tokens =
    if misses choice tokens then Err X2
    else Ok (filled Interpretation (chosen (opening_flags choice tokens) tokens ∷ []))

-- What the command says of columns that are chosen so: a record that isn't an interpretation is left
-- with its chosen tokens.
abbrev pub column_command : Choice → ColumnCommand
column_command choice = record {
  choose = opening_flags choice;
  opening = opened choice;
  later = cut;
  other = λ flags kind tokens. Ok (filled kind (chosen flags tokens ∷ []));
}

-- What a record becomes, after those above it, the newest first.
abbrev pub extract : Choice → Decision
extract choice = by_columns (column_command choice)

-- what the stage of this number means
abbrev pub meaning : ℕ → ExtractOptions → Meaning
meaning stage options = at_once stage Extract (extract (choice_of options))

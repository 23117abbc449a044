-- What the command cleave makes of each record.
use Rattle.std.specs.Prelude.{ℕ, nat_lt, Bool, false, true, not, ◌&&◌, ◌||◌, if◌then◌else◌}
use Rattle.std.specs.Prelude.{List, [], ◌∷◌, length, map, Result, Ok, Err}
use Rattle.std.specs.List.{list_any, list_all}
use Rattle.hum_score.specs.declared.records.SpinedKind.{SpinedKind}
use Rattle.hum_score.specs.declared.records.SpinedKind.TheVariants.{Local, Interpretation, Values}
use Rattle.hum_score.specs.Row.{Row, Comment, Spined, chosen}
use Rattle.hum_record.specs.Building.{spelled}
use Rattle.hum_score.specs.declared.spines.Sign.{Sign}
use Rattle.hum_score.specs.declared.spines.Sign.TheVariants.{Exchange, Add, End}
use Rattle.hum_score.specs.Sign.{sign_of, is_exclusive}
use Rattle.hum_columns.specs.Spread.{JoinedToken, piece, spread, filled}
use Rattle.hum_stage.specs.declared.faults.Rule.{Rule}
use Rattle.hum_stage.specs.declared.faults.Rule.TheVariants.{C1, C2, L1}
use Rattle.hum_words.specs.declared.commands.Command.TheVariants.{Cleave}
use Rattle.hum_stage.specs.Meaning.{Meaning}
use Rattle.hum_stage.specs.Decided.{Decision, at_once}
use Rattle.hum_choices.specs.Cleave.{Options}
use Rattle.hum_columns.specs.Chosen.{is_torn, each_piece}
use Rattle.hum_columns.specs.Deciding.{ColumnCommand, by_columns}
use Rattle.hum_cleave.specs.Columns.{opening_flags, together}
use Rattle.hum_cleave.specs.Tokens.{comment_of, interpretation_of, data_of}
use Rattle.hum_record.specs.declared.TheConstants.{MOST_BYTES}

-- an exchange or an added spine
abbrev pub is_moved : Sign → Bool
is_moved Exchange = true
is_moved Add = true
is_moved _ = false

abbrev pub is_end : Sign → Bool
is_end End = true
is_end _ = false

-- some end, but not all
abbrev pub ends_apart : List Sign → Bool
ends_apart signs = list_any is_end signs && not (list_all is_end signs)

-- what can't be written in one column
abbrev pub is_entangled : List Bool → List Sign → Bool
is_entangled flags signs =
    list_any is_moved (chosen flags signs)
    || (ends_apart (chosen flags signs) || is_torn flags signs)

-- what is written of an interpretation
abbrev pub pieces : List Bool → List (List ℕ) → List JoinedToken
pieces flags tokens =
    together (piece false (interpretation_of (chosen flags tokens))) flags (each_piece false tokens)

-- what an interpretation after the opening record becomes
abbrev pub merged : List Bool → List (List ℕ) → Result (List Row) Rule
merged flags tokens =
    if list_any is_exclusive (chosen flags (map sign_of tokens)) then Err C2
    else if is_entangled flags (map sign_of tokens) then Err C1
    else Ok (filled Interpretation (spread (pieces flags tokens)))

-- the record of these tokens, unless it is too long
abbrev pub one_record : SpinedKind → List (List ℕ) → Result (List Row) Rule
one_record kind tokens =
    if nat_lt MOST_BYTES (length (spelled tokens)) then Err L1 else Ok (Spined kind tokens ∷ [])

-- what the tokens of the cleaved columns become in a record of this kind
abbrev pub one_of : List ℕ → SpinedKind → List (List ℕ) → List ℕ
one_of separator Local = comment_of
one_of separator Interpretation = interpretation_of
one_of separator Values = data_of separator

-- what a local comment or a record of data becomes
abbrev pub told : List ℕ → List Bool → SpinedKind → List (List ℕ) → Result (List Row) Rule
told separator flags kind tokens =
    one_record kind (together (one_of separator kind (chosen flags tokens)) flags tokens)

-- the same, where a global comment stays
abbrev pub text_told : List ℕ → List Bool → Row → Result (List Row) Rule
text_told separator flags (Comment text) = Ok (Comment text ∷ [])
text_told separator flags (Spined kind tokens) = told separator flags kind tokens

-- what the opening record becomes
abbrev pub opened : Options → List (List ℕ) → Result (List Row) Rule
opened options tokens =
    one_record Interpretation
    (together options.new_name (opening_flags options.name tokens) tokens)

-- what the command says of columns that are chosen by the name of their opening spine
abbrev pub column_command : Options → ColumnCommand
column_command options = record {
  choose = opening_flags options.name;
  opening = opened options;
  later = merged;
  other = told options.separator;
}

-- What a record becomes, after those above it, the newest first.
abbrev pub cleave : Options → Decision
cleave options = by_columns (column_command options)

-- what the stage of this number means
abbrev pub meaning : ℕ → Options → Meaning
meaning stage options = at_once stage Cleave (cleave options)

-- Null data tokens, and the tokens that they repeat.
use Rattle.std.specs.Prelude.{ℕ, Bool, not, ◌&&◌, List, [], ◌∷◌, ◌++◌, map}
use Rattle.std.specs.Prelude.{Option, None, Some, Ok, if◌then◌else◌}
use Rattle.std.specs.List.{find}
use lib.Chars.{codes}
use Rattle.hum_score.specs.declared.records.SpinedKind.TheVariants.{Values}
use Rattle.hum_score.specs.Row.{Row, Comment, Spined}
use Rattle.hum_record.specs.Contents.{is_data, is_null}
use Rattle.hum_path.specs.Chains.{reach, columns}
use Rattle.hum_pattern.specs.Meaning.{matched_by}
use Rattle.hum_stage.specs.Limits.{if_fits}
use Rattle.hum_words.specs.declared.commands.Command.TheVariants.{Ditto}
use Rattle.hum_stage.specs.Meaning.{Meaning}
use Rattle.hum_stage.specs.Decided.{Decision, at_once}
use Rattle.hum_choices.specs.declared.ditto.DittoOptions.{DittoOptions}

-- whether a token has a match of the pattern whose tokens are never repeated, if there is one
abbrev pub is_skipped : Option (List ℕ) → List ℕ → Bool
is_skipped = matched_by

-- whether a null token may repeat a token
abbrev pub may_repeat : Option (List ℕ) → List ℕ → Bool
may_repeat skip token = is_data token && (not (is_null token) && not (is_skipped skip token))

-- The token that a null token repeats, by the cells above it, the nearest first: of those in reach
-- the nearest that it may repeat.
abbrev pub repeated : Option (List ℕ) → List (List ℕ) → Option (List ℕ)
repeated skip above = find (may_repeat skip) (reach above)

-- how a repeated token is written
abbrev pub written : Bool → List ℕ → List ℕ
written parentheses token = if parentheses then codes "(" ++ token ++ codes ")" else token

-- what a token becomes: a null one the token that it repeats, if there is one
abbrev pub filled : Bool → Option (List ℕ) → List ℕ → List ℕ
filled parentheses None token = token
filled parentheses (Some source) token = if is_null token then written parentheses source else token

-- the same of all tokens of a record
abbrev pub all_filled : Bool → List (Option (List ℕ)) → List (List ℕ) → List (List ℕ)
all_filled parentheses (source ∷ sources) (token ∷ tokens) =
    filled parentheses source token ∷ all_filled parentheses sources tokens
all_filled parentheses _ tokens = tokens

-- what the tokens of a data record become, after the records above it
abbrev pub new_tokens : DittoOptions → List Row → List (List ℕ) → List (List ℕ)
new_tokens options past tokens =
    all_filled options.parentheses (map (repeated options.skip) (columns past)) tokens

-- What a record becomes, after the records above it, the newest first.
abbrev pub ditto : DittoOptions → Decision
ditto options past (Comment text) = Ok (Comment text ∷ [])
ditto options past (Spined Values tokens) =
    if_fits (Spined Values (new_tokens options past tokens))
ditto options past (Spined kind tokens) = Ok (Spined kind tokens ∷ [])

-- what the stage of this number means
abbrev pub meaning : ℕ → DittoOptions → Meaning
meaning stage options = at_once stage Ditto (ditto options)

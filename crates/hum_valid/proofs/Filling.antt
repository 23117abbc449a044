-- ditto writes lawful records.
use Rattle.std.proofs.Common.{◌≡◌, ◌≢◌, refl, ℕ, Bool, true, false, cond, ◌&&◌, not, List, [], ◌∷◌, map, length, arith}
use Rattle.std.specs.Prelude.{nat_le, Option, None, Some, Result, Ok, Err}
use Rattle.std.specs.List.{AllByRecursion}
use Rattle.std.proofs.lemmas.Bool.{and_parts}
use Rattle.std.proofs.lemmas.Bool.Decides.{nat_tests}
use Rattle.hum_score.specs.declared.records.SpinedKind.TheVariants.{Local, Interpretation, Values}
use Rattle.hum_score.specs.Row.{Row, Comment, Spined}
use Rattle.hum_record.specs.Building.{spelled}
use Rattle.hum_score.specs.Spelling.{IsToken}
use Rattle.hum_record.specs.Contents.{is_data, is_null}
use Rattle.hum_path.specs.Chains.{reach, columns}
use Rattle.hum_stage.specs.declared.faults.Rule.{Rule}
use Rattle.hum_stage.specs.declared.faults.Rule.TheVariants.{L1}
use Rattle.hum_choices.specs.declared.ditto.DittoOptions.{DittoOptions}
use Rattle.hum_ditto.specs.Ditto.{is_skipped, may_repeat, repeated, written, filled, all_filled, ditto}
use Rattle.hum_ditto.proofs.Tokens.{in_parentheses}
use Rattle.hum_valid.specs.Records.{IsRecord, AreRecords}
use Rattle.hum_valid.proofs.Lists.{made_of, made_so}
use Rattle.hum_valid.proofs.Stages.{DecidesRecords}
use Rattle.hum_valid.proofs.Cells.{AreCells, data_cell, columns_cells, reach_cells, found_cell}

-- a record that is no longer than one may be
pub if_within : (tokens : List (List ℕ)) (rows : List Row) → tokens ≢ [] → AllByRecursion (IsToken Values) tokens
    → cond (nat_le (length (spelled tokens)) 1048576) (Ok (Spined Values tokens ∷ [])) (Err L1) ≡ Ok rows → AreRecords rows
if_within tokens rows some lawful e = by (nat_le (length (spelled tokens)) 1048576) refl e
  where
    by : (b : Bool) → nat_le (length (spelled tokens)) 1048576 ≡ b
        → ◌≡◌ {A = Result (List Row) Rule} (cond b (Ok (Spined Values tokens ∷ [])) (Err L1)) (Ok rows) → AreRecords rows
    by true w e =
        made_so (Spined Values tokens ∷ []) rows e (made_of Values tokens some lawful (grind (arith, nat_tests, w)), tt)
    by false w e = cc

-- what is repeated is a lawful token
abbrev Repeats : Option (List ℕ) → Type 0
Repeats None = Unit {0}
Repeats (Some token) = IsToken Values token

repeats : (skip : Option (List ℕ)) (above : List (List ℕ)) → AreCells above → Repeats (repeated skip above)
repeats skip above h = by (repeated skip above) refl
  where
    by : (o : Option (List ℕ)) → repeated skip above ≡ o → Repeats o
    by None e = tt
    by (Some token) e =
        let found = found_cell (may_repeat skip) (reach above) token (reach_cells above h) e in
        data_cell token found.0 (and_parts (is_data token) (not (is_null token) && not (is_skipped skip token)) found.1).0

all_repeat : (skip : Option (List ℕ)) (chains : List (List (List ℕ))) → AllByRecursion AreCells chains
    → AllByRecursion Repeats (map (repeated skip) chains)
all_repeat skip [] h = tt
all_repeat skip (chain ∷ chains) h = (repeats skip chain h.0, all_repeat skip chains h.1)

written_lawful : (parentheses : Bool) (token : List ℕ) → IsToken Values token → IsToken Values (written parentheses token)
written_lawful true token h = in_parentheses token h
written_lawful false token h = h

filled_lawful : (parentheses : Bool) (source : Option (List ℕ)) (token : List ℕ) → Repeats source → IsToken Values token
    → IsToken Values (filled parentheses source token)
filled_lawful parentheses None token r h = h
filled_lawful parentheses (Some from) token r h = by (is_null token)
  where
    by : (b : Bool) → IsToken Values (cond b (written parentheses from) token)
    by true = written_lawful parentheses from r
    by false = h

all_lawful : (parentheses : Bool) (sources : List (Option (List ℕ))) (tokens : List (List ℕ)) → AllByRecursion Repeats sources
    → AllByRecursion (IsToken Values) tokens → AllByRecursion (IsToken Values) (all_filled parentheses sources tokens)
all_lawful parentheses [] tokens r h = h
all_lawful parentheses (source ∷ sources) [] r h = tt
all_lawful parentheses (source ∷ sources) (token ∷ tokens) r h =
    (filled_lawful parentheses source token r.0 h.0, all_lawful parentheses sources tokens r.1 h.1)

some_filled : (parentheses : Bool) (sources : List (Option (List ℕ))) (tokens : List (List ℕ)) → tokens ≢ []
    → all_filled parentheses sources tokens ≢ []
some_filled parentheses [] tokens some e = some e
some_filled parentheses (source ∷ sources) [] some e = some refl
some_filled parentheses (source ∷ sources) (token ∷ tokens) some e = cc

-- a record that stays as it is
pub same_record : (row : Row) (rows : List Row) → IsRecord row
    → ◌≡◌ {A = Result (List Row) Rule} (Ok (row ∷ [])) (Ok rows) → AreRecords rows
same_record row rows is e = made_so (row ∷ []) rows e (is, tt)

pub ditto_records : (options : DittoOptions) → DecidesRecords (ditto options)
ditto_records options past (Comment text) rows opens are e = same_record (Comment text) rows are.0 e
ditto_records options past (Spined Local tokens) rows opens are e = same_record (Spined Local tokens) rows are.0 e
ditto_records options past (Spined Interpretation tokens) rows opens are e =
    same_record (Spined Interpretation tokens) rows are.0 e
ditto_records options past (Spined Values tokens) rows opens are e =
    let sources = map (repeated options.skip) (columns past) in
    if_within (all_filled options.parentheses sources tokens) rows
    (some_filled options.parentheses sources tokens are.0.1)
    (all_lawful options.parentheses sources tokens (all_repeat options.skip (columns past) (columns_cells past are.1)) are.0.2)
    e

-- One record more of a score.
use Rattle.std.proofs.Common.{◌≡◌, ◌≢◌, ◌∙◌, refl, sym, ap, ℕ, suc, ◌+◌, Bool, true, false, not}
use Rattle.std.proofs.Common.{List, [], ◌∷◌, length, map, None, arith}
use Rattle.std.proofs.lemmas.Bool.Decides.{nat_tests}
use Rattle.std.specs.Prelude.{Ok}
use Rattle.std.specs.List.{list_all}
use Rattle.std.proofs.lemmas.Bool.{and_parts}
use Rattle.hum_score.specs.declared.records.SpinedKind.TheVariants.{Local, Interpretation, Values}
use Rattle.hum_score.specs.Row.{Row, Comment, Spined, tokens_of, text_of, chosen}
use Rattle.hum_score.specs.Spelling.{IsTextOf}
use Rattle.hum_score.specs.declared.spines.Sign.{Sign}
use Rattle.hum_score.specs.declared.spines.Sign.TheVariants.{Plain}
use Rattle.hum_score.specs.Sign.{sign_of, is_join, is_plain, all_plain, steers}
use Rattle.hum_score.specs.Spines.{Path, Spines, width, after}
use Rattle.hum_score.specs.Rules.{fault_of}
use Rattle.hum_score.specs.Score.{IsOpen, path_after}
use Rattle.hum_path.proofs.Plain.{sound_width, plain_stays}
use Rattle.hum_stage.specs.Decided.{Decision}
use Rattle.hum_columns.specs.Spread.{touches, filled}
use Rattle.hum_columns.specs.Chosen.{flags, is_torn, each_piece}
use Rattle.hum_columns.specs.Following.{AsWide, Memory, Follows}
use Rattle.hum_columns.proofs.ChosenJoins.{chosen_tokens}
use Rattle.hum_columns.proofs.Flags.{flags_width, flags_plain, opening_steers}
use Rattle.hum_columns.proofs.Taking.{wide_still as wide_text, follows_still as follows_text, names_in}
use Rattle.hum_choices.specs.Extract.{Choice}
use Rattle.hum_extract.specs.Choice.{each_chosen, misses, opening_flags}
use Rattle.hum_extract.specs.Extract.{exchanged_flags, softened, cut, opened, column_command}
use Rattle.hum_extract.specs.Kept.{kept}

-- an interpretation that asks nothing

plain_torn : (fs : List Bool) (signs : List Sign) → list_all is_plain signs ≡ true → is_torn fs signs ≡ false
plain_torn (f ∷ g ∷ fs) (Plain ∷ t ∷ signs) h = plain_torn (g ∷ fs) (t ∷ signs) h
plain_torn fs signs h = grind (arith, nat_tests)

plain_exchanged : (fs : List Bool) (signs : List Sign) → list_all is_plain signs ≡ true → exchanged_flags fs signs ≡ []
plain_exchanged (f ∷ fs) (Plain ∷ signs) h = plain_exchanged fs signs h
plain_exchanged fs signs h = grind (arith, nat_tests)

pub softened_none : (ts : List (List ℕ)) → map (softened false) ts ≡ ts
softened_none [] = refl
softened_none (t ∷ ts) = ap (λ rest. t ∷ rest) (softened_none ts)

not_join : (s : Sign) → is_plain s ≡ true → is_join s ≡ false
not_join = grind (arith, nat_tests)

plain_touches : (after : Bool) (fs : List Bool) (ts : List (List ℕ)) → all_plain ts ≡ true → touches false (chosen fs (each_piece after ts)) ≡ false
plain_touches after (true ∷ fs) (t ∷ ts) h =
    let both = and_parts (is_plain (sign_of t)) (all_plain ts) h in
    let same = not_join (sign_of t) both.0 in
    rw same (plain_touches false fs ts both.1)
plain_touches after (false ∷ fs) (t ∷ ts) h =
    let both = and_parts (is_plain (sign_of t)) (all_plain ts) h in plain_touches (is_join (sign_of t)) fs ts both.1
plain_touches after fs ts h = grind (arith, nat_tests)

pub plain_cut : (fs : List Bool) (ts : List (List ℕ)) → all_plain ts ≡ true
    → cut fs ts ≡ Ok (filled Interpretation (chosen fs ts ∷ []))
plain_cut = grind (arith, nat_tests, plain_torn, plain_exchanged, softened_none, plain_touches, chosen_tokens)

-- where the spines stand

stays_plain : (tokens : List (List ℕ)) → not (all_plain tokens) ≡ false → all_plain tokens ≡ true
stays_plain = grind (arith, nat_tests)

-- a width, where spines are open
interpreted_width : (path : Path) (tokens : List (List ℕ)) → tokens ≢ [] → all_plain tokens ≡ true
    → fault_of path (Spined Interpretation tokens) ≡ None → length tokens ≡ width path
interpreted_width = grind (arith, nat_tests, opening_steers, sound_width)

plain_path : (path : Path) (tokens : List (List ℕ)) → tokens ≢ [] → all_plain tokens ≡ true
    → fault_of path (Spined Interpretation tokens) ≡ None → path ≡ Spines (names_in path)
plain_path = grind (arith, nat_tests, opening_steers)

-- a record that asks nothing of the spines

module _ (choice : Choice) {m : Memory} {decide : Decision} where
  -- the marks are as many as the tokens
  pub wide_still : (row : Row) (past : List Row) → Follows (column_command choice) m decide past → IsOpen (row ∷ past)
      → IsTextOf row (text_of row) → steers row ≡ false → AsWide m.each row
  wide_still = grind (arith, nat_tests, wide_text, flags_width, interpreted_width, stays_plain)

  -- it stays without the columns that aren't chosen
  pub gives_still : (row : Row) (past out : List Row) → Follows (column_command choice) m decide past → IsOpen (row ∷ past)
      → IsTextOf row (text_of row) → steers row ≡ false → out ≡ kept m.each row → decide past row ≡ Ok out
  gives_still = grind (arith, nat_tests, stays_plain, plain_path, plain_cut)

  -- nothing moves
  pub follows_still : (row : Row) (past : List Row) → Follows (column_command choice) m decide past → IsOpen (row ∷ past)
      → IsTextOf row (text_of row) → steers row ≡ false → Follows (column_command choice) m decide (row ∷ past)
  follows_still (Comment text) past s score lawful still = follows_text (Comment text) past s score refl
  follows_still (Spined Local tokens) past s score lawful still = follows_text (Spined Local tokens) past s score refl
  follows_still (Spined Values tokens) past s score lawful still = follows_text (Spined Values tokens) past s score refl
  follows_still (Spined Interpretation tokens) past s score lawful still =
      let plain = stays_plain tokens still in
      let at = plain_path (path_after past) tokens lawful.1 plain score.1 in
      let names = names_in (path_after past) in
      let sound : fault_of (Spines names) (Spined Interpretation tokens) ≡ None = rw at at score.1 in
      let same : after (path_after past) (Spined Interpretation tokens) ≡ path_after past =
      grind (arith, nat_tests, plain_stays, sound_width) in
      record {
        decides = s.decides;
        spines = s.spines ∙ sym same;
        marks = s.marks ∙ sym (flags_plain (opening_flags choice) past tokens names score.0 at score.1 plain);
      }

pub steered_kind : (row : Row) → steers row ≡ true → row ≡ Spined Interpretation (tokens_of row)
steered_kind = grind (arith, nat_tests)

-- as many flags as opening spines
pub each_length : (choice : Choice) (width j : ℕ) (names : List (List ℕ)) → length (each_chosen choice width j names) ≡ length names
each_length choice width j [] = refl
each_length choice width j (name ∷ names) = ap suc (each_length choice width (j + 1) names)

pub opening_length : (choice : Choice) (names : List (List ℕ)) → length (opening_flags choice names) ≡ length names
opening_length choice names = each_length choice (length names) 0 names

-- the opening record is left with its chosen tokens
pub gives_opening : (choice : Choice) (row : Row) (each : List Bool) (out : List Row) → row ≡ Spined Interpretation (tokens_of row)
    → misses choice (tokens_of row) ≡ false → each ≡ opening_flags choice (tokens_of row) → out ≡ kept each row
    → opened choice (tokens_of row) ≡ Ok out
gives_opening = grind (arith, nat_tests)

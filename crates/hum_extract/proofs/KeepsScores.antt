-- What is extracted of a score is a score.
use Rattle.std.proofs.lemmas.Bool.Decides.{nat_tests}
use Rattle.std.proofs.Common.{◌≡◌, refl, ap, ℕ, Bool, true, false, List, [], ◌∷◌, length, map, arith, cond}
use Rattle.std.specs.Prelude.{None, Result, Ok, Err}
use Rattle.std.specs.List.{list_any, list_all, find}
use Rattle.std.specs.Str.{bytes_eq}
use lib.Chars.{codes}
use Rattle.std.proofs.lemmas.Bool.{and_parts, and_from, or_parts, not-false}
use Rattle.hum_score.specs.declared.records.SpinedKind.{SpinedKind}
use Rattle.hum_score.specs.declared.records.SpinedKind.TheVariants.{Interpretation}
use Rattle.hum_score.specs.Row.{Row, chosen}
use Rattle.hum_score.specs.Spelling.{is_empty}
use Rattle.hum_score.specs.Sign.{sign_of, is_exclusive}
use Rattle.hum_score.specs.Spines.{Unopened, Spines}
use Rattle.hum_score.specs.Rules.{breaks_as_text, in_order}
use Rattle.hum_path.proofs.Widths.{text_width}
use Rattle.hum_path.proofs.Obeyed.{Opens}
use Rattle.hum_columns.specs.Spread.{filled}
use Rattle.hum_stage.specs.declared.faults.Rule.{Rule}
use Rattle.hum_stage.specs.declared.faults.Rule.TheVariants.{X2}
use Rattle.hum_stage.specs.Meaning.{KeepsScore}
use Rattle.hum_stage.specs.Decided.{decisions, limit}
use Rattle.hum_columns.proofs.ChosenLists.{chosen_length, chosen_fewer, chosen_none}
use Rattle.hum_columns.proofs.KeepsScores.{Reach, Selects, text_reaches, text_parts, columns_keep}
use Rattle.hum_choices.specs.Extract.{Choice}
use Rattle.hum_extract.specs.Choice.{opening_flags, misses}
use Rattle.hum_extract.specs.Extract.{opened, extract, column_command}
use Rattle.hum_extract.proofs.Taking.{opening_length}
use Rattle.hum_extract.proofs.CutLeads.{cut_leads}

-- A local comment or data.
text_kept : (fs : List Bool) (kind : SpinedKind) (names tokens us : List (List ℕ)) → (kind ≡ Interpretation → ⊥)
    → find (breaks_as_text (Spines names) tokens) in_order ≡ None → chosen fs tokens ≡ us
    → Reach (Spines (chosen fs names)) (filled kind (us ∷ [])) (Spines (chosen fs names))
text_kept fs kind names tokens [] other h e = (tt, refl)
text_kept fs kind names tokens (u ∷ us) other h e =
    let size = chosen_length fs tokens names (text_width (Spines names) tokens h) in
    let same = ap length e in
    text_reaches kind (chosen fs names) u us other (omega (arith, same, size)) (chosen_none is_empty fs names (text_parts names tokens h).1)

-- At the opening.
some_chosen : {X : Type 0} (fs : List Bool) (xs : List X) → length fs ≡ length xs → list_any (λ b. b) fs ≡ true → chosen fs xs ≡ [] → ⊥
some_chosen (false ∷ fs) (x ∷ xs) h any e = some_chosen fs xs (omega (arith, h)) any e
some_chosen fs xs h k w = grind (arith, nat_tests)

chosen_opens : (fs : List Bool) (tokens : List (List ℕ)) → Opens tokens → Opens (chosen fs tokens)
chosen_opens fs tokens h = record {
  exclusive = exclusive fs tokens h.exclusive;
  bare = chosen_none (bytes_eq (codes "**")) fs tokens h.bare;
  few = let most = h.few in let fewer = chosen_fewer fs tokens in omega (arith, most, fewer);
}
  where
    exclusive : (fs : List Bool) (ts : List (List ℕ)) → list_all is_exclusive (map sign_of ts) ≡ true
        → list_all is_exclusive (map sign_of (chosen fs ts)) ≡ true
    exclusive (true ∷ fs) (t ∷ ts) h =
        let both = and_parts (is_exclusive (sign_of t)) (list_all is_exclusive (map sign_of ts)) h in
        and_from (is_exclusive (sign_of t)) (list_all is_exclusive (map sign_of (chosen fs ts))) both.0 (exclusive fs ts both.1)
    exclusive (false ∷ fs) (t ∷ ts) h = exclusive fs ts (and_parts (is_exclusive (sign_of t)) (list_all is_exclusive (map sign_of ts)) h).1
    exclusive fs ts h = grind (arith, nat_tests)

open_kept : (choice : Choice) (tokens : List (List ℕ)) (rows : List Row) → Opens tokens → opened choice tokens ≡ Ok rows
    → Reach Unopened rows (Spines (chosen (opening_flags choice tokens) tokens))
open_kept choice tokens rows h e = by_test (misses choice tokens) refl (chosen (opening_flags choice tokens) tokens) refl e
  where
    by_test : (b : Bool) → misses choice tokens ≡ b → (us : List (List ℕ)) → chosen (opening_flags choice tokens) tokens ≡ us
        → ◌≡◌ {A = Result (List Row) Rule} (cond b (Err X2) (Ok (filled Interpretation (us ∷ [])))) (Ok rows)
        → Reach Unopened rows (Spines (chosen (opening_flags choice tokens) tokens))
    by_test true missed us is e = cc
    by_test false missed [] is e = grind (arith, nat_tests, not-false, or_parts, some_chosen, opening_length)
    by_test false missed (u ∷ us) is e =
        grind (arith, nat_tests, chosen_opens (opening_flags choice tokens) tokens h)

pub extract_selects : (choice : Choice) → Selects (column_command choice) chosen
extract_selects choice = record {
  wide = opening_length choice;
  nothing = nothing;
  opening = open_kept choice;
  later = cut_leads;
  other = grind (arith, nat_tests, text_kept);
}
  where
    nothing : (fs : List Bool) → chosen {X = List ℕ} fs [] ≡ []
    nothing [] = refl
    nothing (f ∷ fs) = refl

-- The command extract makes scores of scores.
pub extract_keeps : (choice : Choice) → KeepsScore (λ p. limit 4294967295 (decisions (extract choice) [] p))
extract_keeps choice = columns_keep (column_command choice) chosen (extract_selects choice)

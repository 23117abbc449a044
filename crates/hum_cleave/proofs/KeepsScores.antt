-- What is cleaved of a score is a score.
use Rattle.std.proofs.Common.{◌≡◌, refl, ap, ℕ, ◌==◌, Bool, true, false, not, ◌&&◌, List, [], ◌∷◌, length, map}
use Rattle.std.proofs.Common.{arith}
use Rattle.std.specs.Prelude.{None, Ok}
use Rattle.std.specs.List.{list_all, find}
use Rattle.std.specs.Str.{bytes_eq}
use lib.Chars.{codes}
use Rattle.std.proofs.lemmas.Bool.{and_parts, and_from, false≢true}
use Rattle.std.proofs.lemmas.Bool.Decides.{nat_tests}
use Rattle.std.proofs.lemmas.List.{length-map}
use Rattle.hum_score.specs.declared.records.SpinedKind.{SpinedKind}
use Rattle.hum_score.specs.declared.records.SpinedKind.TheVariants.{Interpretation}
use Rattle.hum_score.specs.Row.{Row, Spined, chosen}
use Rattle.hum_score.specs.Spelling.{is_empty}
use Rattle.hum_score.specs.Sign.{sign_of, is_exclusive}
use Rattle.hum_score.specs.Spines.{Unopened, Spines}
use Rattle.hum_score.specs.Rules.{breaks_as_text, in_order}
use Rattle.hum_path.proofs.Widths.{text_width}
use Rattle.hum_path.proofs.Obeyed.{Opens}
use Rattle.hum_stage.specs.Meaning.{KeepsScore}
use Rattle.hum_stage.specs.Decided.{decisions, limit}
use Rattle.hum_columns.specs.Chosen.{others}
use Rattle.hum_columns.proofs.KeepsScores.{Reach, Selects, text_reaches, text_parts, opening_reaches, columns_keep}
use Rattle.hum_cleave.specs.Columns.{opening_flags, together}
use Rattle.hum_choices.specs.Cleave.{Options, is_name, fits_in_token}
use Rattle.hum_cleave.specs.Cleave.{one_record, one_of, opened, cleave, column_command}
use Rattle.hum_cleave.proofs.Placewise.{together_filled}
use Rattle.hum_cleave.proofs.Selecting.{together_length, together_fewer, together_lacks}
use Rattle.hum_cleave.proofs.MergedLeads.{merged_leads}

-- A name that a plan may give.
pub record IsNamed (name : List ℕ) : Type 0 where
  pub exclusive : is_exclusive (sign_of name) ≡ true
  pub bare : bytes_eq (codes "**") name ≡ false
  pub some : (length name == 0) ≡ false

named : (name : List ℕ) → is_name name ≡ true → IsNamed name
named name h =
    let both = and_parts (is_exclusive (sign_of name)) (not (bytes_eq (codes "**") name) && fits_in_token name) h in
    record {
      exclusive = both.0;
      bare = grind (arith, nat_tests, (and_parts (not (bytes_eq (codes "**") name)) (fits_in_token name) both.1).0);
      some = filled name both.0;
    }
  where
    filled : (name : List ℕ) → is_exclusive (sign_of name) ≡ true → (length name == 0) ≡ false
    filled = grind (arith, nat_tests)

one_made : (kind : SpinedKind) (us : List (List ℕ)) (rows : List Row) → one_record kind us ≡ Ok rows → Spined kind us ∷ [] ≡ rows
one_made = grind (arith, nat_tests)

-- A local comment or data.
text_merged : (name one : List ℕ) (fs : List Bool) (kind : SpinedKind) (names tokens us : List (List ℕ)) → IsNamed name
    → length fs ≡ length names → (kind ≡ Interpretation → ⊥)
    → find (breaks_as_text (Spines names) tokens) in_order ≡ None → together one fs tokens ≡ us
    → Reach (Spines (together name fs names)) (Spined kind us ∷ []) (Spines (together name fs names))
text_merged name one fs kind names tokens [] is len other h e =
    grind (arith, nat_tests, text_width, together_filled, text_parts, false≢true)
text_merged name one fs kind names tokens (u ∷ us) is len other h e =
    let size = together_length one name fs tokens names (text_width (Spines names) tokens h) in
    let same = ap length e in
    let waits = together_lacks is_empty name fs names is.some (text_parts names tokens h).1 in
    text_reaches kind (together name fs names) u us other (omega (arith, same, size)) waits

-- At the opening.
others_exclusive : (fs : List Bool) (ts : List (List ℕ)) → list_all is_exclusive (map sign_of ts) ≡ true
    → list_all is_exclusive (map sign_of (others fs ts)) ≡ true
others_exclusive (true ∷ fs) (t ∷ ts) h = others_exclusive fs ts (and_parts (is_exclusive (sign_of t)) (list_all is_exclusive (map sign_of ts)) h).1
others_exclusive (false ∷ fs) (t ∷ ts) h =
    let both = and_parts (is_exclusive (sign_of t)) (list_all is_exclusive (map sign_of ts)) h in
    and_from (is_exclusive (sign_of t)) (list_all is_exclusive (map sign_of (others fs ts))) both.0 (others_exclusive fs ts both.1)
others_exclusive fs ts h = refl

together_exclusive : (one : List ℕ) (fs : List Bool) (ts : List (List ℕ)) → is_exclusive (sign_of one) ≡ true
    → list_all is_exclusive (map sign_of ts) ≡ true → list_all is_exclusive (map sign_of (together one fs ts)) ≡ true
together_exclusive one (true ∷ fs) (t ∷ ts) o h =
    grind (arith, nat_tests, and_parts, and_from, others_exclusive)
together_exclusive one (false ∷ fs) (t ∷ ts) o h =
    let both = and_parts (is_exclusive (sign_of t)) (list_all is_exclusive (map sign_of ts)) h in
    and_from (is_exclusive (sign_of t)) (list_all is_exclusive (map sign_of (together one fs ts))) both.0 (together_exclusive one fs ts o both.1)
together_exclusive one fs ts o h = refl

together_opens : (name : List ℕ) (fs : List Bool) (tokens : List (List ℕ)) → IsNamed name → Opens tokens → Opens (together name fs tokens)
together_opens = grind (arith, nat_tests, together_exclusive, together_lacks, together_fewer)

open_merged : (options : Options) (tokens : List (List ℕ)) (rows : List Row) → IsNamed options.new_name → Opens tokens
    → opened options tokens ≡ Ok rows
    → Reach Unopened rows (Spines (together options.new_name (opening_flags options.name tokens) tokens))
open_merged = grind (arith, nat_tests, one_made, opening_reaches, together_opens)

cleave_selects : (options : Options) → IsNamed options.new_name → Selects (column_command options) (together options.new_name)
cleave_selects options is = record {
  wide = λ tokens. length-map tokens (bytes_eq options.name);
  nothing = nothing;
  opening = λ tokens rows h e. open_merged options tokens rows is h e;
  later = merged_leads options.new_name is.some;
  other = λ fs kind names tokens rows len other h e.
      let us = together (one_of options.separator kind (chosen fs tokens)) fs tokens in
      rw (← one_made kind us rows e)
      (text_merged options.new_name (one_of options.separator kind (chosen fs tokens)) fs kind names tokens us is len other h refl);
}
  where
    nothing : (fs : List Bool) → together options.new_name fs [] ≡ []
    nothing [] = refl
    nothing (f ∷ fs) = refl

-- The command cleave makes scores of scores.
pub cleave_keeps : (options : Options) → is_name options.new_name ≡ true → KeepsScore (λ p. limit 4294967295 (decisions (cleave options) [] p))
cleave_keeps = grind (arith, nat_tests, columns_keep, cleave_selects, named)

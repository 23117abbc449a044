-- What is extracted and then filled is what is filled and then extracted.
use Rattle.std.proofs.lemmas.Bool.Decides.{nat_tests}
use Rattle.std.proofs.Common.{◌≡◌, ◌∙◌, refl, sym, ap, ℕ, Bool, true, false, List, [], ◌∷◌, ◌++◌, length, map, arith, append-nil, cond, None}
use Rattle.std.specs.Prelude.{Option, Result, Ok, Err}
use Rattle.std.specs.List.{find}
use Rattle.std.proofs.lemmas.List.{length-map}
use Rattle.hum_score.specs.declared.records.SpinedKind.{SpinedKind}
use Rattle.hum_score.specs.declared.records.SpinedKind.TheVariants.{Local, Interpretation, Values}
use Rattle.hum_score.specs.Row.{Row, Comment, Spined, chosen}
use Rattle.hum_score.specs.Spines.{Path, Unopened, Spines, after}
use Rattle.hum_score.specs.Rules.{breaks_as_text, in_order}
use Rattle.hum_score.specs.Score.{IsOpen, path_after, passed}
use Rattle.hum_path.specs.Chains.{origins, columns}
use Rattle.hum_path.proofs.Widths.{columns_width, text_width}
use Rattle.hum_stage.specs.declared.faults.Rule.{Rule}
use Rattle.hum_stage.specs.declared.faults.Rule.TheVariants.{X2}
use Rattle.hum_words.specs.declared.commands.Command.TheVariants.{Ditto, Extract}
use Rattle.hum_stage.specs.declared.faults.End.TheVariants.{Closed}
use Rattle.hum_score.specs.InOrder.{IsScore}
use Rattle.hum_stage.specs.Meaning.{KeepsScore}
use Rattle.hum_columns.specs.Spread.{filled}
use Rattle.hum_columns.specs.Chosen.{opening_of, flags}
use Rattle.hum_columns.specs.Deciding.{at_path}
use Rattle.hum_choices.specs.declared.extract.ExtractOptions.{ExtractOptions}
use Rattle.hum_choices.specs.Extract.{Choice}
use Rattle.hum_extract.specs.Choice.{opening_flags, misses}
use Rattle.hum_extract.specs.Extract.{cut, opened, extract}
use Rattle.hum_choices.specs.Extract.{choice_of}
use Rattle.hum_extract.specs.Extract.{meaning as meaning_of_extract}
use Rattle.hum_choices.specs.declared.ditto.DittoOptions.{DittoOptions}
use Rattle.hum_ditto.specs.Ditto.{repeated, filled as filled_by, all_filled, new_tokens, ditto, meaning as meaning_of_ditto}
use Rattle.hum_stage.specs.Limits.{if_fits}
use Rattle.hum_ditto.specs.Memory.{last_seen}
use Rattle.hum_ditto.proofs.Nearest.{all_remembered}
use Rattle.hum_laws.specs.declared.given.Given.{Given}
use Rattle.hum_laws.specs.Piped.{IsPiped}
use Rattle.hum_laws.proofs.Runs.{Taken, made_by, out, Fine, Commutes, commute, piped_runs}
use Rattle.hum_laws.proofs.Spreads.{Passes}
use Rattle.hum_laws.proofs.Cuts.{IsCut, cut_step}
use Rattle.hum_laws.proofs.Indicators.{join_is, exchange_is}

-- what a null token would repeat isn't changed by null interpretations, joins and exchanges
pub ditto_passes : (skip : Option (List ℕ)) → Passes (last_seen skip)
ditto_passes = grind (arith, nat_tests, join_is, exchange_is)

-- tokens that are chosen and filled
chosen_filled : (p : Bool) (fs : List Bool) (sources : List (Option (List ℕ))) (tokens : List (List ℕ)) → length sources ≡ length tokens
    → all_filled p (chosen fs sources) (chosen fs tokens) ≡ chosen fs (all_filled p sources tokens)
chosen_filled p (true ∷ fs) (s ∷ sources) (t ∷ tokens) e =
    ap (λ (us : List (List ℕ)). filled_by p s t ∷ us) (chosen_filled p fs sources tokens (omega (arith, e)))
chosen_filled p (false ∷ fs) (s ∷ sources) (t ∷ tokens) e = chosen_filled p fs sources tokens (omega (arith, e))
chosen_filled p fs sources tokens h = grind (arith, nat_tests)

some_filled : (p : Bool) (sources : List (Option (List ℕ))) (t : List ℕ) (tokens : List (List ℕ)) (kind : SpinedKind)
    → filled kind (all_filled p sources (t ∷ tokens) ∷ []) ≡ Spined kind (all_filled p sources (t ∷ tokens)) ∷ []
some_filled p [] t tokens kind = refl
some_filled p (s ∷ sources) t tokens kind = refl

fits_alone : (row : Row) → Taken (if_fits row) → made_by (if_fits row) ≡ row ∷ []
fits_alone = grind (arith, nat_tests)

-- ditto leaves interpretations and comments
interpretations_stay : (options : DittoOptions) (records : List (List (List ℕ))) (past : List Row)
    → out (ditto options) past (filled Interpretation records) ≡ filled Interpretation records
interpretations_stay options [] past = refl
interpretations_stay options ([] ∷ records) past = interpretations_stay options records past
interpretations_stay options ((t ∷ ts) ∷ records) past =
    ap (λ (rows : List Row). Spined Interpretation (t ∷ ts) ∷ rows) (interpretations_stay options records (Spined Interpretation (t ∷ ts) ∷ past))

comments_stay : (options : DittoOptions) (us : List (List ℕ)) (past : List Row) → out (ditto options) past (filled Local (us ∷ [])) ≡ filled Local (us ∷ [])
comments_stay = grind (arith, nat_tests)

-- an interpretation is cut to interpretations
pub record Interpretations (rows : List Row) : Type 0 where
  pub records : List (List (List ℕ))
  pub are : filled Interpretation records ≡ rows

cut_rows : (fs : List Bool) (tokens : List (List ℕ)) (rows : List Row) → cut fs tokens ≡ Ok rows → Interpretations rows
cut_rows = grind (arith, nat_tests)

opened_rows : (choice : Choice) (tokens : List (List ℕ)) (rows : List Row) → opened choice tokens ≡ Ok rows → Interpretations rows
opened_rows choice tokens rows e = go (misses choice tokens) e
  where
    go : (a : Bool) → ◌≡◌ {A = Result (List Row) Rule}
        (cond a (Err X2) (Ok (filled Interpretation (chosen (opening_flags choice tokens) tokens ∷ [])))) (Ok rows) → Interpretations rows
    go true e = cc
    go false e = record { records = chosen (opening_flags choice tokens) tokens ∷ []; are = cc }

pub either_rows : (choice : Choice) (fs : List Bool) (tokens : List (List ℕ)) (rows : List Row) (path : Path)
    → at_path path (opened choice tokens) (cut fs tokens) ≡ Ok rows → Interpretations rows
either_rows choice fs tokens rows Unopened e = opened_rows choice tokens rows e
either_rows choice fs tokens rows (Spines names) e = cut_rows fs tokens rows e

-- records that the spines and what is chosen of them are the same after
pub record SameSpines (past other : List Row) : Type 0 where
  pub path : path_after other ≡ path_after past
  pub origins : origins other ≡ origins past
  pub opening : opening_of other ≡ opening_of past

pub same_flags : (choose : List (List ℕ) → List Bool) (past other : List Row) → SameSpines past other → flags choose other ≡ flags choose past
same_flags choose past other h = rw (h.origins, h.opening) refl

pub same_on : (past other : List Row) (tokens : List (List ℕ)) → SameSpines past other
    → SameSpines (Spined Interpretation tokens ∷ past) (Spined Interpretation tokens ∷ other)
same_on = grind (arith, nat_tests)

-- under a local comment or data, whatever its tokens
pub same_text : (past other : List Row) (kind : SpinedKind) (tokens us : List (List ℕ)) → (kind ≡ Interpretation → ⊥)
    → find (breaks_as_text (path_after past) tokens) in_order ≡ None → SameSpines past other → SameSpines (Spined kind tokens ∷ past) (Spined kind us ∷ other)
same_text = grind (arith, nat_tests)

module _ (choice : Choice) (options : DittoOptions) where
  pub record Aside (past one other : List Row) : Type 0 where
    pub is_cut : IsCut (last_seen options.skip) None (ditto_passes options.skip) choice past one
    pub spines : SameSpines past other

  abbrev marked : List Row → List Bool
  marked past = flags (opening_flags choice) past

  abbrev sources : List Row → List (Option (List ℕ))
  sources past = map (repeated options.skip) (columns past)

  -- what a null token repeats in the chosen columns
  sources_cut : (past one other : List Row) → Aside past one other → sources one ≡ chosen (marked past) (sources past)
  sources_cut = grind (arith, nat_tests, all_remembered)

  values_same : (past one other : List Row) (tokens : List (List ℕ)) → IsOpen past → find (breaks_as_text (path_after past) tokens) in_order ≡ None
      → Aside past one other → (us : List (List ℕ)) → chosen (marked past) tokens ≡ us → Fine (ditto options) one (filled Values (us ∷ []))
      → out (ditto options) one (filled Values (us ∷ [])) ≡ filled Values (chosen (marked other) (new_tokens options past tokens) ∷ [])
  values_same past one other tokens sound h aside us is fine = rw (same_flags (opening_flags choice) past other aside.spines) (go us is fine)
    where
      right : all_filled options.parentheses (sources one) (chosen (marked past) tokens) ≡ chosen (marked past) (new_tokens options past tokens)
      right =
          ap (λ (ss : List (Option (List ℕ))). all_filled options.parentheses ss (chosen (marked past) tokens)) (sources_cut past one other aside)
          ∙ chosen_filled options.parentheses (marked past) (sources past) tokens
          (length-map (columns past) (repeated options.skip) ∙ columns_width past sound ∙ sym (text_width (path_after past) tokens h))

      none : (ss : List (Option (List ℕ))) → all_filled options.parentheses ss [] ≡ []
      none [] = refl
      none (s ∷ ss) = refl

      go : (us : List (List ℕ)) → chosen (marked past) tokens ≡ us → Fine (ditto options) one (filled Values (us ∷ []))
          → out (ditto options) one (filled Values (us ∷ [])) ≡ filled Values (chosen (marked past) (new_tokens options past tokens) ∷ [])
      go = grind (arith, nat_tests, right, none, append-nil, fits_alone, some_filled)

  abbrev Step : List Row → List Row → List Row → List Row → List Row → Row → Type 0
  Step past one other made also row =
      (out (ditto options) one made ≡ out (extract choice) other also) × SameSpines (row ∷ past) (passed other also)

  fits_row : (row : Row) (rows : List Row) → if_fits row ≡ Ok rows → row ∷ [] ≡ rows
  fits_row = grind (arith, nat_tests)

  step : (past one other made also : List Row) (row : Row) → IsOpen (row ∷ past) → Aside past one other
      → extract choice past row ≡ Ok made → ditto options past row ≡ Ok also → Fine (ditto options) one made → Step past one other made also row
  step past one other made also (Comment text) sound h e f fine = grind (arith, nat_tests)
  step past one other made also (Spined Local tokens) sound h e f fine =
      grind (arith, nat_tests, comments_stay, same_flags, append-nil, same_text)
  step past one other made also (Spined Interpretation tokens) sound h e f fine =
      let too : Spined Interpretation tokens ∷ [] ≡ also = cc in
      let rows = either_rows choice (marked past) tokens made (path_after past) e in
      let again : extract choice other (Spined Interpretation tokens) ≡ Ok made =
      grind (arith, nat_tests, same_flags) in
      rw (← too) (
        rw (← rows.are) (interpretations_stay options rows.records one) ∙ sym (append-nil made)
            ∙ sym (ap (λ (d : Result (List Row) Rule). made_by d ++ []) again),
        same_on past other tokens h.spines,
      )
  step past one other made also (Spined Values tokens) sound h e f fine =
      grind (arith, nat_tests, fits_row, values_same, append-nil, same_text)

  pub either_order : Commutes (extract choice) (ditto options) Aside
  either_order = record {
    opening = record {
      is_cut = record { leads = refl; seen = nothing (marked []) };
      spines = record { path = refl; origins = refl; opening = refl };
    };
    step = λ past one other made also row sound too also_sound holds e f follow goes fine right.
        let s = step past one other made also row sound holds e f fine in (
          s.0,
          record {
            is_cut = cut_step (last_seen options.skip) None
                (ditto_passes options.skip) choice past one made row sound too holds.is_cut follow e;
            spines = s.1;
          },
        );
  }
    where
      nothing : (fs : List Bool) → [] ≡ chosen {X = Option (List ℕ)} fs []
      nothing [] = refl
      nothing (f ∷ fs) = refl

-- extract and then ditto is ditto and then extract.
pub extracted_filled : (choice : ExtractOptions) (options : DittoOptions) (p : List Row) (one other : Given)
    → IsPiped (meaning_of_extract 1 choice) (meaning_of_ditto 2 options) p one → IsPiped (meaning_of_ditto 1 options) (meaning_of_extract 2 choice) p other
    → KeepsScore (meaning_of_extract 1 choice).outcomes → KeepsScore (meaning_of_ditto 1 options).outcomes → IsScore p
    → one.end ≡ Closed → other.end ≡ Closed → one.records.items ≡ other.records.items
extracted_filled choice options p one other h k keeps stays score a b =
    commute (extract (choice_of choice)) (ditto options) (Aside (choice_of choice) options)
    (either_order (choice_of choice) options) p one.records.items other.records.items score
    (piped_runs 1 2 Extract Ditto (extract (choice_of choice)) (ditto options) p one h keeps score a)
    (piped_runs 1 2 Ditto Extract (ditto options) (extract (choice_of choice)) p other k stays score b)

-- All fields that are extracted, and names that are extracted twice.
use Rattle.std.proofs.lemmas.Bool.Decides.{nat_tests}
use Rattle.std.proofs.Common.{◌≡◌, ◌∙◌, refl, sym, ℕ, ◌+◌, ◌≤◌, Bool, true, false, List, [], ◌∷◌, ◌++◌, length, arith, cond, Some}
use Rattle.std.specs.Prelude.{Result, Ok, Err, not}
use Rattle.std.specs.List.{list_any}
use Rattle.std.specs.Str.{bytes_eq}
use Rattle.std.proofs.lemmas.Bool.{or_parts, not-false}
use Rattle.hum_score.specs.declared.records.SpinedKind.TheVariants.{Interpretation}
use Rattle.hum_score.specs.Row.{Row, Comment, Spined, chosen}
use Rattle.hum_score.specs.Spines.{Unopened}
use Rattle.hum_score.specs.Score.{path_after}
use Rattle.hum_score.proofs.Cases.{by_bool}
use Rattle.hum_words.specs.declared.commands.Command.TheVariants.{Extract}
use Rattle.hum_stage.specs.declared.faults.End.TheVariants.{Closed}
use Rattle.hum_stage.specs.declared.faults.Rule.{Rule}
use Rattle.hum_stage.specs.declared.faults.Rule.TheVariants.{X2}
use Rattle.hum_score.specs.InOrder.{Follow, IsScore}
use Rattle.hum_stage.specs.Meaning.{KeepsScore}
use Rattle.hum_stage.specs.Decided.{at_once}
use Rattle.hum_columns.specs.Spread.{filled}
use Rattle.hum_choices.specs.Extract.{Names}
use Rattle.hum_extract.specs.Choice.{each_chosen, opening_flags, misses, names_beyond}
use Rattle.hum_extract.specs.Extract.{opened, extract}
use Rattle.hum_record.proofs.Left.{chosen_filled}
use Rattle.hum_extract.proofs.ChosenTokens.{filled_one}
use Rattle.hum_extract.proofs.Taking.{opening_length}
use Rattle.hum_laws.specs.declared.given.Given.{Given}
use Rattle.hum_laws.specs.Piped.{IsAlone, IsPiped}
use Rattle.hum_laws.specs.Fields.{every_field}
use Rattle.hum_laws.proofs.Runs.{Fine, out, made_by, taken, alone_runs, piped_runs}
use Rattle.hum_laws.proofs.Whole.{all_on, opening_in, stays_whole}

-- every field is chosen
each_on : (width j : ℕ) (names : List (List ℕ)) → j + length names ≤ width → all_on (each_chosen every_field width j names) ≡ true
each_on width j [] h = refl
each_on width j (name ∷ names) h = grind (arith, nat_tests, each_on width (j + 1) names (omega (arith, h)))

pub all_fields_stay : (p : List Row) (given : Given) → IsAlone (at_once 1 Extract (extract every_field)) p given → IsScore p → given.end ≡ Closed
    → given.records.items ≡ p
all_fields_stay p given h score closed =
    let runs = alone_runs 1 Extract (extract every_field) p given h closed in
    runs.gives ∙ stays_whole every_field p score (λ tokens is. each_on (length tokens) 0 tokens (omega arith)) runs.fine

-- what bears one of some names bears it still
module _ (names : List (List ℕ)) where
  names_again : (width other j i : ℕ) (tokens : List (List ℕ))
      → all_on (each_chosen (Names names) width j (chosen (each_chosen (Names names) other i tokens) tokens)) ≡ true
  names_again width other j i [] = refl
  names_again width other j i (t ∷ tokens) = by_bool (list_any (bytes_eq t) names)
      (λ w. rw w (rw w (names_again width other (j + 1) (i + 1) tokens)))
      (λ w. rw w (names_again width other j (i + 1) tokens))

  opened_on : (tokens ts : List (List ℕ)) (rows : List Row) → opened (Names names) tokens ≡ Ok rows
      → (more : List Row) → opening_in (Names names) (rows ++ more) ≡ Some ts → all_on (opening_flags (Names names) ts) ≡ true
  opened_on tokens ts rows e more is = go (misses (Names names) tokens) refl e
    where
      us : List (List ℕ)
      us = chosen (opening_flags (Names names) tokens) tokens

      go : (b : Bool) → misses (Names names) tokens ≡ b → ◌≡◌ {A = Result (List Row) Rule} (cond b (Err X2) (Ok (filled Interpretation (us ∷ [])))) (Ok rows)
          → all_on (opening_flags (Names names) ts) ≡ true
      go true missed e = cc
      go false missed e =
          let any = not-false _ (or_parts (names_beyond (Names names) (length tokens))
          (not (list_any (λ b. b) (opening_flags (Names names) tokens))) missed).1 in
          let some = chosen_filled (opening_flags (Names names) tokens) tokens (opening_length (Names names) tokens) any in
          let one : Spined Interpretation us ∷ [] ≡ rows = sym (filled_one Interpretation us some) ∙ cc in
          let first : Some us ≡ Some ts = rw (← one) at is in
          let same : us ≡ ts = cc in
          rw (← same) (names_again (length us) (length tokens) 0 0 tokens)

  extracted_on : (past p : List Row) → path_after past ≡ Unopened → Follow (path_after past) p → Fine (extract (Names names)) past p → (ts : List (List ℕ))
      → opening_in (Names names) (out (extract (Names names)) past p) ≡ Some ts → all_on (opening_flags (Names names) ts) ≡ true
  extracted_on past (Comment text ∷ p) at follow fine ts is = extracted_on (Comment text ∷ past) p at follow.1 fine.1 ts is
  extracted_on past p h k w ts e = grind (arith, nat_tests, made_by, taken, opened_on, out)

  pub names_twice : (p : List Row) (once twice : Given) → IsAlone (at_once 1 Extract (extract (Names names))) p once
      → IsPiped (at_once 1 Extract (extract (Names names))) (at_once 2 Extract (extract (Names names))) p twice
      → KeepsScore (at_once 1 Extract (extract (Names names))).outcomes → IsScore p → once.end ≡ Closed → twice.end ≡ Closed
      → twice.records.items ≡ once.records.items
  names_twice p once twice h k keeps score one two =
      let alone = alone_runs 1 Extract (extract (Names names)) p once h one in
      let both = piped_runs 1 2 Extract Extract (extract (Names names)) (extract (Names names)) p twice k keeps score two in
      both.gives
      ∙ stays_whole (Names names) (out (extract (Names names)) [] p) both.between (extracted_on [] p refl score both.one) both.two
      ∙ sym alone.gives

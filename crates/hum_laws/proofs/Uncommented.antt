-- Global comments, dropped before or after a command that leaves them.
use Rattle.std.proofs.lemmas.Bool.Decides.{nat_tests}
use Rattle.std.proofs.Common.{arith}
use Rattle.std.proofs.Common.{◌≡◌, refl, ap, ℕ, Bool, List, [], ◌∷◌, append-nil}
use Rattle.std.specs.Prelude.{Ok}
use Rattle.hum_score.specs.declared.records.SpinedKind.{SpinedKind}
use Rattle.hum_score.specs.declared.records.SpinedKind.TheVariants.{Local, Interpretation, Values}
use Rattle.hum_score.specs.Row.{Row, Comment, Spined}
use Rattle.hum_score.specs.Spines.{Path, after}
use Rattle.hum_score.specs.Score.{path_after, passed}
use Rattle.hum_path.specs.Chains.{columns, longer, origins}
use Rattle.hum_words.specs.declared.commands.Command.{Command}
use Rattle.hum_words.specs.declared.commands.Command.TheVariants as name
use Rattle.hum_stage.specs.declared.faults.End.TheVariants.{Closed}
use Rattle.hum_score.specs.InOrder.{IsScore}
use Rattle.hum_stage.specs.Meaning.{KeepsScore}
use Rattle.hum_stage.specs.Decided.{Decision, at_once}
use Rattle.hum_rid.specs.Rid.{rid, meaning as meaning_of_rid}
use Rattle.hum_columns.specs.Spread.{filled}
use Rattle.hum_columns.specs.Chosen.{opening_of, flags}
use Rattle.hum_columns.specs.Deciding.{ColumnCommand, by_columns}
use Rattle.hum_choices.specs.Extract.{choice_of}
use Rattle.hum_choices.specs.Extract.{Choice}
use Rattle.hum_extract.specs.Extract.{extract}
use Rattle.hum_choices.specs.Cleave.{Options}
use Rattle.hum_cleave.specs.Cleave.{cleave}
use Rattle.hum_cells.specs.Rewriting.{Rewriting}
use Rattle.hum_cells.specs.Rewriting.{rewrite}
use Rattle.hum_choices.specs.declared.ditto.DittoOptions.{DittoOptions}
use Rattle.hum_ditto.specs.Ditto.{ditto}
use Rattle.hum_tones.specs.Commands.{trans, semits, mint, recip}
use Rattle.hum_choices.specs.declared.CommandOptions.{CommandOptions}
use Rattle.hum_choices.specs.declared.CommandOptions.TheVariants.{Extract, Ditto, Cleave, Trans, Semits, Mint, Recip}
use Rattle.hum_commands.specs.Meaning.{meaning, MakesScores}
use Rattle.hum_laws.specs.declared.given.Given.{Given}
use Rattle.hum_laws.specs.Piped.{IsPiped}
use Rattle.hum_laws.specs.Comments.{all_comments, TellsByTokens}
use Rattle.hum_laws.proofs.Runs.{made_by, out, Commutes, commute, piped_runs}
use Rattle.hum_laws.proofs.Extracted.{either_rows}

-- records without their global comments
abbrev pub uncommented : List Row → List Row
uncommented [] = []
uncommented (Comment text ∷ rows) = uncommented rows
uncommented (Spined kind tokens ∷ rows) = Spined kind tokens ∷ uncommented rows

path_stays : (past : List Row) → path_after (uncommented past) ≡ path_after past
path_stays [] = refl
path_stays (Comment text ∷ past) = path_stays past
path_stays (Spined kind tokens ∷ past) = ap (λ (p : Path). after p (Spined kind tokens)) (path_stays past)

columns_stay : (past : List Row) → columns (uncommented past) ≡ columns past
columns_stay [] = refl
columns_stay (Comment text ∷ past) = columns_stay past
columns_stay (Spined Interpretation tokens ∷ past) = rw (path_stays past, columns_stay past) refl
columns_stay (Spined Local tokens ∷ past) = ap (longer tokens) (columns_stay past)
columns_stay (Spined Values tokens ∷ past) = ap (longer tokens) (columns_stay past)

origins_stay : (past : List Row) → origins (uncommented past) ≡ origins past
origins_stay [] = refl
origins_stay (Comment text ∷ past) = origins_stay past
origins_stay (Spined Interpretation tokens ∷ past) = rw (path_stays past, origins_stay past) refl
origins_stay (Spined Local tokens ∷ past) = origins_stay past
origins_stay (Spined Values tokens ∷ past) = origins_stay past

opening_stays : (past : List Row) → opening_of (uncommented past) ≡ opening_of past
opening_stays [] = refl
opening_stays (Comment text ∷ past) = opening_stays past
opening_stays (Spined kind tokens ∷ past) = rw (path_stays past, opening_stays past) refl

-- A command that leaves global comments, and tells other records by those of tokens.
pub record ByTokens (decide : Decision) : Type 0 where
  pub comment : (past : List Row) (text : List ℕ) → decide past (Comment text) ≡ Ok (Comment text ∷ [])
  pub same : (past : List Row) (row : Row) → decide (uncommented past) row ≡ decide past row
  pub spined : (past : List Row) (kind : SpinedKind) (tokens : List (List ℕ)) (made : List Row) → decide past (Spined kind tokens) ≡ Ok made
      → uncommented made ≡ made

-- rid drops them alone
rid_drops : (past rows : List Row) → out (rid all_comments) past rows ≡ uncommented rows
rid_drops past [] = refl
rid_drops past (Comment text ∷ rows) = rid_drops (Comment text ∷ past) rows
rid_drops past (Spined Local tokens ∷ rows) = ap (λ (x : List Row). Spined Local tokens ∷ x) (rid_drops (Spined Local tokens ∷ past) rows)
rid_drops past (Spined Interpretation tokens ∷ rows) = ap (λ (x : List Row). Spined Interpretation tokens ∷ x)
    (rid_drops (Spined Interpretation tokens ∷ past) rows)
rid_drops past (Spined Values tokens ∷ rows) = ap (λ (x : List Row). Spined Values tokens ∷ x) (rid_drops (Spined Values tokens ∷ past) rows)

either_side : (decide : Decision) → ByTokens decide → Commutes (rid all_comments) decide (λ past one other. one ≡ uncommented past)
either_side decide h = record {
  opening = refl;
  step = λ past one other made also row right sound goes holds e f follow too fine there. step past one other made also row holds e f;
}
  where
    spined : (past one other made also : List Row) (kind : SpinedKind) (tokens : List (List ℕ)) → one ≡ uncommented past → Spined kind tokens ∷ [] ≡ made
        → decide past (Spined kind tokens) ≡ Ok also
        → (out decide one made ≡ out (rid all_comments) other also) × (passed one made ≡ Spined kind tokens ∷ uncommented past)
    spined = grind (arith, nat_tests, made_by, append-nil, rid_drops)

    step : (past one other made also : List Row) (row : Row) → one ≡ uncommented past → rid all_comments past row ≡ Ok made → decide past row ≡ Ok also
        → (out decide one made ≡ out (rid all_comments) other also) × (passed one made ≡ uncommented (row ∷ past))
    step = grind (arith, nat_tests, spined)

-- written records have tokens
filled_stay : (kind : SpinedKind) (records : List (List (List ℕ))) → uncommented (filled kind records) ≡ filled kind records
filled_stay kind [] = refl
filled_stay kind ([] ∷ records) = filled_stay kind records
filled_stay kind ((t ∷ ts) ∷ records) = ap (λ (x : List Row). Spined kind (t ∷ ts) ∷ x) (filled_stay kind records)

flags_stay : (choose : List (List ℕ) → List Bool) (past : List Row) → flags choose (uncommented past) ≡ flags choose past
flags_stay choose past = rw (origins_stay past, opening_stays past) refl

same_decision : (command : ColumnCommand) (past : List Row) (row : Row) → by_columns command (uncommented past) row ≡ by_columns command past row
same_decision = grind (arith, nat_tests, flags_stay, path_stays)

extract_by_tokens : (choice : Choice) → ByTokens (extract choice)
extract_by_tokens = grind (arith, nat_tests, same_decision, filled_stay, either_rows)

cleave_by_tokens : (options : Options) → ByTokens (cleave options)
cleave_by_tokens = grind (arith, nat_tests, same_decision, filled_stay)

ditto_by_tokens : (options : DittoOptions) → ByTokens (ditto options)
ditto_by_tokens = grind (arith, nat_tests, columns_stay)

notes_by_tokens : (rewriting : Rewriting) → ByTokens (rewrite rewriting)
notes_by_tokens = grind (arith, nat_tests, columns_stay, path_stays)

-- what it means to be told so
record Telling (options : CommandOptions) : Type 0 where
  command : Command
  decide : Decision
  is : (stage : ℕ) → meaning stage options ≡ at_once stage command decide
  by_tokens : ByTokens decide

telling : (options : CommandOptions) → TellsByTokens options → Telling options
telling (Extract choice) h = record {
  command = name.Extract;
  decide = extract (choice_of choice);
  is = λ stage. refl;
  by_tokens = extract_by_tokens (choice_of choice);
}
telling (Ditto options) h = record { command = name.Ditto; decide = ditto options; is = λ stage. refl; by_tokens = ditto_by_tokens options }
telling (Cleave options) h = record { command = name.Cleave; decide = cleave options; is = λ stage. refl; by_tokens = cleave_by_tokens options }
telling (Trans options) h = record {
  command = name.Trans;
  decide = rewrite (trans options.steps options.semitones);
  is = λ stage. refl;
  by_tokens = notes_by_tokens (trans options.steps options.semitones);
}
telling (Semits options) h = record {
  command = name.Semits;
  decide = rewrite (semits options);
  is = λ stage. refl;
  by_tokens = notes_by_tokens (semits options);
}
telling (Mint options) h = record { command = name.Mint; decide = rewrite (mint options); is = λ stage. refl; by_tokens = notes_by_tokens (mint options) }
telling (Recip options) h = record { command = name.Recip; decide = rewrite (recip options); is = λ stage. refl; by_tokens = notes_by_tokens (recip options) }
telling _ h = absurd h

pub tells_scores : (options : CommandOptions) → TellsByTokens options → MakesScores options
tells_scores = grind (arith, nat_tests)

-- In front of such a command or behind it, it is the same.
pub dropped_either_side : (options : CommandOptions) → TellsByTokens options → (p : List Row) (one other : Given)
    → IsPiped (meaning_of_rid 1 all_comments) (meaning 2 options) p one → IsPiped (meaning 1 options) (meaning_of_rid 2 all_comments) p other
    → KeepsScore (meaning_of_rid 1 all_comments).outcomes → KeepsScore (meaning 1 options).outcomes → IsScore p
    → one.end ≡ Closed → other.end ≡ Closed → one.records.items ≡ other.records.items
dropped_either_side options tells p one other h k keeps stays score a b =
    let t = telling options tells in
    commute (rid all_comments) t.decide (λ past one other. one ≡ uncommented past)
    (either_side t.decide t.by_tokens) p one.records.items other.records.items score
    (piped_runs 1 2 name.Rid t.command (rid all_comments) t.decide p one (rw (t.is 2) at h) keeps score a)
    (piped_runs 1 2 t.command name.Rid t.decide (rid all_comments) p other (rw (t.is 1) at k) (rw (t.is 1) at stays) score b)

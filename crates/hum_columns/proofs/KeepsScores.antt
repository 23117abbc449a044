-- A command on chosen columns makes scores of scores.
use Rattle.std.proofs.lemmas.Grind.{common_steps}
use Rattle.std.proofs.Common.{◌≡◌, ◌∙◌, refl, ap, ℕ, ◌≤◌, ◌==◌, Bool, false, List, [], ◌∷◌, length, map, arith}
use Rattle.std.specs.Prelude.{None, Ok}
use Rattle.std.specs.List.{list_any, find}
use Rattle.std.proofs.lemmas.Bool.Decides.{nat_tests}
use Rattle.std.proofs.lemmas.List.{length-map}
use Rattle.hum_score.specs.declared.records.SpinedKind.{SpinedKind}
use Rattle.hum_score.specs.declared.records.SpinedKind.TheVariants.{Local, Interpretation, Values}
use Rattle.hum_score.specs.Row.{Row, Comment, Spined}
use Rattle.hum_score.specs.Spelling.{is_empty}
use Rattle.hum_score.specs.Sign.{sign_of}
use Rattle.hum_score.specs.Spines.{Path, Unopened, Spines, width, names_after}
use Rattle.hum_score.specs.Rules.{breaks, breaks_as_text, in_order, is_unfinished}
use Rattle.hum_score.specs.Score.{IsOpen, path_after, Lead}
use Rattle.hum_path.specs.Chains.{origins}
use Rattle.hum_path.proofs.Widths.{origins_width}
use Rattle.hum_path.proofs.Kept.{opening_sound}
use Rattle.hum_path.proofs.Obeyed.{Opens, opens, Obeys, obeys, narrow}
use Rattle.hum_score.specs.InOrder.{through, Follow}
use Rattle.hum_stage.specs.Meaning.{KeepsScore}
use Rattle.hum_stage.specs.Decided.{decisions, limit, Keeps}
use Rattle.hum_stage.proofs.Keeping.{at_once_keeps}
use Rattle.hum_stage.proofs.Scores.{lead_follows}
use Rattle.hum_columns.specs.Chosen.{opening_of, flags}
use Rattle.hum_columns.specs.Deciding.{ColumnCommand, at_path, by_columns}
use Rattle.hum_columns.proofs.Flags.{flags_width, flags_open, flags_after, is_from, flags_onward, text_opening}

-- Records break no rule on a path, and lead to another.
abbrev pub Reach : Path → List Row → Path → Type 0
Reach path rows end = Follow path rows × (through path rows ≡ end)

-- What a command has to say of each record: the spines of its output are selected from those of its input, by which are chosen.
pub record Selects (command : ColumnCommand) (select : List Bool → List (List ℕ) → List (List ℕ)) : Type 0 where
  pub wide : (tokens : List (List ℕ)) → length (command.choose tokens) ≡ length tokens
  pub nothing : (fs : List Bool) → select fs [] ≡ []
  pub opening : (tokens : List (List ℕ)) (rows : List Row) → Opens tokens → command.opening tokens ≡ Ok rows
      → Reach Unopened rows (Spines (select (command.choose tokens) tokens))
  pub later : (fs : List Bool) (names tokens : List (List ℕ)) (rows : List Row) → length fs ≡ length tokens → Obeys names tokens
      → length names ≤ 4096 → command.later fs tokens ≡ Ok rows
      → Lead (select fs names) rows (select (flags_after fs (map sign_of tokens)) (names_after (Spines names) tokens))
  pub other : (fs : List Bool) (kind : SpinedKind) (names tokens : List (List ℕ)) (rows : List Row) → length fs ≡ length names
      → (kind ≡ Interpretation → ⊥) → find (breaks_as_text (Spines names) tokens) in_order ≡ None → command.other fs kind tokens ≡ Ok rows
      → Reach (Spines (select fs names)) rows (Spines (select fs names))

pub text_reaches : (kind : SpinedKind) (names : List (List ℕ)) (u : List ℕ) (us : List (List ℕ)) → (kind ≡ Interpretation → ⊥)
    → length (u ∷ us) ≡ length names → list_any is_empty names ≡ false
    → Reach (Spines names) (Spined kind (u ∷ us) ∷ []) (Spines names)
text_reaches = grind (arith, nat_tests)

-- it has tokens, and no spine waits for its name
pub text_parts : (names tokens : List (List ℕ)) → find (breaks_as_text (Spines names) tokens) in_order ≡ None
    → ((length names == 0) ≡ false) × (list_any is_empty names ≡ false)
text_parts = grind (arith, nat_tests)

-- an opening record
pub opening_reaches : (tokens : List (List ℕ)) → Opens tokens → Reach Unopened (Spined Interpretation tokens ∷ []) (Spines tokens)
opening_reaches tokens h = ((opening_sound tokens h, tt), refl)

-- the spines of the output
abbrev pub selected_path : (List Bool → List (List ℕ) → List (List ℕ)) → List Bool → Path → Path
selected_path select flags Unopened = Unopened
selected_path select flags (Spines names) = Spines (select flags names)

module _ (command : ColumnCommand) (select : List Bool → List (List ℕ) → List (List ℕ)) (is : Selects command select) where
  abbrev pub Leads : List Row → Path → Type 0
  Leads past given = given ≡ selected_path select (flags command.choose past) (path_after past)

  text_case : (fs : List Bool) (kind : SpinedKind) (path : Path) (tokens : List (List ℕ)) (given : Path) (rows : List Row)
      → length fs ≡ width path → (kind ≡ Interpretation → ⊥)
      → find (breaks_as_text path tokens) in_order ≡ None → given ≡ selected_path select fs path → command.other fs kind tokens ≡ Ok rows
      → Reach given rows (selected_path select fs path)
  text_case fs kind Unopened tokens given rows len other h leads e = cc
  text_case fs kind (Spines names) tokens given rows len other h leads e = rw leads (is.other fs kind names tokens rows len other h e)

  open_next : (past : List Row) (tokens : List (List ℕ)) (rows : List Row) → IsOpen past → path_after past ≡ Unopened
      → find (breaks Unopened tokens) in_order ≡ None → command.opening tokens ≡ Ok rows
      → Reach Unopened rows (Spines (select (flags command.choose (Spined Interpretation tokens ∷ past)) tokens))
  open_next past tokens rows sound at h e =
      rw (flags_open command.choose past tokens (is.wide tokens) sound at) (is.opening tokens rows (opens tokens h) e)

  later_next : (past : List Row) (names tokens : List (List ℕ)) (rows : List Row) → IsOpen past → path_after past ≡ Spines names
      → find (breaks (Spines names) tokens) in_order ≡ None → command.later (flags command.choose past) tokens ≡ Ok rows
      → Reach (Spines (select (flags command.choose past) names)) rows
      (Spines (select (flags command.choose (Spined Interpretation tokens ∷ past)) (names_after (Spines names) tokens)))
  later_next past names tokens rows sound at h e =
      let keeps = obeys names tokens h in
      let own = keeps.wide in
      let size = length-map (origins past) (is_from command.choose past) in
      let wide = origins_width past sound ∙ ap width at in
      let most : length names ≤ 4096 = rw at at (narrow past sound) in
      rw (flags_onward command.choose past names tokens sound at keeps)
      (lead_follows (select (flags command.choose past) names) _ rows
      (is.later (flags command.choose past) names tokens rows (omega (arith, size, wide, own)) keeps most e))

  pub next : (past : List Row) (row : Row) (given : Path) (rows : List Row) → IsOpen (row ∷ past) → Leads past given
      → by_columns command past row ≡ Ok rows → Follow given rows × Leads (row ∷ past) (through given rows)
  next past (Comment text) given rows sound leads e = grind (arith, nat_tests)
  next past (Spined Local tokens) given rows sound leads e =
      rw (text_opening (path_after past) tokens (opening_of past) sound.1)
      (text_case (flags command.choose past) Local (path_after past) tokens given rows (flags_width command.choose past sound.0) (λ x. cc)
      sound.1 leads e)
  next past (Spined Values tokens) given rows sound leads e =
      rw (text_opening (path_after past) tokens (opening_of past) sound.1)
      (text_case (flags command.choose past) Values (path_after past) tokens given rows (flags_width command.choose past sound.0) (λ x. cc)
      sound.1 leads e)
  next past (Spined Interpretation tokens) given rows sound leads e = on_path (path_after past) refl sound.1 leads e
    where
      on_path : (path : Path) → path_after past ≡ path → find (breaks path tokens) in_order ≡ None
          → given ≡ selected_path select (flags command.choose past) path
          → at_path path (command.opening tokens) (command.later (flags command.choose past) tokens) ≡ Ok rows
          → Reach given rows
          (Spines (select (flags command.choose (Spined Interpretation tokens ∷ past)) (names_after (path_after past) tokens)))
      on_path Unopened at h leads e = grind (arith, nat_tests, open_next past tokens rows sound.0)
      on_path (Spines names) at h leads e =
          rw (leads, ap (λ (p : Path). names_after p tokens) at) (later_next past names tokens rows sound.0 at h e)

  closing : (fs : List Bool) (path : Path) → is_unfinished path ≡ false → is_unfinished (selected_path select fs path) ≡ false
  closing = grind (arith, common_steps)

  steps : Keeps (by_columns command) Leads
  steps = record {
    opening = refl;
    next = λ past row given rows sound leads e. next past row given rows sound leads e;
    closing = λ past given sound end leads. rw leads (closing (flags command.choose past) (path_after past) end);
  }

  -- The command makes scores of scores.
  pub columns_keep : KeepsScore (λ p. limit 4294967295 (decisions (by_columns command) [] p))
  columns_keep = at_once_keeps (by_columns command) Leads steps

-- What mint makes of a token, by what it heard.
use Rattle.std.proofs.lemmas.Grind.{common_steps}
use Rattle.std.proofs.lemmas.Bool.Decides.{nat_tests}
use Rattle.std.proofs.Common.{◌≡◌, ◌∙◌, sym, ap, subst, ℕ, suc, ◌<◌, true, List, [], ◌∷◌, length, Option, arith}
use Rattle.std.specs.Prelude.{slice_get, slice_index_or, slice_set, Some, map, Result}
use Rattle.std.proofs.lemmas.List.{length-map}
use Rattle.hum_score.specs.declared.records.SpinedKind.TheVariants.{Values}
use Rattle.hum_score.specs.Spelling.{IsToken}
use Rattle.hum_path.specs.Memories.{remembered}
use Rattle.hum_pitch.specs.Pitch.{Spelled}
use Rattle.hum_cells.specs.Rewriting.{Rewriting, has_content}
use Rattle.hum_cells.specs.Rewriter.{Columns, MayHear, HasHeard, HasRewritten, Pushes}
use Rattle.hum_stage.specs.declared.faults.Rule.{Rule}
use Rattle.hum_stage.specs.declared.faults.Refusal.{Refusal}
use Rattle.hum_stage.specs.Refusals.{IfTold}
use Rattle.hum_stage.proofs.Telling.{told_to}
use Rattle.hum_choices.specs.declared.mint.MintOptions.{MintOptions}
use Rattle.hum_tones.specs.Mint.{note_before}
use Rattle.hum_tones.specs.Memory.{HeardColumn, unheard, heard_after, heard_of, told_as}
use Rattle.hum_tones.specs.Commands.{Mints}
use Rattle.hum_tones.proofs.TokenTone.{told_is}
use Rattle.hum_tones.proofs.LastNotes.{note_kept}

-- a column of those that are mapped, and with one cell more
got_of : (f : List (List ℕ) → HeardColumn) (above : Columns) (j : ℕ) → j < length above → slice_get (map f above) j ≡ Some (f (slice_index_or above j []))
got_of f (x ∷ xs) (suc j) h = got_of f xs j (omega (arith, h))
got_of f above j h = grind (arith, nat_tests)

set_of : (f : List (List ℕ) → HeardColumn) (above : Columns) (j : ℕ) (cells : List (List ℕ))
    → slice_set (map f above) j (f cells) ≡ map f (slice_set above j cells)
set_of f (x ∷ xs) (suc j) cells = ap (λ (rest : List HeardColumn). f x ∷ rest) (set_of f xs j cells)
set_of f above j cells = grind (arith, nat_tests)

got_set : (columns : List HeardColumn) (j : ℕ) (column other : HeardColumn) → j < length columns
    → slice_index_or (slice_set columns j column) j other ≡ column
got_set = grind (arith, common_steps)

length_set : (columns : List HeardColumn) (j : ℕ) (column : HeardColumn) → length (slice_set columns j column) ≡ length columns
length_set = grind (arith, common_steps)

-- a memory has seen a cell
abbrev pub Saw : MintOptions → List HeardColumn → List HeardColumn → ℕ → List ℕ → Type 0
Saw options memories new j token = (memory : HeardColumn) → slice_get memories j ≡ Some memory
    → new ≡ slice_set memories j (heard_after options token memory)

module _ (options : MintOptions) (memories new : List HeardColumn) (j : ℕ) (token : List ℕ)
    (may : MayHear (Mints options memories) j) (saw : Saw options memories new j token) where
  abbrev pub kept : List (List ℕ) → HeardColumn
  kept = remembered (heard_after options) unheard

  many : {rewriting : Rewriting} {above : Columns} → Mints options memories rewriting above → length memories ≡ length above
  many {above = above} h = ap length h.heard ∙ length-map above kept

  within : j < length memories
  within = let size = many may.memory in let column = may.column in omega (arith, size, column)

  set : {rewriting : Rewriting} {above : Columns} → Mints options memories rewriting above
      → new ≡ slice_set memories j (heard_after options token (kept (slice_index_or above j [])))
  set = grind (arith, nat_tests, many, within, got_of)

  pub within_new : j < length new
  within_new =
      let same = ap length (set may.memory) in
      let size = length_set memories j (heard_after options token (kept (slice_index_or may.above j []))) in
      let inside = within in
      omega (arith, same, size, inside)

  pub heard_more : HasHeard (Mints options memories) (Mints options new) j token
  heard_more rewriting above h = record {
    command = h.command;
    lawful = h.lawful;
    heard = set h
        ∙ ap (λ (l : List HeardColumn). slice_set l j (kept (token ∷ slice_index_or above j []))) h.heard
        ∙ set_of kept above j (token ∷ slice_index_or above j []);
  }

  -- what is kept of the column then is what was heard of its cells
  pub column_is : (column : HeardColumn) → column ≡ slice_index_or new j column
      → {rewriting : Rewriting} {above : Columns} → Mints options memories rewriting above
      → column ≡ heard_after options token (kept (slice_index_or above j []))
  column_is = grind (arith, nat_tests, set, got_set, within)

-- a data token that is neither null nor a barline is told
last_told : (options : MintOptions) (token : List ℕ) (column : HeardColumn) → IsToken Values token → has_content token ≡ true
    → (heard_after options token column).told ≡ told_as options.signless options.sizeonly column.note (heard_of token)
last_told = grind (arith, nat_tests)

pub has_rewritten : {A : Type 0} (options : MintOptions) (memories new : List HeardColumn) (j : ℕ) (token : List ℕ) (column : HeardColumn)
    (made making : List (List ℕ) → Type 0) → MayHear (Mints options memories) j → Saw options memories new j token
    → IsToken Values token → has_content token ≡ true
    → column ≡ slice_index_or new j column → (r : Result A Refusal) → IfTold r (Pushes column.told made making)
    → IfTold r (HasRewritten (Mints options memories) (Mints options new) j token made making)
has_rewritten options memories new j token column made making may saw lawful told is r h =
    told_to r _ _ (λ refused pushed rewriting above follows.
    (heard_more options memories new j token may saw rewriting above follows, pushes refused pushed rewriting above follows)) h
  where
    pushes : (refused : Option Rule) → Pushes column.told made making refused
        → (rewriting : Rewriting) (above : Columns) → Mints options memories rewriting above
        → Pushes (rewriting.becomes (slice_index_or above j []) token) made making refused
    pushes refused pushed rewriting above follows =
        let cells = slice_index_or above j [] in
        let known : column.told ≡ rewriting.becomes cells token =
        ap (λ (c : HeardColumn). c.told) (column_is options memories new j token may saw column is follows)
        ∙ last_told options token (remembered (heard_after options) unheard cells) lawful told
        ∙ ap (λ (b : Option Spelled). told_as options.signless options.sizeonly b (heard_of token)) (note_kept options cells)
        ∙ told_is options.signless options.sizeonly (note_before options.breaks cells) token lawful told
        ∙ ap (λ (x : Rewriting). x.becomes cells token) (sym follows.command) in
        subst (λ (x : Result (List ℕ) Rule). Pushes x made making refused) known pushed

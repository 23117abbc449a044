-- What is remembered of chosen columns, when a score is cut to them.
use Rattle.std.proofs.lemmas.Grind.{common_steps}
use Rattle.std.proofs.lemmas.Bool.Decides.{nat_tests}
use Rattle.std.proofs.Common.{◌≡◌, ◌∙◌, refl, sym, ap, ℕ, zero, suc, ◌+◌, Bool, true, false, ◌&&◌, List, [], ◌∷◌, length, map, drop, arith}
use Rattle.std.proofs.Common.{cond, None}
use Rattle.std.specs.Prelude.{Result, Ok, Err}
use Rattle.std.specs.List.{find}
use Rattle.std.proofs.lemmas.List.{length-map, drop_all}
use Rattle.std.proofs.lemmas.Simd.{map-map}
use Rattle.hum_score.specs.declared.records.SpinedKind.{SpinedKind}
use Rattle.hum_score.specs.declared.records.SpinedKind.TheVariants.{Local, Interpretation, Values}
use Rattle.hum_score.specs.Row.{Row, Comment, Spined, chosen}
use Rattle.hum_score.specs.Sign.{sign_of}
use Rattle.hum_score.specs.Spines.{Path, Unopened, Spines, width, after, names_after, same_upto}
use Rattle.hum_score.specs.Rules.{breaks, breaks_as_text, in_order}
use Rattle.hum_score.specs.Score.{IsOpen, path_after, passed}
use Rattle.hum_path.specs.Chains.{chain_of, columns}
use Rattle.hum_path.specs.Memories.{remembered, seen_each}
use Rattle.hum_path.specs.Onward.{beginnings}
use Rattle.hum_path.proofs.Widths.{columns_width, text_width}
use Rattle.hum_path.proofs.Obeyed.{Obeys, obeys}
use Rattle.hum_stage.specs.declared.faults.Rule.{Rule}
use Rattle.hum_stage.specs.declared.faults.Rule.TheVariants.{X1, X2, X3}
use Rattle.hum_score.specs.InOrder.{Follow}
use Rattle.hum_stage.proofs.Scores.{path_passed}
use Rattle.hum_columns.specs.Spread.{filled, spread, tokens_in}
use Rattle.hum_columns.proofs.Spreading.{marks, formed_length}
use Rattle.hum_columns.specs.Chosen.{is_torn, opening_of, flags}
use Rattle.hum_columns.specs.Deciding.{at_path}
use Rattle.hum_columns.proofs.ChosenLists.{chosen_length, chosen_map}
use Rattle.hum_columns.proofs.ChosenJoins.{chosen_tokens, chosen_marks}
use Rattle.hum_columns.proofs.Flags.{flags_width, flags_open, flags_after, flags_onward, text_opening}
use Rattle.hum_columns.proofs.KeepsScores.{selected_path, Leads, next}
use Rattle.hum_choices.specs.Extract.{Choice}
use Rattle.hum_extract.specs.Choice.{opening_flags, misses}
use Rattle.hum_extract.specs.Extract.{chosen_between, softened, pieces, cut, opened, column_command, extract}
use Rattle.hum_extract.proofs.CutLeads.{has_lone, pieces_of, soft_signs, soft_begins, cut_signs, chosen_comes, cut_fits}
use Rattle.hum_extract.proofs.KeepsScores.{extract_selects}
use Rattle.hum_extract.proofs.Taking.{opening_length}
use Rattle.hum_laws.proofs.Seen.{all_seen, seen_on, seen_length, moved_seen, longer_seen}
use Rattle.hum_laws.proofs.Spreads.{Passes, all_on, pieces_on, spread_on}

pub chosen_seen : {M : Type 0} (see : List ℕ → M → M) (fs : List Bool) (ts : List (List ℕ)) (ms : List M) → length ts ≡ length ms
    → seen_each see (chosen fs ts) (chosen fs ms) ≡ chosen fs (seen_each see ts ms)
chosen_seen {M} see (true ∷ fs) (t ∷ ts) (m ∷ ms) e = ap (λ (xs : List M). see t m ∷ xs) (chosen_seen see fs ts ms (omega (arith, e)))
chosen_seen see (false ∷ fs) (t ∷ ts) (m ∷ ms) e = chosen_seen see fs ts ms (omega (arith, e))
chosen_seen see fs ts ms h = grind (arith, nat_tests)

module _ {M : Type 0} (see : List ℕ → M → M) (fresh : M) where
  -- at the opening
  opens_from : (tokens : List (List ℕ)) (j n : ℕ) → j + n ≡ length tokens
      → map (λ m. remembered see fresh (chain_of tokens [] m)) (same_upto j n) ≡ map (λ t. see t fresh) (drop j tokens)
  opens_from tokens j zero e = rw (drop_all j tokens (omega (arith, e))) refl
  opens_from tokens j (suc n) e = grind (arith, common_steps, opens_from tokens (j + 1) n (omega (arith, e)))

  pub opened_seen : (past : List Row) (tokens : List (List ℕ)) → IsOpen past → path_after past ≡ Unopened
      → all_seen see fresh (Spined Interpretation tokens ∷ past) ≡ map (λ t. see t fresh) tokens
  opened_seen past tokens sound at =
      rw (at, empty (columns past) (columns_width past sound ∙ ap width at))
      (map-map (remembered see fresh) (chain_of tokens []) (same_upto 0 (length tokens)) ∙ opens_from tokens 0 (length tokens) (omega arith))
    where
      empty : (cs : List (List (List ℕ))) → length cs ≡ 0 → cs ≡ []
      empty = grind (arith, common_steps)

  -- behind it
  pub later_seen : (past : List Row) (names tokens : List (List ℕ)) → IsOpen past → path_after past ≡ Spines names → Obeys names tokens
      → all_seen see fresh (Spined Interpretation tokens ∷ past) ≡ seen_on see fresh tokens (all_seen see fresh past)
  later_seen past names tokens sound at keeps = grind (arith, nat_tests, columns_width, moved_seen)

  -- several interpretations
  rows_seen : (records : List (List (List ℕ))) (past : List Row) (names : List (List ℕ)) → IsOpen past → path_after past ≡ Spines names
      → Follow (path_after past) (filled Interpretation records)
      → all_seen see fresh (passed past (filled Interpretation records)) ≡ all_on see fresh records (all_seen see fresh past)
  rows_seen [] past names sound at follow = refl
  rows_seen ([] ∷ records) past names sound at follow = rows_seen records past names sound at follow
  rows_seen ((t ∷ ts) ∷ records) past names sound at follow =
      let here : find (breaks (Spines names) (t ∷ ts)) in_order ≡ None = rw at at follow.0 in
      rows_seen records (Spined Interpretation (t ∷ ts) ∷ past) (names_after (Spines names) (t ∷ ts)) (sound, follow.0)
      (ap (λ (p : Path). after p (Spined Interpretation (t ∷ ts))) at) follow.1
      ∙ ap (λ (ms : List M). all_on see fresh records ms) (later_seen past names (t ∷ ts) sound at (obeys names (t ∷ ts) here))

  -- other records
  text_seen : (past : List Row) (kind : SpinedKind) (tokens : List (List ℕ)) → (kind ≡ Interpretation → ⊥)
      → all_seen see fresh (Spined kind tokens ∷ past) ≡ seen_each see tokens (all_seen see fresh past)
  text_seen past Local tokens other = longer_seen see fresh tokens (columns past)
  text_seen past Values tokens other = longer_seen see fresh tokens (columns past)
  text_seen past Interpretation tokens other = absurd (other refl)

module _ {M : Type 0} (see : List ℕ → M → M) (fresh : M) (passes : Passes see) where
  soft_seen : (lone : Bool) (ts : List (List ℕ)) (ms : List M) → seen_each see (map (softened lone) ts) ms ≡ seen_each see ts ms
  soft_seen lone (t ∷ ts) (m ∷ ms) = grind (arith, nat_tests, soft_seen lone ts ms)
  soft_seen lone ts ms = grind (arith, nat_tests)

  pieces_at : (lone : Bool) (fs : List Bool) (names tokens : List (List ℕ)) (ms : List M) → length fs ≡ length tokens → Obeys names tokens
      → has_lone fs tokens ≡ lone → (lone && chosen_between fs (map sign_of tokens)) ≡ false → length tokens ≡ length ms
      → pieces_on see fresh (pieces fs (map (softened lone) tokens)) (chosen fs ms)
      ≡ chosen (flags_after fs (map sign_of tokens)) (seen_on see fresh tokens ms)
  pieces_at lone fs names tokens ms len keeps is none size =
      let signs = map sign_of tokens in
      let soft = length-map tokens (softened lone) in
      let count = length-map tokens sign_of in
      let marked : marks (pieces fs (map (softened lone) tokens)) ≡ chosen fs (beginnings false signs) =
      grind (arith, nat_tests, chosen_marks, soft_signs, soft_begins) in
      let own : seen_each see (tokens_in (pieces fs (map (softened lone) tokens))) (chosen fs ms) ≡ chosen fs (seen_each see tokens ms) =
      ap (λ (ts : List (List ℕ)). seen_each see ts (chosen fs ms)) (chosen_tokens false fs (map (softened lone) tokens))
      ∙ chosen_seen see fs (map (softened lone) tokens) ms (omega (arith, soft, size))
      ∙ ap (λ (xs : List M). chosen fs xs) (soft_seen lone tokens ms) in
      let seen = seen_length see tokens ms size in
      let whole = chosen_comes (λ _. fresh) lone fs signs (seen_each see tokens ms) (omega (arith, len, count))
      (omega (arith, count, size, seen)) keeps.pair is none in
      rw (marked, own, cut_signs fs lone tokens) whole

  -- What is remembered of the columns that an interpretation is cut to.
  cut_seen : (fs : List Bool) (names tokens : List (List ℕ)) (past : List Row) (ms : List M) (made : List Row) → length fs ≡ length tokens
      → Obeys names tokens → length tokens ≡ length ms → IsOpen past → path_after past ≡ Spines (chosen fs names) → all_seen see fresh past ≡ chosen fs ms
      → Follow (path_after past) made → cut fs tokens ≡ Ok made
      → all_seen see fresh (passed past made) ≡ chosen (flags_after fs (map sign_of tokens)) (seen_on see fresh tokens ms)
  cut_seen fs names tokens past ms made len keeps size sound at seen follow e =
      by_tests (is_torn fs (map sign_of tokens)) (has_lone fs tokens && chosen_between fs (map sign_of tokens)) refl refl e
    where
      written : is_torn fs (map sign_of tokens) ≡ false → (has_lone fs tokens && chosen_between fs (map sign_of tokens)) ≡ false
          → filled Interpretation (spread (pieces_of fs tokens)) ≡ made
          → all_seen see fresh (passed past made) ≡ chosen (flags_after fs (map sign_of tokens)) (seen_on see fresh tokens ms)
      written a b out =
          let fits = cut_fits fs names tokens len keeps a in
          let wide = formed_length false [] (pieces_of fs tokens) (chosen fs names) fits.formed in
          let own = keeps.wide in
          let same = chosen_length fs ms names (omega (arith, own, size)) in
          rw (← out)
          (rows_seen see fresh (spread (pieces_of fs tokens)) past (chosen fs names) sound at (rw (← out) at follow)
          ∙ ap (λ (xs : List M). all_on see fresh (spread (pieces_of fs tokens)) xs) seen
          ∙ spread_on see fresh passes (pieces_of fs tokens) (chosen fs names) (chosen fs ms) fits.formed (omega (arith, wide, same))
          ∙ pieces_at (has_lone fs tokens) fs names tokens ms len keeps refl b size)

      by_tests : (torn between : Bool) → is_torn fs (map sign_of tokens) ≡ torn
          → (has_lone fs tokens && chosen_between fs (map sign_of tokens)) ≡ between
          → ◌≡◌ {A = Result (List Row) Rule} (cond torn (Err X1) (cond between (Err X3) (Ok (filled Interpretation (spread (pieces_of fs tokens)))))) (Ok made)
          → all_seen see fresh (passed past made) ≡ chosen (flags_after fs (map sign_of tokens)) (seen_on see fresh tokens ms)
      by_tests = grind (arith, nat_tests, written)

  module _ (choice : Choice) where
    -- the records that come of a score are cut to its chosen columns
    pub record IsCut (past behind : List Row) : Type 0 where
      pub leads : Leads (column_command choice) chosen (extract_selects choice) past (path_after behind)
      pub seen : all_seen see fresh behind ≡ chosen (flags (opening_flags choice) past) (all_seen see fresh past)

    abbrev marked : List Row → List Bool
    marked past = flags (opening_flags choice) past

    text_step : (past behind : List Row) (kind : SpinedKind) (tokens : List (List ℕ)) → (kind ≡ Interpretation → ⊥) → IsOpen past
        → find (breaks_as_text (path_after past) tokens) in_order ≡ None → all_seen see fresh behind ≡ chosen (marked past) (all_seen see fresh past)
        → (us : List (List ℕ)) → chosen (marked past) tokens ≡ us
        → all_seen see fresh (passed behind (filled kind (us ∷ []))) ≡ chosen (marked past) (all_seen see fresh (Spined kind tokens ∷ past))
    text_step past behind kind tokens other sound h seen us is = go us is
      where
        size : length tokens ≡ length (all_seen see fresh past)
        size = text_width (path_after past) tokens h ∙ sym (columns_width past sound) ∙ sym (length-map (columns past) (remembered see fresh))

        right : seen_each see (chosen (marked past) tokens) (all_seen see fresh behind) ≡ chosen (marked past) (all_seen see fresh (Spined kind tokens ∷ past))
        right =
            ap (λ (xs : List M). seen_each see (chosen (marked past) tokens) xs) seen
            ∙ chosen_seen see (marked past) tokens (all_seen see fresh past) size
            ∙ ap (λ (xs : List M). chosen (marked past) xs) (sym (text_seen see fresh past kind tokens other))

        go : (us : List (List ℕ)) → chosen (marked past) tokens ≡ us
            → all_seen see fresh (passed behind (filled kind (us ∷ []))) ≡ chosen (marked past) (all_seen see fresh (Spined kind tokens ∷ past))
        go [] is = rw is at right
        go (u ∷ us) is = text_seen see fresh behind kind (u ∷ us) other ∙ rw is at right

    no_columns : (past : List Row) → IsOpen past → path_after past ≡ Unopened → all_seen see fresh past ≡ []
    no_columns past sound at = empty (columns past) (columns_width past sound ∙ ap width at)
      where
        empty : (cs : List (List (List ℕ))) → length cs ≡ 0 → map (remembered see fresh) cs ≡ []
        empty = grind (arith, common_steps)

    open_step : (past behind made : List Row) (tokens : List (List ℕ)) → IsOpen past → IsOpen behind → path_after past ≡ Unopened → path_after behind ≡ Unopened
        → opened choice tokens ≡ Ok made
        → all_seen see fresh (passed behind made)
        ≡ chosen (marked (Spined Interpretation tokens ∷ past)) (all_seen see fresh (Spined Interpretation tokens ∷ past))
    open_step past behind made tokens sound also at there e = by_test (misses choice tokens) (chosen (opening_flags choice tokens) tokens) refl e
      where
        right : map (λ t. see t fresh) (chosen (opening_flags choice tokens) tokens)
            ≡ chosen (marked (Spined Interpretation tokens ∷ past)) (all_seen see fresh (Spined Interpretation tokens ∷ past))
        right = grind (arith, nat_tests, chosen_map, opened_seen, all_seen, flags_open, opening_length)

        written : (us : List (List ℕ)) → chosen (opening_flags choice tokens) tokens ≡ us
            → all_seen see fresh (passed behind (filled Interpretation (us ∷ []))) ≡ map (λ t. see t fresh) us
        written = grind (arith, nat_tests, no_columns, opened_seen)

        by_test : (b : Bool) (us : List (List ℕ)) → chosen (opening_flags choice tokens) tokens ≡ us
            → ◌≡◌ {A = Result (List Row) Rule} (cond b (Err X2) (Ok (filled Interpretation (chosen (opening_flags choice tokens) tokens ∷ [])))) (Ok made)
            → all_seen see fresh (passed behind made)
            ≡ chosen (marked (Spined Interpretation tokens ∷ past)) (all_seen see fresh (Spined Interpretation tokens ∷ past))
        by_test = grind (arith, nat_tests, written, right)

    later_step : (past behind made : List Row) (names tokens : List (List ℕ)) → IsOpen past → IsOpen behind → path_after past ≡ Spines names
        → path_after behind ≡ Spines (chosen (marked past) names) → find (breaks (Spines names) tokens) in_order ≡ None
        → all_seen see fresh behind ≡ chosen (marked past) (all_seen see fresh past) → Follow (path_after behind) made → cut (marked past) tokens ≡ Ok made
        → all_seen see fresh (passed behind made)
        ≡ chosen (marked (Spined Interpretation tokens ∷ past)) (all_seen see fresh (Spined Interpretation tokens ∷ past))
    later_step past behind made names tokens sound also at there h seen follow e =
        let keeps = obeys names tokens h in
        let own = keeps.wide in
        let count = length-map (columns past) (remembered see fresh) in
        let wide = columns_width past sound ∙ ap width at in
        let flags_wide = flags_width (opening_flags choice) past sound ∙ ap width at in
        cut_seen (marked past) names tokens behind (all_seen see fresh past) made (omega (arith, flags_wide, own)) keeps
        (omega (arith, own, count, wide)) also there seen follow e
        ∙ ap (λ (xs : List M). chosen (flags_after (marked past) (map sign_of tokens)) xs) (sym (later_seen see fresh past names tokens sound at keeps))
        ∙ ap (λ (fs : List Bool). chosen fs (all_seen see fresh (Spined Interpretation tokens ∷ past)))
        (sym (flags_onward (opening_flags choice) past names tokens sound at keeps))

    seen_step : (past behind made : List Row) (row : Row) → IsOpen (row ∷ past) → IsOpen behind → IsCut past behind → Follow (path_after behind) made
        → extract choice past row ≡ Ok made → all_seen see fresh (passed behind made) ≡ chosen (marked (row ∷ past)) (all_seen see fresh (row ∷ past))
    seen_step past behind made (Comment text) sound also holds follow e = grind (arith, nat_tests)
    seen_step past behind made (Spined Local tokens) sound also holds follow e =
        let out : filled Local (chosen (marked past) tokens ∷ []) ≡ made = cc in
        rw (← out, text_opening (path_after past) tokens (opening_of past) sound.1)
        (text_step past behind Local tokens (λ x. cc) sound.0 sound.1 holds.seen (chosen (marked past) tokens) refl)
    seen_step past behind made (Spined Values tokens) sound also holds follow e =
        let out : filled Values (chosen (marked past) tokens ∷ []) ≡ made = cc in
        rw (← out, text_opening (path_after past) tokens (opening_of past) sound.1)
        (text_step past behind Values tokens (λ x. cc) sound.0 sound.1 holds.seen (chosen (marked past) tokens) refl)
    seen_step past behind made (Spined Interpretation tokens) sound also holds follow e = on_path (path_after past) refl sound.1 holds.leads e
      where
        on_path : (path : Path) → path_after past ≡ path → find (breaks path tokens) in_order ≡ None
            → path_after behind ≡ selected_path chosen (marked past) path → at_path path (opened choice tokens) (cut (marked past) tokens) ≡ Ok made
            → all_seen see fresh (passed behind made)
            ≡ chosen (marked (Spined Interpretation tokens ∷ past)) (all_seen see fresh (Spined Interpretation tokens ∷ past))
        on_path Unopened at h there e = open_step past behind made tokens sound.0 also at there e
        on_path (Spines names) at h there e = later_step past behind made names tokens sound.0 also at there h holds.seen follow e

    -- One record more.
    pub cut_step : (past behind made : List Row) (row : Row) → IsOpen (row ∷ past) → IsOpen behind → IsCut past behind → Follow (path_after behind) made
        → extract choice past row ≡ Ok made → IsCut (row ∷ past) (passed behind made)
    cut_step past behind made row sound also holds follow e = record {
      leads = rw (path_passed behind made) (next (column_command choice) chosen (extract_selects choice) past row
          (path_after behind) made sound holds.leads e).1;
      seen = seen_step past behind made row sound also holds follow e;
    }

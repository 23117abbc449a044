-- What is chosen goes on along the columns.
use Rattle.std.proofs.lemmas.Grind.{common_steps}
use Rattle.std.proofs.lemmas.Bool.Decides.{nat_tests}
use Rattle.std.proofs.Common.{◌≡◌, ◌≢◌, ◌∙◌, refl, sym, ap, ℕ, zero, suc, ◌+◌, ◌<◌, ◌≤◌, Bool, true, false, subst}
use Rattle.std.proofs.Common.{List, [], ◌∷◌, length, map, drop, get_or, arith, None}
use Rattle.std.specs.List.{find, AllByRecursion}
use Rattle.std.proofs.lemmas.List.{drop_all, length-map, get_or-map}
use Rattle.std.proofs.lemmas.Bool.{and_parts, not-false, false≢true}
use Rattle.std.proofs.lemmas.Simd.{map-map}
use Rattle.hum_score.specs.declared.records.SpinedKind.TheVariants.{Interpretation}
use Rattle.hum_score.specs.Row.{Row, Spined, tokens_of}
use Rattle.hum_score.specs.declared.spines.Sign.{Sign}
use Rattle.hum_score.specs.declared.spines.Move.{Move}
use Rattle.hum_score.specs.declared.spines.Move.TheVariants.{Same}
use Rattle.hum_score.specs.Sign.{sign_of, all_plain}
use Rattle.hum_score.specs.Spines.{Path, Unopened, Spines, width, source, same_upto, moves, moves_under}
use Rattle.hum_score.specs.Rules.{breaks_as_text, in_order, fault_of}
use Rattle.hum_score.specs.Score.{IsOpen, path_after}
use Rattle.hum_path.specs.Chains.{origin_of, origins}
use Rattle.hum_path.specs.Onward.{beginnings, onward, swapped}
use Rattle.hum_path.specs.Step.{ComeFrom}
use Rattle.hum_path.proofs.Obeyed.{Obeys}
use Rattle.hum_path.proofs.Onwards.{sources_onward}
use Rattle.hum_path.proofs.Plain.{find_head, sound_width, plain_moves, not_exclusive}
use Rattle.hum_path.proofs.Widths.{origins_width}
use Rattle.hum_columns.specs.Chosen.{opening_if, opening_of, flags}
use Rattle.hum_columns.specs.Following.{AsWide, moved}

-- as many as spines
pub flags_width : (choose : List (List ℕ) → List Bool) (past : List Row) → IsOpen past → length (flags choose past) ≡ width (path_after past)
flags_width = grind (arith, nat_tests, length-map, get_or, origins_width)

-- where each spine stays, what is chosen does
same_marks : (fs : List Bool) (next : Move → Bool) → ((j : ℕ) → next (Same j) ≡ get_or fs j false) → (j n : ℕ)
    → j + n ≡ length fs → map next (same_upto j n) ≡ drop j fs
same_marks fs next h j zero e = sym (drop_all j fs (omega (arith, e)))
same_marks fs next h j (suc n) e =
    grind (arith, common_steps, same_marks fs next h (j + 1) n (omega (arith, e)))

pub moved_none : (fs : List Bool) → moved fs (same_upto 0 (length fs)) ≡ fs
moved_none fs = same_marks fs (λ m. get_or fs (source m) false) (λ j. refl) 0 (length fs) (omega arith)

mapped_twice : (f : ℕ → Bool) (g : Move → ℕ) (ms : List Move) → map f (map g ms) ≡ map (λ m. f (g m)) ms
mapped_twice f g [] = refl
mapped_twice f g (m ∷ ms) = ap (λ rest. f (g m) ∷ rest) (mapped_twice f g ms)

come : (f : ℕ → Bool) (os : List ℕ) (ms : List Move) → AllByRecursion (λ m. source m < length os) ms
    → map f (map (origin_of os) ms) ≡ moved (map f os) ms
come f os [] h = refl
come f os (m ∷ ms) h = grind (arith, common_steps, come f os ms h.1)

empty_list : (os : List ℕ) → length os ≡ 0 → os ≡ []
empty_list = grind (arith, common_steps)

-- at the opening
pub flags_open : (choose : List (List ℕ) → List Bool) (past : List Row) (tokens : List (List ℕ))
    → length (choose tokens) ≡ length tokens → IsOpen past → path_after past ≡ Unopened
    → flags choose (Spined Interpretation tokens ∷ past) ≡ choose tokens
flags_open choose past tokens size h e =
    let fs = choose tokens in
    let none : origins past ≡ [] = empty_list (origins past) (origins_width past h ∙ ap width e) in
    rw (e, none)
    (mapped_twice (λ o. get_or fs o false) (origin_of []) (same_upto 0 (length tokens))
    ∙ same_marks fs (λ m. get_or fs (origin_of [] m) false) (λ j. refl) 0 (length tokens) (omega (arith, size)))

-- after it
pub flags_move : (choose : List (List ℕ) → List Bool) (past : List Row) (tokens names : List (List ℕ)) (found : List Move) → IsOpen past
    → path_after past ≡ Spines names → fault_of (path_after past) (Spined Interpretation tokens) ≡ None
    → found ≡ moves (path_after past) (Spined Interpretation tokens)
    → ComeFrom (Spined Interpretation tokens) found
    → flags choose (Spined Interpretation tokens ∷ past) ≡ moved (flags choose past) found
flags_move choose past tokens names found h e sound told within =
    let wide : length tokens ≡ length (origins past) = grind (arith, nat_tests, sound_width, origins_width) in
    let all : AllByRecursion (λ m. source m < length (origins past)) found =
    subst (λ (n : ℕ). AllByRecursion (λ m. source m < n) found) wide within in
    let same : opening_if (path_after past) tokens (opening_of past) ≡ opening_of past = rw e refl in
    rw (same, ← told) (come (λ o. get_or (choose (opening_of past)) o false) (origins past) found all)

-- under a text
pub text_opening : (path : Path) (tokens before : List (List ℕ)) → find (breaks_as_text path tokens) in_order ≡ None
    → opening_if path tokens before ≡ before
text_opening = grind (arith, nat_tests)

-- an opening record isn't plain
pub opening_steers : (tokens : List (List ℕ)) → tokens ≢ [] → all_plain tokens ≡ true
    → fault_of Unopened (Spined Interpretation tokens) ≡ None → ⊥
opening_steers [] filled h sound = filled refl
opening_steers (t ∷ ts) filled h sound =
    grind (arith, nat_tests, find_head, and_parts, not-false, false≢true, not_exclusive)

-- under an interpretation that asks nothing
pub flags_plain : (choose : List (List ℕ) → List Bool) (past : List Row) (tokens names : List (List ℕ)) → IsOpen past
    → path_after past ≡ Spines names → fault_of (path_after past) (Spined Interpretation tokens) ≡ None
    → all_plain tokens ≡ true
    → flags choose (Spined Interpretation tokens ∷ past) ≡ flags choose past
flags_plain choose past tokens names h e sound plain =
    let fs = flags choose past in
    let size : length (map sign_of tokens) ≡ length fs =
    length-map tokens sign_of ∙ sound_width names tokens (rw e at sound) ∙ sym (flags_width choose past h ∙ ap width e) in
    let told : same_upto 0 (length fs) ≡ moves (path_after past) (Spined Interpretation tokens) =
    rw (e, plain_moves (map sign_of tokens) plain, size) refl in
    flags_move choose past tokens names (same_upto 0 (length fs)) h e sound told (within fs (length tokens) (omega (arith, size, length-map tokens sign_of)))
    ∙ moved_none fs
  where
    below : (n j m : ℕ) → j + m ≤ n → AllByRecursion (λ (k : Move). source k < n) (same_upto j m)
    below n j zero e = tt
    below n j (suc m) e = (omega arith, below n (j + 1) m (omega arith))

    within : (fs : List Bool) (n : ℕ) → length fs ≡ n → AllByRecursion (λ (k : Move). source k < n) (same_upto 0 (length fs))
    within fs n e = below n 0 (length fs) (omega (arith, e))

pub opening_wide : (choose : List (List ℕ) → List Bool) (row : Row) (fs : List Bool)
    → length (choose (tokens_of row)) ≡ length (tokens_of row) → fs ≡ choose (tokens_of row) → AsWide fs row
opening_wide = grind (arith, nat_tests)

-- the flags of the columns after an interpretation
abbrev pub flags_after : List Bool → List Sign → List Bool
flags_after flags signs = onward (λ f. f) (beginnings false signs) signs (swapped signs flags)

-- whether what comes from an opening spine is chosen
abbrev pub is_from : (List (List ℕ) → List Bool) → List Row → ℕ → Bool
is_from choose past origin = get_or (choose (opening_of past)) origin false

-- Flags go on as columns do.
pub flags_onward : (choose : List (List ℕ) → List Bool) (past : List Row) (names tokens : List (List ℕ)) → IsOpen past
    → path_after past ≡ Spines names → Obeys names tokens
    → flags choose (Spined Interpretation tokens ∷ past)
    ≡ flags_after (flags choose past) (map sign_of tokens)
flags_onward choose past names tokens sound at keeps =
    let count = length-map tokens sign_of in
    let size = length-map (origins past) (is_from choose past) in
    let wide = origins_width past sound ∙ ap width at in
    let own = keeps.wide in
    rw at (map-map (is_from choose past) (origin_of (origins past)) (moves_under (map sign_of tokens))
    ∙ sources_onward false (λ m. is_from choose past (origin_of (origins past) m)) (flags choose past) (map sign_of tokens)
    (λ m below. sym (get_or-map (is_from choose past) (origins past) (source m) (source m) false (omega (arith, below, size))))
    (omega (arith, count, size, wide, own)) keeps.pair)

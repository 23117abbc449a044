-- An interpretation whose cleaved columns are put together leads to what the spines after it become.
use Rattle.std.proofs.Common.{◌≡◌, ◌∙◌, refl, ap, ℕ, ◌≤◌, ◌==◌, Bool, true, false, ◌&&◌, ◌||◌, List, [], ◌∷◌, length, map, arith, cond}
use Rattle.std.proofs.lemmas.Bool.Decides.{nat_tests}
use Rattle.std.specs.Prelude.{Result, Ok, Err}
use Rattle.std.specs.List.{list_any}
use Rattle.std.proofs.lemmas.Bool.{or_parts, or_from}
use Rattle.std.proofs.lemmas.List.{length-map}
use Rattle.hum_score.specs.declared.spines.Sign.{Sign}
use Rattle.hum_score.specs.declared.spines.Sign.TheVariants.{End, Plain}
use Rattle.hum_score.specs.Sign.{sign_of, is_exclusive, is_path_indicator}
use Rattle.hum_score.specs.Spines.{Spines, names_after}
use Rattle.hum_score.specs.Rules.{has_unnamed, names_and_steers, is_pair_or_none, stays_unnamed}
use Rattle.hum_score.specs.Score.{Lead}
use Rattle.hum_path.specs.Onward.{beginnings, onward, swapped, renamed_each}
use Rattle.hum_path.proofs.Onwards.{names_onward, swapped_length, each_length, begins_length}
use Rattle.hum_path.proofs.Obeyed.{Obeys}
use Rattle.hum_score.proofs.Cases.{by_bool}
use Rattle.hum_score.specs.declared.records.SpinedKind.TheVariants.{Interpretation}
use Rattle.hum_score.specs.Row.{Row, chosen}
use Rattle.hum_stage.specs.declared.faults.Rule.{Rule}
use Rattle.hum_stage.specs.declared.faults.Rule.TheVariants.{C1, C2}
use Rattle.hum_columns.specs.Spread.{spread, filled}
use Rattle.hum_columns.proofs.Spreading.{signs_in}
use Rattle.hum_columns.proofs.Fitting.{Fits, come_to}
use Rattle.hum_columns.proofs.Leading.{spread_leads}
use Rattle.hum_columns.proofs.ChosenLists.{chosen_none, chosen_map}
use Rattle.hum_columns.proofs.TornJoins.{torn_start}
use Rattle.hum_columns.proofs.Flags.{flags_after}
use Rattle.hum_columns.specs.Chosen.{others}
use Rattle.hum_cleave.specs.Columns.{together}
use Rattle.hum_cleave.specs.Tokens.{interpretation_of}
use Rattle.hum_columns.specs.Chosen.{is_torn}
use Rattle.hum_cleave.specs.Cleave.{is_moved, is_end, ends_apart, is_entangled, pieces, merged}
use Rattle.hum_cleave.proofs.Fitted.{together_map, pieces_tokens, pieces_marks}
use Rattle.hum_cleave.proofs.Selecting.{together_fewer, together_lacks, together_each, together_swapped, same_swapped}
use Rattle.hum_cleave.proofs.Selecting.{together_exchanges, together_onward, together_ended}
use Rattle.hum_cleave.proofs.Signs.{one_lacks, one_outer, one_ends, all_or_none, plain_at, not_moved, none_moved, not_inner, not_bare}
use Rattle.hum_cleave.proofs.Joined.{pieces_formed}

-- An interpretation that isn't refused.
pub record Merges (flags : List Bool) (tokens : List (List ℕ)) : Type 0 where
  pub kept : list_any is_exclusive (chosen flags (map sign_of tokens)) ≡ false
  pub unmoved : list_any is_moved (chosen flags (map sign_of tokens)) ≡ false
  pub together : ends_apart (chosen flags (map sign_of tokens)) ≡ false
  pub whole : is_torn flags (map sign_of tokens) ≡ false

module _ (name : List ℕ) (some : (length name == 0) ≡ false) where
  others_unnamed : (fs : List Bool) (ns : List (List ℕ)) (ss : List Sign) → has_unnamed ns ss ≡ false
      → has_unnamed (others fs ns) (others fs ss) ≡ false
  others_unnamed (true ∷ fs) (n ∷ ns) [] h = none (others fs ns)
    where
      none : (ms : List (List ℕ)) → has_unnamed ms [] ≡ false
      none [] = refl
      none (m ∷ ms) = refl
  others_unnamed (true ∷ fs) (n ∷ ns) (s ∷ ss) h = others_unnamed fs ns ss (or_parts (stays_unnamed n s) (has_unnamed ns ss) h).1
  others_unnamed (false ∷ fs) (n ∷ ns) (s ∷ ss) h =
      let both = or_parts (stays_unnamed n s) (has_unnamed ns ss) h in
      or_from (stays_unnamed n s) (has_unnamed (others fs ns) (others fs ss)) both.0 (others_unnamed fs ns ss both.1)
  others_unnamed fs ns ss h = grind (arith, nat_tests)

  together_unnamed : (sign : Sign) (fs : List Bool) (ns : List (List ℕ)) (ss : List Sign) → has_unnamed ns ss ≡ false
      → has_unnamed (together name fs ns) (together sign fs ss) ≡ false
  together_unnamed sign (true ∷ fs) (n ∷ ns) (s ∷ ss) h = grind (arith, nat_tests, others_unnamed, or_parts)
  together_unnamed sign (false ∷ fs) (n ∷ ns) (s ∷ ss) h =
      let both = or_parts (stays_unnamed n s) (has_unnamed ns ss) h in
      or_from (stays_unnamed n s) (has_unnamed (together name fs ns) (together sign fs ss)) both.0 (together_unnamed sign fs ns ss both.1)
  together_unnamed sign fs ns ss h = grind (arith, nat_tests)

-- The sign of the one column.
abbrev pub one_sign : List Bool → List (List ℕ) → Sign
one_sign flags tokens = sign_of (interpretation_of (chosen flags tokens))

lacks : (p : Sign → Bool) (fs : List Bool) (ts : List (List ℕ)) → p Plain ≡ false → list_any p (chosen fs (map sign_of ts)) ≡ false
    → p (one_sign fs ts) ≡ false
lacks p fs ts o h = one_lacks p (chosen fs ts) o (ap (λ (ss : List Sign). list_any p ss) (chosen_map sign_of fs ts) ∙ h)

pieces_signs : (fs : List Bool) (ts : List (List ℕ)) → signs_in (pieces fs ts) ≡ together (one_sign fs ts) fs (map sign_of ts)
pieces_signs = grind (arith, nat_tests, pieces_tokens, together_map)

steers_not : (fs : List Bool) (ts : List (List ℕ)) → is_exclusive (one_sign fs ts) ≡ false → names_and_steers (map sign_of ts) ≡ false
    → names_and_steers (together (one_sign fs ts) fs (map sign_of ts)) ≡ false
steers_not fs ts o h = by_bool (list_any is_exclusive (map sign_of ts))
    (λ w.
    let none : list_any is_path_indicator (map sign_of ts) ≡ false = rw w at h in
    let one = lacks is_path_indicator fs ts refl (chosen_none is_path_indicator fs (map sign_of ts) none) in
    let left = together_lacks is_path_indicator (one_sign fs ts) fs (map sign_of ts) one none in
    rw left (never (list_any is_exclusive (together (one_sign fs ts) fs (map sign_of ts)))))
    (λ w.
    let left = together_lacks is_exclusive (one_sign fs ts) fs (map sign_of ts) o w in
    rw left refl)
  where
    never : (b : Bool) → (b && false) ≡ false
    never = grind (arith, nat_tests)

pair_of : (xs ys : List ℕ) → length xs ≡ length ys → is_pair_or_none ys ≡ true → is_pair_or_none xs ≡ true
pair_of xs ys e h = rw e h

-- It breaks no rule that stands at one token or one join.
merged_fits : (name : List ℕ) → (length name == 0) ≡ false → (fs : List Bool) (names tokens : List (List ℕ)) → length fs ≡ length tokens
    → Obeys names tokens → Merges fs tokens → Fits (pieces fs tokens) (together name fs names)
merged_fits name some fs names tokens len keeps m =
    let signs = pieces_signs fs tokens in
    let one = interpretation_of (chosen fs tokens) in
    let exclusive = lacks is_exclusive fs tokens refl m.kept in
    let moved = lacks is_moved fs tokens refl m.unmoved in
    let count = length-map tokens sign_of in
    let exchange = none_moved (chosen fs (map sign_of tokens)) m.unmoved in
    record {
      formed = grind (arith, nat_tests, pieces_formed, not_inner, one_outer);
      unnamed = rw signs (together_unnamed name some (one_sign fs tokens) fs names (map sign_of tokens) keeps.unnamed);
      bare = grind (arith, nat_tests, pieces_tokens, together_lacks, not_bare);
      steers = rw signs (steers_not fs tokens exclusive keeps.steers);
      pair = grind (arith, nat_tests, pair_of, together_exchanges, not_moved);
    }

-- The one column goes on with the cleaved ones, or ends with them.
goes_on_together : (added : List ℕ → List ℕ) (name : List ℕ) (fs : List Bool) (ts xs : List (List ℕ)) → length fs ≡ length ts
    → length xs ≡ length ts → Merges fs ts
    → onward added (together false fs (beginnings false (map sign_of ts))) (together (one_sign fs ts) fs (map sign_of ts)) (together name fs xs)
    ≡ together name (onward (λ f. f) (beginnings false (map sign_of ts)) (map sign_of ts) fs)
    (onward added (beginnings false (map sign_of ts)) (map sign_of ts) xs)
goes_on_together added name fs ts xs len wide m =
    let ss : List Sign = map sign_of ts in
    let count = length-map ts sign_of in
    let size = begins_length false ss in
    let inside : map sign_of (chosen fs ts) ≡ chosen fs ss = chosen_map sign_of fs ts in
    by_bool (list_any is_end (chosen fs ss))
    (λ w.
    let all = all_or_none (chosen fs ss) m.together w in
    let ends : one_sign fs ts ≡ End = one_ends (chosen fs ts) (rw inside w) (rw inside all) in
    rw ends (together_ended added name fs (beginnings false ss) ss xs size (omega (arith, count, wide)) (omega (arith, len, count)) all))
    (λ w.
    let plain : one_sign fs ts ≡ Plain = grind (arith, nat_tests, plain_at, lacks, one_outer) in
    rw plain
    (together_onward added name Plain fs ss xs (omega (arith, len, count)) (omega (arith, count, wide)) (torn_start false fs ss m.whole) w))

merged_comes : (name : List ℕ) (fs : List Bool) (names tokens : List (List ℕ)) → length fs ≡ length tokens → Obeys names tokens
    → Merges fs tokens
    → come_to (pieces fs tokens) (together name fs names)
    ≡ together name (flags_after fs (map sign_of tokens)) (names_after (Spines names) tokens)
merged_comes name fs names tokens len keeps m =
    let ss : List Sign = map sign_of tokens in
    let xs : List (List ℕ) = renamed_each names tokens in
    let count = length-map tokens sign_of in
    let exchange = none_moved (chosen fs ss) m.unmoved in
    let still : swapped ss fs ≡ fs = same_swapped fs ss (omega (arith, len, count)) exchange in
    let each = each_length names tokens keeps.wide in
    let swap = swapped_length ss xs in
    let own = together_each name (interpretation_of (chosen fs tokens)) fs names tokens keeps.wide (lacks is_exclusive fs tokens refl m.kept) in
    let other = not_moved (one_sign fs tokens) (lacks is_moved fs tokens refl m.unmoved) in
    let swaps = together_swapped (one_sign fs tokens) name other fs ss xs (omega (arith, count, each)) (omega (arith, len, count)) exchange in
    rw (pieces_marks fs tokens, pieces_signs fs tokens, pieces_tokens fs tokens, own, swaps, names_onward names tokens keeps.wide keeps.pair, still)
    (goes_on_together (λ _. []) name fs tokens (swapped ss xs) len (omega (arith, swap, each)) m)

-- The records that an interpretation is written in.
pub merged_leads : (name : List ℕ) → (length name == 0) ≡ false → (fs : List Bool) (names tokens : List (List ℕ)) (rows : List Row)
    → length fs ≡ length tokens → Obeys names tokens → length names ≤ 4096 → merged fs tokens ≡ Ok rows
    → Lead (together name fs names) rows (together name (flags_after fs (map sign_of tokens)) (names_after (Spines names) tokens))
merged_leads name some fs names tokens rows len keeps few e =
    by_tests (list_any is_exclusive (chosen fs (map sign_of tokens))) (is_entangled fs (map sign_of tokens)) refl refl e
  where
    by_tests : (exclusive entangled : Bool) → list_any is_exclusive (chosen fs (map sign_of tokens)) ≡ exclusive
        → is_entangled fs (map sign_of tokens) ≡ entangled
        → ◌≡◌ {A = Result (List Row) Rule}
        (cond exclusive (Err C2) (cond entangled (Err C1) (Ok (filled Interpretation (spread (pieces fs tokens)))))) (Ok rows)
        → Lead (together name fs names) rows (together name (flags_after fs (map sign_of tokens)) (names_after (Spines names) tokens))
    by_tests true entangled a b e = cc
    by_tests false true a b e = cc
    by_tests false false a b e =
        let ss : List Sign = map sign_of tokens in
        let out : filled Interpretation (spread (pieces fs tokens)) ≡ rows = cc in
        let first = or_parts (list_any is_moved (chosen fs ss)) (ends_apart (chosen fs ss) || is_torn fs ss) b in
        let second = or_parts (ends_apart (chosen fs ss)) (is_torn fs ss) first.1 in
        let m : Merges fs tokens = record { kept = a; unmoved = first.0; together = second.0; whole = second.1 } in
        let comes = merged_comes name fs names tokens len keeps m in
        let size = ap length comes in
        let less = together_fewer name fs names in
        let fewer = together_fewer name (flags_after fs ss) (names_after (Spines names) tokens) in
        let after = keeps.few in
        rw (← out, ← comes)
        (spread_leads (pieces fs tokens) (together name fs names) (merged_fits name some fs names tokens len keeps m) (omega (arith, less, few))
        (omega (arith, size, fewer, after)))

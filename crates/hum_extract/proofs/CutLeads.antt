-- An interpretation, cut to its chosen columns, leads to the chosen ones of the spines after it.
use Rattle.std.proofs.Common.{◌≡◌, ◌∙◌, refl, sym, ap, ℕ, ◌+◌, ◌≤◌, Bool, true, false, ◌&&◌, List, [], ◌∷◌, length, map, arith, cond}
use Rattle.std.specs.Prelude.{Result, Ok, Err}
use Rattle.std.specs.List.{list_any}
use Rattle.std.specs.Str.{bytes_eq}
use Rattle.std.proofs.lemmas.Bool.{or_parts, or_from}
use Rattle.std.proofs.lemmas.Bool.Decides.{nat_tests}
use Rattle.std.proofs.lemmas.List.{length-map}
use lib.Chars.{codes}
use Rattle.hum_score.specs.declared.spines.Sign.{Sign}
use Rattle.hum_score.specs.declared.spines.Sign.TheVariants.{Split, Plain}
use Rattle.hum_score.specs.Sign.{sign_of, is_join, is_exchange, is_exclusive, is_path_indicator}
use Rattle.hum_score.specs.Spines.{Spines, exchanges, names_after}
use Rattle.hum_score.specs.Rules.{has_lone_join, has_mixed_join, has_unnamed, has_bare}
use Rattle.hum_score.specs.Rules.{names_and_steers, is_pair_or_none, stays_unnamed}
use Rattle.hum_score.specs.Score.{Lead}
use Rattle.hum_path.specs.Onward.{beginnings, onward, swapped, renamed_each}
use Rattle.hum_path.proofs.Onwards.{names_onward, swapped_none, swapped_length, each_length, begins_length}
use Rattle.hum_path.proofs.Obeyed.{Obeys}
use Rattle.hum_score.specs.declared.records.SpinedKind.TheVariants.{Interpretation}
use Rattle.hum_score.specs.Row.{Row, chosen}
use Rattle.hum_stage.specs.declared.faults.Rule.{Rule}
use Rattle.hum_stage.specs.declared.faults.Rule.TheVariants.{X1, X3}
use Rattle.hum_columns.specs.Spread.{JoinedToken, tokens_in, spread, filled}
use Rattle.hum_columns.proofs.Spreading.{marks, signs_in}
use Rattle.hum_columns.proofs.Fitting.{Fits, come_to}
use Rattle.hum_columns.proofs.Leading.{spread_leads}
use Rattle.hum_columns.specs.Chosen.{is_torn}
use Rattle.hum_columns.proofs.ChosenLists.{chosen_fewer, chosen_none, chosen_map, chosen_each}
use Rattle.hum_columns.proofs.ChosenOnward.{chosen_onward}
use Rattle.hum_columns.proofs.ChosenJoins.{chosen_tokens, chosen_marks, chosen_formed}
use Rattle.hum_columns.proofs.Flags.{flags_after}
use Rattle.hum_extract.specs.Extract.{exchanged_flags, is_lone, chosen_between, softened, pieces, cut}
use Rattle.hum_extract.proofs.Exchanging.{swapped_chosen, pair_chosen, lone_stays, begin_swapped, sign_swapped}

-- what a softened token's sign becomes
abbrev pub soften : Bool → Sign → Sign
soften lone sign = cond (lone && is_exchange sign) Plain sign

soft_sign : (lone : Bool) (t : List ℕ) → sign_of (softened lone t) ≡ soften lone (sign_of t)
soft_sign = grind (arith, nat_tests)

pub soft_signs : (lone : Bool) (ts : List (List ℕ)) → map sign_of (map (softened lone) ts) ≡ map (soften lone) (map sign_of ts)
soft_signs lone [] = refl
soft_signs lone (t ∷ ts) = let ih = soft_signs lone ts in rw (soft_sign lone t, ih) refl

-- A softened sign joins and names as before.
soft_join : (lone : Bool) (s : Sign) → is_join (soften lone s) ≡ is_join s
soft_join = grind (arith, nat_tests)

soft_exclusive : (lone : Bool) (s : Sign) → is_exclusive (soften lone s) ≡ is_exclusive s
soft_exclusive = grind (arith, nat_tests)

soft_indicator : (lone : Bool) (s : Sign) → is_path_indicator s ≡ false → is_path_indicator (soften lone s) ≡ false
soft_indicator = grind (arith, nat_tests)

soft_torn : (lone : Bool) (fs : List Bool) (ss : List Sign) → is_torn fs (map (soften lone) ss) ≡ is_torn fs ss
soft_torn lone (f ∷ g ∷ fs) (s ∷ t ∷ ss) = grind (arith, nat_tests, soft_torn lone (g ∷ fs) (t ∷ ss))
soft_torn lone fs ss = grind (arith, nat_tests)

soft_lone : (lone b : Bool) (ss : List Sign) → has_lone_join b (map (soften lone) ss) ≡ has_lone_join b ss
soft_lone lone b [] = refl
soft_lone lone b (s ∷ ss) = grind (arith, nat_tests, soft_lone lone (is_join s) ss)

soft_mixed : (lone : Bool) (ns : List (List ℕ)) (ss : List Sign) → has_mixed_join ns (map (soften lone) ss) ≡ has_mixed_join ns ss
soft_mixed lone (n ∷ m ∷ ns) (s ∷ t ∷ ss) = grind (arith, nat_tests, soft_mixed lone (m ∷ ns) (t ∷ ss))
soft_mixed lone ns ss = grind (arith, nat_tests)

soft_unnamed : (lone : Bool) (ns : List (List ℕ)) (ss : List Sign) → has_unnamed ns (map (soften lone) ss) ≡ has_unnamed ns ss
soft_unnamed lone (n ∷ ns) (s ∷ ss) = let rest = soft_unnamed lone ns ss in rw (soft_exclusive lone s, rest) refl
soft_unnamed lone ns ss = grind (arith, nat_tests)

pub soft_begins : (lone b : Bool) (ss : List Sign) → beginnings b (map (soften lone) ss) ≡ beginnings b ss
soft_begins lone b [] = refl
soft_begins lone b (s ∷ ss) = let rest = soft_begins lone (is_join s) ss in rw (soft_join lone s, rest) refl

soft_exclusives : (lone : Bool) (ss : List Sign) → list_any is_exclusive (map (soften lone) ss) ≡ list_any is_exclusive ss
soft_exclusives lone [] = refl
soft_exclusives lone (s ∷ ss) = let rest = soft_exclusives lone ss in rw (soft_exclusive lone s, rest) refl

soft_indicators : (lone : Bool) (ss : List Sign) → list_any is_path_indicator ss ≡ false
    → list_any is_path_indicator (map (soften lone) ss) ≡ false
soft_indicators lone [] h = refl
soft_indicators lone (s ∷ ss) h =
    let both = or_parts (is_path_indicator s) (list_any is_path_indicator ss) h in
    or_from (is_path_indicator (soften lone s)) (list_any is_path_indicator (map (soften lone) ss))
    (soft_indicator lone s both.0) (soft_indicators lone ss both.1)

soft_bare : (lone : Bool) (ts : List (List ℕ)) → has_bare ts ≡ false → has_bare (map (softened lone) ts) ≡ false
soft_bare lone [] h = refl
soft_bare lone (t ∷ ts) h =
    let both = or_parts (bytes_eq (codes "**") t) (has_bare ts) h in
    or_from (bytes_eq (codes "**") (softened lone t)) (has_bare (map (softened lone) ts))
    (one (lone && is_exchange (sign_of t)) both.0) (soft_bare lone ts both.1)
  where
    one : (b : Bool) → bytes_eq (codes "**") t ≡ false → bytes_eq (codes "**") (cond b (codes "*") t) ≡ false
    one = grind (arith, nat_tests)

soft_each : (lone : Bool) (ns ts : List (List ℕ)) → renamed_each ns (map (softened lone) ts) ≡ renamed_each ns ts
soft_each lone (n ∷ ns) (t ∷ ts) = grind (arith, nat_tests, soft_each lone ns ts)
soft_each lone ns ts = grind (arith, nat_tests)

-- and carries on the same
soft_onward : {X : Type 0} (added : X → X) (lone : Bool) (bs : List Bool) (ss : List Sign) (xs : List X)
    → onward added bs (map (soften lone) ss) xs ≡ onward added bs ss xs
soft_onward {X} added lone (b ∷ bs) (s ∷ ss) (x ∷ xs) =
    grind (arith, nat_tests, soft_onward added lone bs ss xs)
soft_onward added lone bs ss xs = grind (arith, nat_tests)

-- none is exchanged
soft_exchanges : (j : ℕ) (ss : List Sign) → exchanges j (map (soften true) ss) ≡ []
soft_exchanges j [] = refl
soft_exchanges j (Split ∷ ss) = soft_exchanges (j + 1) ss
soft_exchanges j (s ∷ ss) = soft_exchanges (j + 1) ss

soft_none : (ss : List Sign) → map (soften false) ss ≡ ss
soft_none [] = refl
soft_none (s ∷ ss) = ap (λ (ts : List Sign). s ∷ ts) (soft_none ss)

-- The chosen ones of what is carried on, by the chosen columns.
pub chosen_comes : {X : Type 0} (added : X → X) (lone : Bool) (fs : List Bool) (ss : List Sign) (xs : List X) → length fs ≡ length ss
    → length ss ≡ length xs
    → is_pair_or_none (exchanges 0 ss) ≡ true → is_lone (exchanged_flags fs ss) ≡ lone → (lone && chosen_between fs ss) ≡ false
    → onward added (chosen fs (beginnings false ss)) (chosen fs (map (soften lone) ss))
    (swapped (chosen fs (map (soften lone) ss)) (chosen fs xs))
    ≡ chosen (flags_after fs ss) (onward added (beginnings false ss) ss (swapped ss xs))
chosen_comes added false fs ss xs len wide two is none =
    let both = swapped_chosen fs ss xs len wide two is in
    let swap = swapped_length ss xs in
    let whole = chosen_onward added fs (beginnings false ss) ss (swapped ss xs) (begins_length false ss) (omega (arith, wide, swap)) in
    rw (soft_none ss, both.0) (rw (← both.1) (sym whole))
chosen_comes {X} added true fs ss xs len wide two is none =
    let marks : List Bool = beginnings false ss in
    let size = begins_length false ss in
    let swap = swapped_length ss xs in
    let soft : map (soften true) (chosen fs ss) ≡ chosen fs (map (soften true) ss) = chosen_map (soften true) fs ss in
    let still : swapped (map (soften true) (chosen fs ss)) (chosen fs xs) ≡ chosen fs xs =
    swapped_none 0 (map (soften true) (chosen fs ss)) (chosen fs xs) (soft_exchanges 0 (chosen fs ss)) in
    let whole = chosen_onward added (swapped ss fs) (beginnings false ss) ss (swapped ss xs) size (omega (arith, wide, swap)) in
    let begins : chosen (swapped ss fs) (beginnings false ss) ≡ chosen fs (beginnings false ss) =
    grind (arith, nat_tests, begin_swapped, lone_stays) in
    let signs : chosen (swapped ss fs) ss ≡ chosen fs ss =
    ap (λ (ts : List Sign). chosen (swapped ss fs) ts) (sym (sign_swapped ss)) ∙ lone_stays fs ss ss len refl two is none in
    let columns = lone_stays fs ss xs len wide two is none in
    let right = whole ∙ cuts begins signs columns in
    rw (right, ← soft, still) (soft_onward added true (chosen fs (beginnings false ss)) (chosen fs ss) (chosen fs xs))
  where
    cuts : {bs cs : List Bool} {ts us : List Sign} {ys zs : List X} → bs ≡ cs → ts ≡ us → ys ≡ zs
        → onward added bs ts ys ≡ onward added cs us zs
    cuts a b c = rw (a, b, c) refl

-- whether of two exchanged columns one is chosen
abbrev pub has_lone : List Bool → List (List ℕ) → Bool
has_lone flags tokens = is_lone (exchanged_flags flags (map sign_of tokens))

-- The pieces that are cut out of an interpretation.
abbrev pub pieces_of : List Bool → List (List ℕ) → List JoinedToken
pieces_of flags tokens =
    pieces flags (map (softened (has_lone flags tokens)) tokens)

chosen_unnamed : (fs : List Bool) (ns : List (List ℕ)) (ss : List Sign) → has_unnamed ns ss ≡ false
    → has_unnamed (chosen fs ns) (chosen fs ss) ≡ false
chosen_unnamed [] ns ss h = refl
chosen_unnamed (f ∷ fs) [] ss h = refl
chosen_unnamed (true ∷ fs) (n ∷ ns) [] h = refl
chosen_unnamed (false ∷ fs) (n ∷ ns) [] h = none (chosen fs ns)
  where
    none : (ms : List (List ℕ)) → has_unnamed ms [] ≡ false
    none [] = refl
    none (m ∷ ms) = refl
chosen_unnamed (true ∷ fs) (n ∷ ns) (s ∷ ss) h =
    let both = or_parts (stays_unnamed n s) (has_unnamed ns ss) h in
    or_from (stays_unnamed n s) (has_unnamed (chosen fs ns) (chosen fs ss)) both.0 (chosen_unnamed fs ns ss both.1)
chosen_unnamed (false ∷ fs) (n ∷ ns) (s ∷ ss) h = chosen_unnamed fs ns ss (or_parts (stays_unnamed n s) (has_unnamed ns ss) h).1

-- an exclusive interpretation or a path indicator is missing
chosen_steers : (lone : Bool) (fs : List Bool) (ss : List Sign) → names_and_steers ss ≡ false
    → names_and_steers (chosen fs (map (soften lone) ss)) ≡ false
chosen_steers = grind (arith, nat_tests, chosen_none, soft_indicators, soft_exclusives)

chosen_pair : (lone : Bool) (fs : List Bool) (ss : List Sign) → length fs ≡ length ss → is_pair_or_none (exchanges 0 ss) ≡ true
    → is_lone (exchanged_flags fs ss) ≡ lone
    → is_pair_or_none (exchanges 0 (chosen fs (map (soften lone) ss))) ≡ true
chosen_pair false fs ss len two is = rw (soft_none ss) (pair_chosen fs ss len two is)
chosen_pair true fs ss len two is = rw (← chosen_map (soften true) fs ss, soft_exchanges 0 (chosen fs ss)) refl

pub cut_signs : (fs : List Bool) (lone : Bool) (ts : List (List ℕ))
    → signs_in (pieces fs (map (softened lone) ts)) ≡ chosen fs (map (soften lone) (map sign_of ts))
cut_signs = grind (arith, nat_tests, chosen_tokens, chosen_map, soft_signs)

fits_at : (lone : Bool) (fs : List Bool) (names tokens : List (List ℕ)) → length fs ≡ length tokens → Obeys names tokens
    → is_torn fs (map sign_of tokens) ≡ false
    → has_lone fs tokens ≡ lone → Fits (pieces fs (map (softened lone) tokens)) (chosen fs names)
fits_at lone fs names tokens len keeps torn is =
    let signs = cut_signs fs lone tokens in
    let soft = soft_signs lone tokens in
    let count = length-map tokens sign_of in
    let size = length-map tokens (softened lone) in
    let wide = keeps.wide in
    record {
      formed = grind (arith, nat_tests, chosen_formed, soft_torn, soft_lone, soft_mixed);
      unnamed = grind (arith, nat_tests, chosen_unnamed, soft_unnamed);
      bare = grind (arith, nat_tests, chosen_tokens, chosen_none, soft_bare);
      steers = rw signs (chosen_steers lone fs (map sign_of tokens) keeps.steers);
      pair = rw signs (chosen_pair lone fs (map sign_of tokens) (omega (arith, len, count)) keeps.pair is);
    }

-- They break no rule that stands at one token or one join.
pub cut_fits : (fs : List Bool) (names tokens : List (List ℕ)) → length fs ≡ length tokens → Obeys names tokens
    → is_torn fs (map sign_of tokens) ≡ false
    → Fits (pieces_of fs tokens) (chosen fs names)
cut_fits fs names tokens len keeps torn = fits_at (has_lone fs tokens) fs names tokens len keeps torn refl

comes_at : (lone : Bool) (fs : List Bool) (names tokens : List (List ℕ)) → length fs ≡ length tokens → Obeys names tokens
    → has_lone fs tokens ≡ lone → (lone && chosen_between fs (map sign_of tokens)) ≡ false
    → come_to (pieces fs (map (softened lone) tokens)) (chosen fs names)
    ≡ chosen (flags_after fs (map sign_of tokens)) (names_after (Spines names) tokens)
comes_at lone fs names tokens len keeps is none =
    let signs : List Sign = map sign_of tokens in
    let size = length-map tokens (softened lone) in
    let count = length-map tokens sign_of in
    let wide = keeps.wide in
    let each = each_length names tokens wide in
    let marked : marks (pieces fs (map (softened lone) tokens)) ≡ chosen fs (beginnings false (map sign_of tokens)) =
    chosen_marks false fs (map (softened lone) tokens)
    ∙ ap (λ (bs : List Bool). chosen fs bs)
    (ap (λ (ss : List Sign). beginnings false ss) (soft_signs lone tokens) ∙ soft_begins lone false (map sign_of tokens)) in
    let own : renamed_each (chosen fs names) (tokens_in (pieces fs (map (softened lone) tokens)))
    ≡ chosen fs (renamed_each names tokens) =
    ap (λ (ts : List (List ℕ)). renamed_each (chosen fs names) ts) (chosen_tokens false fs (map (softened lone) tokens))
    ∙ (chosen_each fs names (map (softened lone) tokens) (omega (arith, wide, size))
    ∙ ap (λ (ns : List (List ℕ)). chosen fs ns) (soft_each lone names tokens)) in
    let whole =
    chosen_comes (λ _. []) lone fs (map sign_of tokens) (renamed_each names tokens) (omega (arith, len, count))
    (omega (arith, count, each)) keeps.pair is none in
    rw (marked, own, cut_signs fs lone tokens, names_onward names tokens wide keeps.pair) whole

-- They come to the chosen spines.
pub cut_comes : (fs : List Bool) (names tokens : List (List ℕ)) → length fs ≡ length tokens → Obeys names tokens
    → (has_lone fs tokens && chosen_between fs (map sign_of tokens)) ≡ false
    → come_to (pieces_of fs tokens) (chosen fs names)
    ≡ chosen (flags_after fs (map sign_of tokens)) (names_after (Spines names) tokens)
cut_comes fs names tokens len keeps none = comes_at (has_lone fs tokens) fs names tokens len keeps refl none

-- The records that an interpretation is cut to.
pub cut_leads : (fs : List Bool) (names tokens : List (List ℕ)) (rows : List Row) → length fs ≡ length tokens → Obeys names tokens
    → length names ≤ 4096 → cut fs tokens ≡ Ok rows
    → Lead (chosen fs names) rows (chosen (flags_after fs (map sign_of tokens)) (names_after (Spines names) tokens))
cut_leads fs names tokens rows len keeps few e =
    by_tests (is_torn fs (map sign_of tokens)) (has_lone fs tokens && chosen_between fs (map sign_of tokens)) refl refl e
  where
    by_tests : (torn between : Bool) → is_torn fs (map sign_of tokens) ≡ torn
        → (has_lone fs tokens && chosen_between fs (map sign_of tokens)) ≡ between
        → ◌≡◌ {A = Result (List Row) Rule}
        (cond torn (Err X1) (cond between (Err X3) (Ok (filled Interpretation (spread (pieces_of fs tokens)))))) (Ok rows)
        → Lead (chosen fs names) rows (chosen (flags_after fs (map sign_of tokens)) (names_after (Spines names) tokens))
    by_tests false false a b e =
        let out : filled Interpretation (spread (pieces_of fs tokens)) ≡ rows = cc in
        let comes = cut_comes fs names tokens len keeps b in
        let size = ap length comes in
        let less = chosen_fewer fs names in
        let fewer = chosen_fewer (flags_after fs (map sign_of tokens)) (names_after (Spines names) tokens) in
        let after = keeps.few in
        rw (← out, ← comes)
        (spread_leads (pieces_of fs tokens) (chosen fs names) (cut_fits fs names tokens len keeps a) (omega (arith, less, few))
        (omega (arith, size, fewer, after)))
    by_tests torn between a b e = grind (arith, nat_tests)

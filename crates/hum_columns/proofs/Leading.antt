-- The records that tokens are spread over break no rule, and lead where one record would.
use Rattle.std.proofs.lemmas.Bool.Decides.{nat_tests}
use Rattle.std.proofs.Common.{◌≡◌, ◌∙◌, refl, ap, ℕ, suc, ◌+◌, ◌≤◌, ◌==◌, Bool, true, false, not, ◌&&◌, ◌||◌}
use Rattle.std.proofs.Common.{List, [], ◌∷◌, length, map, cond, arith, None}
use Rattle.std.specs.List.{list_any, find}
use Rattle.std.specs.Str.{bytes_eq}
use Rattle.std.proofs.lemmas.Bool.{or_parts, or_from}
use Rattle.std.proofs.lemmas.List.{length-map}
use lib.Chars.{codes}
use Rattle.hum_score.specs.declared.records.SpinedKind.TheVariants.{Interpretation}
use Rattle.hum_score.specs.declared.spines.Sign.{Sign}
use Rattle.hum_score.specs.Sign.{sign_of, is_exclusive, is_path_indicator}
use Rattle.hum_score.specs.Spines.{Spines, exchanges, names_after}
use Rattle.hum_score.specs.Rules.{breaks, in_order, has_unnamed, has_bare, names_and_steers, is_pair_or_none, stays_unnamed}
use Rattle.hum_score.specs.Score.{Lead}
use Rattle.hum_path.specs.Onward.{onward, swapped, renamed_each}
use Rattle.hum_path.proofs.Onwards.{names_onward, swapped_none}
use Rattle.hum_score.proofs.Cases.{by_bool}
use Rattle.hum_columns.specs.Spread.{JoinedToken, joins, tokens_in, touches, joins_in, first_alone}
use Rattle.hum_columns.specs.Spread.{first_done, one_by_one, spread, filled}
use Rattle.hum_columns.proofs.Spreading.{marks, signs_in, Formed, formed_length, merged}
use Rattle.hum_columns.proofs.Spreading.{first_onward, done_onward, done_formed, done_joins}
use Rattle.hum_columns.proofs.Spreading.{done_swapped, is_join_at}
use Rattle.hum_columns.proofs.Fitting.{come_to, Fits, pieces_size, one_more, one_leads}
use Rattle.hum_columns.proofs.FirstJoin.{first_size, first_none, done_none, merged_none, merged_fewer, first_lone, first_unmixed}
use Rattle.hum_columns.proofs.FirstJoin.{first_exchange, done_exchanges}

-- Where a join touches another no name changes.
abbrev pub is_nameless : List ℕ → Bool
is_nameless name = length name == 0

pub record Steady (pieces : List JoinedToken) (names : List (List ℕ)) : Type 0 where
  pub formed : Formed false [] pieces names
  pub named : list_any is_nameless names ≡ false
  pub bare : has_bare (tokens_in pieces) ≡ false
  pub stay : list_any (λ t. is_exclusive (sign_of t)) (tokens_in pieces) ≡ false
  pub pair : is_pair_or_none (exchanges 0 (signs_in pieces)) ≡ true

any_sign : (test : Sign → Bool) (ts : List (List ℕ)) → list_any test (map sign_of ts) ≡ list_any (λ t. test (sign_of t)) ts
any_sign test [] = refl
any_sign test (t ∷ ts) = ap (λ (b : Bool). test (sign_of t) || b) (any_sign test ts)

none_unnamed : (ns : List (List ℕ)) (ss : List Sign) → list_any is_nameless ns ≡ false → has_unnamed ns ss ≡ false
none_unnamed (n ∷ ns) (s ∷ ss) h =
    let both = or_parts (is_nameless n) (list_any is_nameless ns) h in
    let rest = none_unnamed ns ss both.1 in
    rw (both.0, rest) refl
none_unnamed ns ss h = grind (arith, nat_tests)

steady_steers : (ts : List (List ℕ)) → list_any (λ t. is_exclusive (sign_of t)) ts ≡ false → names_and_steers (map sign_of ts) ≡ false
steady_steers ts h = let none = any_sign is_exclusive ts ∙ h in rw none refl

pub steady_fits : (ps : List JoinedToken) (ns : List (List ℕ)) → Steady ps ns → Fits ps ns
steady_fits = grind (arith, nat_tests, none_unnamed, signs_in, steady_steers)

pair_of : (xs ys : List ℕ) → length xs ≡ length ys → is_pair_or_none ys ≡ true → is_pair_or_none xs ≡ true
pair_of xs ys e h = rw e h

done_steady : (ps : List JoinedToken) (ns : List (List ℕ)) → Steady ps ns → Steady (first_done ps) (merged ps ns)
done_steady = grind (arith, nat_tests, done_formed, merged_none, done_none, pair_of, signs_in, done_exchanges)

-- no name of theirs
same_names : (ns ts : List (List ℕ)) → length ns ≡ length ts → list_any (λ t. is_exclusive (sign_of t)) ts ≡ false → renamed_each ns ts ≡ ns
same_names (n ∷ ns) (t ∷ ts) len h =
    let both = or_parts (is_exclusive (sign_of t)) (list_any (λ u. is_exclusive (sign_of u)) ts) h in
    let rest = same_names ns ts (omega (arith, len)) both.1 in
    rw (both.0, rest) refl
same_names ns ts h k = grind (arith, nat_tests)

steady_comes : (ps : List JoinedToken) (ns : List (List ℕ)) → Steady ps ns
    → come_to ps ns ≡ onward (λ _. []) (marks ps) (signs_in ps) (swapped (signs_in ps) ns)
steady_comes = grind (arith, nat_tests, pieces_size, formed_length, marks, signs_in, same_names)

-- The record with the first join alone, and what is left to do.
first_comes : (ps : List JoinedToken) (ns : List (List ℕ)) → Steady ps ns → names_after (Spines ns) (first_alone ps) ≡ merged ps ns
first_comes ps ns h =
    let size = first_size ps in
    let len = formed_length false [] ps ns h.formed in
    let wide : length ns ≡ length (first_alone ps) = omega (arith, size, len) in
    let none = first_exchange 0 false [] ps ns h.formed in
    let stay = first_none (λ t. is_exclusive (sign_of t)) ps refl h.stay in
    names_onward ns (first_alone ps) wide (rw none refl)
    ∙ (rw (same_names ns (first_alone ps) wide stay, swapped_none 0 (map sign_of (first_alone ps)) ns none)
    (first_onward (λ _. []) false [] ps ns ns h.formed len))

first_sound : (ps : List JoinedToken) (ns : List (List ℕ)) (k : ℕ) → length ps ≡ suc k → Steady ps ns → length ns ≤ 4096
    → find (breaks (Spines ns) (first_alone ps)) in_order ≡ None
first_sound ps ns k some h few =
    let none = first_exchange 0 false [] ps ns h.formed in
    let stay = first_none (λ t. is_exclusive (sign_of t)) ps refl h.stay in
    let bare = first_none (bytes_eq (codes "**")) ps refl h.bare in
    grind (
      arith,
      nat_tests,
      length-map,
      first_size ps,
      formed_length false [] ps ns h.formed,
      first_comes ps ns h,
      merged_fewer ps ns,
      none,
      bare,
      none_unnamed ns (map sign_of (first_alone ps)) h.named,
      steady_steers (first_alone ps) stay,
      first_lone false [] ps ns h.formed,
      first_unmixed ps ns h.formed,
    )

left_comes : (ps : List JoinedToken) (ns : List (List ℕ)) → Steady ps ns → come_to (first_done ps) (merged ps ns) ≡ come_to ps ns
left_comes = grind (arith, nat_tests, steady_comes, merged, done_steady, done_swapped, done_onward, signs_in)

-- Joins that touch are two at least.
pub touching_joins : (b : Bool) (m : List ℕ) (ps : List JoinedToken) (ns : List (List ℕ)) → Formed b m ps ns → touches b ps ≡ true
    → cond b 1 2 ≤ joins_in ps
touching_joins b m (p ∷ ps) (n ∷ ns) f t =
    by_test b p.begins (joins p) (λ e. (f.0 e).0) (λ e. (f.1.0 e).0) t (λ t. touching_joins (joins p) n ps ns f.1.1 t)
  where
    by_test : (b g j : Bool) → (g ≡ true → j ≡ true) → ((j && not g) ≡ true → b ≡ true) → ((b && g) || touches j ps) ≡ true
        → (touches j ps ≡ true → cond j 1 2 ≤ joins_in ps) → cond b 1 2 ≤ cond g (joins_in ps + 1) (joins_in ps)
    by_test = grind (arith, nat_tests)
touching_joins b m ps ns h k = grind (arith, nat_tests)

pub one_apart : (ps : List JoinedToken) (ns : List (List ℕ)) → Formed false [] ps ns → joins_in ps ≤ 1 → touches false ps ≡ false
one_apart = grind (arith, nat_tests, touching_joins)

-- So many records with one join alone, and the last.
by_one : (n : ℕ) (ps : List JoinedToken) (ns : List (List ℕ)) → Steady ps ns → joins_in ps ≤ suc n → (1 ≤ n → joins_in ps ≡ suc n)
    → length ns ≤ 4096 → length (come_to ps ns) ≤ 4096
    → Lead ns (filled Interpretation (one_by_one n ps)) (come_to ps ns)
by_one (suc n) (p ∷ ps) ns h few exact w e =
    let left = left_comes (p ∷ ps) ns h in
    let all : joins_in (p ∷ ps) ≡ suc (suc n) = exact (omega arith) in
    let fewer : joins_in (first_done (p ∷ ps)) ≡ suc n = done_joins (p ∷ ps) (suc n) all in
    let narrow = merged_fewer (p ∷ ps) ns in
    let size = ap length left in
    let more =
    by_one n (first_done (p ∷ ps)) (merged (p ∷ ps) ns) (done_steady (p ∷ ps) ns h) (omega (arith, fewer)) (λ k. fewer)
    (omega (arith, narrow, w)) (omega (arith, size, e)) in
    one_more ns (first_alone (p ∷ ps)) (come_to (p ∷ ps) ns) (one_by_one n (first_done (p ∷ ps))) (length ps) (first_size (p ∷ ps))
    (first_sound (p ∷ ps) ns (length ps) refl h w)
    (rw (first_comes (p ∷ ps) ns h, ← left) more)
by_one n ps ns h k w e m = grind (arith, nat_tests, one_leads, steady_fits, one_apart)

-- Where joins touch, the record steers: no token names a spine, and no spine waits for its name.
touching_steers : (b : Bool) (m : List ℕ) (ps : List JoinedToken) (ns : List (List ℕ)) → Formed b m ps ns → touches b ps ≡ true
    → list_any is_path_indicator (signs_in ps) ≡ true
touching_steers b m (p ∷ ps) (n ∷ ns) f t = by_bool p.begins
    (λ w. rw (is_join_at (sign_of p.token) (f.0 w).0) refl)
    (λ w.
    let more = touching_steers (joins p) n ps ns f.1.1 (later b p.begins (touches (joins p) ps) w t) in
    or_right (is_path_indicator (sign_of p.token)) (list_any is_path_indicator (signs_in ps)) more)
  where
    or_right : (a c : Bool) → c ≡ true → (a || c) ≡ true
    or_right = grind (arith, nat_tests)

    later : (b g c : Bool) → g ≡ false → ((b && g) || c) ≡ true → c ≡ true
    later = grind (arith, nat_tests)
touching_steers b m ps ns h k = grind (arith, nat_tests)

all_named : (ns ts : List (List ℕ)) → length ns ≡ length ts → has_unnamed ns (map sign_of ts) ≡ false
    → list_any (λ t. is_exclusive (sign_of t)) ts ≡ false → list_any is_nameless ns ≡ false
all_named (n ∷ ns) (t ∷ ts) len u h =
    let here = or_parts (stays_unnamed n (sign_of t)) (has_unnamed ns (map sign_of ts)) u in
    let stay = or_parts (is_exclusive (sign_of t)) (list_any (λ u. is_exclusive (sign_of u)) ts) h in
    or_from (is_nameless n) (list_any is_nameless ns) (named (is_nameless n) (is_exclusive (sign_of t)) here.0 stay.0)
    (all_named ns ts (omega (arith, len)) here.1 stay.1)
  where
    named : (a e : Bool) → (a && not e) ≡ false → e ≡ false → a ≡ false
    named = grind (arith, nat_tests)
all_named ns ts h k w = grind (arith, nat_tests)

touching_steady : (ps : List JoinedToken) (ns : List (List ℕ)) → Fits ps ns → touches false ps ≡ true → Steady ps ns
touching_steady ps ns fits t =
    grind (arith, nat_tests, touching_steers, signs_in, any_sign, pieces_size, formed_length, all_named)

-- The spread rule: its records break no path rule, and lead where the pieces lead at once.
pub spread_leads : (ps : List JoinedToken) (ns : List (List ℕ)) → Fits ps ns → length ns ≤ 4096 → length (come_to ps ns) ≤ 4096
    → Lead ns (filled Interpretation (spread ps)) (come_to ps ns)
spread_leads = grind (arith, nat_tests, come_to, one_leads, touching_joins, by_one, touching_steady)

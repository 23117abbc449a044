-- The record with the first join alone, and what is left.
use Rattle.std.proofs.lemmas.Bool.Decides.{nat_tests}
use Rattle.std.proofs.Common.{◌≡◌, refl, ap, ℕ, suc, ◌+◌, ◌≤◌, Bool, true, false, not}
use Rattle.std.proofs.Common.{List, [], ◌∷◌, length, map, cond, arith}
use Rattle.std.specs.List.{list_any}
use Rattle.std.proofs.lemmas.Bool.{and_parts, or_parts, or_from}
use Rattle.std.proofs.lemmas.List.{length-map}
use lib.Chars.{codes}
use Rattle.hum_score.specs.declared.spines.Sign.{Sign}
use Rattle.hum_score.specs.declared.spines.Sign.TheVariants.{Join, Plain}
use Rattle.hum_score.specs.Sign.{sign_of, is_join, is_exchange}
use Rattle.hum_score.specs.Spines.{exchanges}
use Rattle.hum_score.specs.Rules.{has_lone_join, first_is, has_mixed_join}
use Rattle.hum_score.proofs.Cases.{by_bool}
use Rattle.hum_columns.specs.Spread.{JoinedToken, joins, goes_on, tokens_in, join_alone, first_alone, join_done, first_done}
use Rattle.hum_columns.proofs.Spreading.{signs_in, next_goes_on, Formed, formed_length, rest_merged, merged, is_join_at}
use Rattle.hum_columns.proofs.Fitting.{same_name}

-- as many tokens as pieces
alone_size : (ps : List JoinedToken) → length (join_alone ps) ≡ length ps
alone_size [] = refl
alone_size (p ∷ ps) = by_bool (goes_on p)
    (λ w. rw w (ap suc (alone_size ps)))
    (λ w. rw w (length-map (p ∷ ps) (λ _. codes "*")))

pub first_size : (ps : List JoinedToken) → length (first_alone ps) ≡ length ps
first_size [] = refl
first_size (p ∷ ps) = grind (arith, nat_tests, first_size ps, alone_size)

-- what neither null tokens nor joins are, none is
stars_none : (test : List ℕ → Bool) (ps : List JoinedToken) → test (codes "*") ≡ false → list_any test (map (λ _. codes "*") ps) ≡ false
stars_none test [] h = refl
stars_none test (p ∷ ps) h = or_from (test (codes "*")) (list_any test (map (λ _. codes "*") ps)) h (stars_none test ps h)

alone_none : (test : List ℕ → Bool) (ps : List JoinedToken) → test (codes "*") ≡ false → list_any test (tokens_in ps) ≡ false
    → list_any test (join_alone ps) ≡ false
alone_none test [] star h = refl
alone_none test (p ∷ ps) star h =
    let both = or_parts (test p.token) (list_any test (tokens_in ps)) h in
    by_bool (goes_on p)
    (λ w. rw w (or_from (test p.token) (list_any test (join_alone ps)) both.0 (alone_none test ps star both.1)))
    (λ w. rw w (stars_none test (p ∷ ps) star))

pub first_none : (test : List ℕ → Bool) (ps : List JoinedToken) → test (codes "*") ≡ false → list_any test (tokens_in ps) ≡ false
    → list_any test (first_alone ps) ≡ false
first_none test [] star h = refl
first_none test (p ∷ ps) star h =
    let both = or_parts (test p.token) (list_any test (tokens_in ps)) h in
    by_bool p.begins
    (λ w. rw w (or_from (test p.token) (list_any test (join_alone ps)) both.0 (alone_none test ps star both.1)))
    (λ w. rw w (or_from (test (codes "*")) (list_any test (first_alone ps)) star (first_none test ps star both.1)))

-- the same of what is left
left_none : (test : List ℕ → Bool) (ps : List JoinedToken) → list_any test (tokens_in ps) ≡ false
    → list_any test (tokens_in (join_done ps)) ≡ false
left_none test [] h = refl
left_none test (p ∷ ps) h = by_bool (goes_on p)
    (λ w. rw w (left_none test ps (or_parts (test p.token) (list_any test (tokens_in ps)) h).1))
    (λ w. rw w h)

pub done_none : (test : List ℕ → Bool) (ps : List JoinedToken) → test (codes "*") ≡ false → list_any test (tokens_in ps) ≡ false
    → list_any test (tokens_in (first_done ps)) ≡ false
done_none test [] star h = refl
done_none test (p ∷ ps) star h =
    let both = or_parts (test p.token) (list_any test (tokens_in ps)) h in
    by_bool p.begins
    (λ w. rw w (or_from (test (codes "*")) (list_any test (tokens_in (join_done ps))) star (left_none test ps both.1)))
    (λ w. rw w (or_from (test p.token) (list_any test (tokens_in (first_done ps))) both.0 (done_none test ps star both.1)))

rest_none : {X : Type 0} (test : X → Bool) (ps : List JoinedToken) (xs : List X) → list_any test xs ≡ false
    → list_any test (rest_merged ps xs) ≡ false
rest_none test (p ∷ ps) (x ∷ xs) h = by_bool (goes_on p)
    (λ w. rw w (rest_none test ps xs (or_parts (test x) (list_any test xs) h).1))
    (λ w. rw w h)
rest_none test ps xs h = grind (arith, nat_tests)

pub merged_none : {X : Type 0} (test : X → Bool) (ps : List JoinedToken) (xs : List X) → list_any test xs ≡ false
    → list_any test (merged ps xs) ≡ false
merged_none test (p ∷ ps) (x ∷ xs) h =
    let both = or_parts (test x) (list_any test xs) h in
    by_bool p.begins
    (λ w. rw w (or_from (test x) (list_any test (rest_merged ps xs)) both.0 (rest_none test ps xs both.1)))
    (λ w. rw w (or_from (test x) (list_any test (merged ps xs)) both.0 (merged_none test ps xs both.1)))
merged_none test ps xs h = grind (arith, nat_tests)

rest_fewer : {X : Type 0} (ps : List JoinedToken) (xs : List X) → length (rest_merged ps xs) ≤ length xs
rest_fewer (p ∷ ps) (x ∷ xs) = by_bool (goes_on p)
    (λ w. rw w (let ih = rest_fewer ps xs in omega (arith, ih)))
    (λ w. rw w (omega arith))
rest_fewer ps xs = grind (arith, nat_tests)

pub merged_fewer : {X : Type 0} (ps : List JoinedToken) (xs : List X) → length (merged ps xs) ≤ length xs
merged_fewer (p ∷ ps) (x ∷ xs) = grind (arith, nat_tests, merged_fewer ps xs, rest_fewer)
merged_fewer ps xs = grind (arith, nat_tests)

-- its signs
stars_lone : (b : Bool) (ps : List JoinedToken) → has_lone_join b (map sign_of (map (λ _. codes "*") ps)) ≡ false
stars_lone b [] = refl
stars_lone b (p ∷ ps) = stars_lone false ps

alone_lone : (ps : List JoinedToken) → has_lone_join true (map sign_of (join_alone ps)) ≡ false
alone_lone [] = refl
alone_lone (p ∷ ps) = by_bool (goes_on p)
    (λ w.
    let join = (and_parts (joins p) (not p.begins) w).0 in
    rw (w, join) (alone_lone ps))
    (λ w. rw w (stars_lone true (p ∷ ps)))

alone_joins : (ps : List JoinedToken) → next_goes_on ps ≡ true → first_is is_join (map sign_of (join_alone ps)) ≡ true
alone_joins = grind (arith, nat_tests)

pub first_lone : (b : Bool) (m : List ℕ) (ps : List JoinedToken) (ns : List (List ℕ)) → Formed b m ps ns
    → has_lone_join false (map sign_of (first_alone ps)) ≡ false
first_lone b m (p ∷ ps) (n ∷ ns) f =
    grind (arith, nat_tests, first_lone (joins p) n ps ns f.1.1, alone_joins, alone_lone)
first_lone b m ps ns h = grind (arith, nat_tests)

stars_mixed : (m : List ℕ) (ps : List JoinedToken) (ns : List (List ℕ)) (s : Sign) → length ps ≡ length ns
    → has_mixed_join (m ∷ ns) (s ∷ map sign_of (map (λ _. codes "*") ps)) ≡ false
stars_mixed m (p ∷ ps) (n ∷ ns) s len =
    grind (arith, nat_tests, stars_mixed n ps ns Plain (omega (arith, len)))
stars_mixed m ps ns s h = grind (arith, nat_tests)

alone_mixed : (b : Bool) (m : List ℕ) (ps : List JoinedToken) (ns : List (List ℕ)) → Formed b m ps ns
    → has_mixed_join (m ∷ ns) (Join ∷ map sign_of (join_alone ps)) ≡ false
alone_mixed b m (p ∷ ps) (n ∷ ns) f = by_test (goes_on p) refl (alone_mixed (joins p) n ps ns f.1.1)
  where
    by_test : (t : Bool) → goes_on p ≡ t → has_mixed_join (n ∷ ns) (Join ∷ map sign_of (join_alone ps)) ≡ false
        → has_mixed_join (m ∷ n ∷ ns) (Join ∷ map sign_of (cond t (p.token ∷ join_alone ps) (map (λ _. codes "*") (p ∷ ps)))) ≡ false
    by_test = grind (arith, nat_tests, and_parts, same_name, is_join_at, stars_mixed, formed_length)
alone_mixed b m ps ns h = grind (arith, nat_tests)

first_mixed : (b : Bool) (m o : List ℕ) (ps : List JoinedToken) (ns : List (List ℕ)) → Formed b m ps ns
    → has_mixed_join (o ∷ ns) (Plain ∷ map sign_of (first_alone ps)) ≡ false
first_mixed b m o (p ∷ ps) (n ∷ ns) f =
    grind (arith, nat_tests, first_mixed (joins p) n n ps ns f.1.1, alone_mixed (joins p) n ps ns f.1.1)
first_mixed b m o ps ns h = grind (arith, nat_tests)

pub first_unmixed : (ps : List JoinedToken) (ns : List (List ℕ)) → Formed false [] ps ns
    → has_mixed_join ns (map sign_of (first_alone ps)) ≡ false
first_unmixed [] [] f = refl
first_unmixed [] (n ∷ ns) f = absurd f
first_unmixed (p ∷ ps) [] f = absurd f
first_unmixed (p ∷ ps) (n ∷ ns) f = by_test p.begins (first_mixed false [] [] (p ∷ ps) (n ∷ ns) f)
  where
    by_test : (t : Bool)
        → has_mixed_join ([] ∷ n ∷ ns) (Plain ∷ map sign_of (cond t (p.token ∷ join_alone ps) (codes "*" ∷ first_alone ps))) ≡ false
        → has_mixed_join (n ∷ ns) (map sign_of (cond t (p.token ∷ join_alone ps) (codes "*" ∷ first_alone ps))) ≡ false
    by_test = grind (arith, nat_tests)

-- it exchanges none
stars_exchange : (j : ℕ) (ps : List JoinedToken) → exchanges j (map sign_of (map (λ _. codes "*") ps)) ≡ []
stars_exchange j [] = refl
stars_exchange j (p ∷ ps) = stars_exchange (j + 1) ps

alone_exchange : (j : ℕ) (ps : List JoinedToken) → exchanges j (map sign_of (join_alone ps)) ≡ []
alone_exchange j [] = refl
alone_exchange j (p ∷ ps) = by_bool (goes_on p)
    (λ w. rw (w, is_join_at (sign_of p.token) (and_parts (joins p) (not p.begins) w).0) (alone_exchange (j + 1) ps))
    (λ w. rw w (stars_exchange j (p ∷ ps)))

pub first_exchange : (j : ℕ) (b : Bool) (m : List ℕ) (ps : List JoinedToken) (ns : List (List ℕ)) → Formed b m ps ns
    → exchanges j (map sign_of (first_alone ps)) ≡ []
first_exchange j b m (p ∷ ps) (n ∷ ns) f =
    grind (arith, nat_tests, first_exchange (j + 1) (joins p) n ps ns f.1.1, is_join_at, alone_exchange)
first_exchange j b m ps ns h = grind (arith, nat_tests)

-- as many exchanges are left
as_many : (i j : ℕ) (ss : List Sign) → length (exchanges i ss) ≡ length (exchanges j ss)
as_many i j [] = refl
as_many i j (s ∷ ss) = grind (arith, nat_tests, as_many (i + 1) (j + 1) ss)

left_exchanges : (i j : ℕ) (ps : List JoinedToken) → length (exchanges i (signs_in (join_done ps))) ≡ length (exchanges j (signs_in ps))
left_exchanges i j [] = refl
left_exchanges i j (p ∷ ps) = by_bool (goes_on p)
    (λ w. rw (w, is_join_at (sign_of p.token) (and_parts (joins p) (not p.begins) w).0) (left_exchanges i (j + 1) ps))
    (λ w. rw w (as_many i j (signs_in (p ∷ ps))))

pub done_exchanges : (i j : ℕ) (b : Bool) (m : List ℕ) (ps : List JoinedToken) (ns : List (List ℕ)) → Formed b m ps ns
    → length (exchanges i (signs_in (first_done ps))) ≡ length (exchanges j (signs_in ps))
done_exchanges i j b m (p ∷ ps) (n ∷ ns) f = by_bool p.begins
    (λ w. rw (w, is_join_at (sign_of p.token) (f.0 w).0) (left_exchanges (i + 1) (j + 1) ps))
    (λ w.
    by_bool (is_exchange (sign_of p.token))
    (λ v. rw (w, v) (ap suc (done_exchanges (i + 1) (j + 1) (joins p) n ps ns f.1.1)))
    (λ v. rw (w, v) (done_exchanges (i + 1) (j + 1) (joins p) n ps ns f.1.1)))
done_exchanges i j b m ps ns h = grind (arith, nat_tests)

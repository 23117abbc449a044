-- The rules on joins, exchanges and added spines, place by place.
use Rattle.std.proofs.lemmas.Grind.{common_steps}
use Rattle.std.proofs.Common.{◌≡◌, ◌≢◌, ◌∙◌, refl, sym, ap, ℕ, zero, suc, ◌+◌, ◌<◌, ◌⊎◌, ◌↔◌, inl, inr, arith}
use Rattle.std.proofs.Common.{◌==◌, Bool, true, false, not, ◌&&◌, ◌||◌, List, [], ◌∷◌, map, length}
use Rattle.std.specs.Prelude.{slice_index_or}
use lib.Chars.{codes}
use Rattle.std.proofs.lemmas.Bool.{and_parts, or_left, or_right}
use Rattle.std.proofs.lemmas.Bool.Decides.{nat_tests}
use Rattle.std.proofs.lemmas.Slice.Eq.{bytes_eq-Decides}
use Rattle.hum_score.specs.Sign.{sign_of, is_join, is_exchange}
use Rattle.hum_score.specs.Spines.{exchanges}
use Rattle.hum_score.specs.Rules.{first_is, is_pair_or_none, has_lone_join, mixes_join, has_mixed_join, stays_unnamed, has_unnamed}
use Rattle.hum_path.specs.Places.{IsJoin, IsExchange, AreBeside, IsLone, AreMixed, StaysUnnamed, AreExchanged, AreRulesByPlace}
use Rattle.hum_score.proofs.Cases.{by_bool}

-- tests of a token

is_join-of : (t : List ℕ) → is_join (sign_of t) ≡ true → t ≡ codes "*v"
is_join-of = grind (arith, nat_tests, bytes_eq-Decides)

join_is : (t : List ℕ) → t ≡ codes "*v" → is_join (sign_of t) ≡ true
join_is t h = rw h refl

-- P3

-- no join stands directly to the left
abbrev FreeLeft : Bool → List (List ℕ) → ℕ → Type 0
FreeLeft after tokens zero = after ≡ false
FreeLeft after tokens (suc i) = ¬ IsJoin tokens i

record LoneAt (after : Bool) (tokens : List (List ℕ)) (j : ℕ) : Type 0 where
  join : IsJoin tokens j
  right : ¬ IsJoin tokens (suc j)
  left : FreeLeft after tokens j

or_cases : (a b : Bool) → (a || b) ≡ true → (a ≡ true) ⊎ (b ≡ true)
or_cases = grind (arith, nat_tests)

not_true : (b : Bool) → not b ≡ true → b ≡ false
not_true = grind (arith, nat_tests)

or_neither : (a b : Bool) → (a || b) ≡ false → (a ≡ false) × (b ≡ false)
or_neither = grind (arith, nat_tests)

no_first_join : (ts : List (List ℕ)) → first_is is_join (map sign_of ts) ≡ false → ¬ IsJoin ts 0
no_first_join = grind (arith, common_steps)

first_no_join : (ts : List (List ℕ)) → ¬ IsJoin ts 0 → first_is is_join (map sign_of ts) ≡ false
first_no_join [] h = refl
first_no_join (u ∷ us) h = by_bool (is_join (sign_of u)) (λ w. absurd (h (is_join-of u w))) (λ w. w)

further_left : (after : Bool) (t : List ℕ) (ts : List (List ℕ)) (j : ℕ) → FreeLeft (is_join (sign_of t)) ts j → ¬ IsJoin (t ∷ ts) j
further_left = grind (arith, nat_tests)

back_left : (after : Bool) (t : List ℕ) (ts : List (List ℕ)) (j : ℕ) → ¬ IsJoin (t ∷ ts) j → FreeLeft (is_join (sign_of t)) ts j
back_left after t ts zero h = by_bool (is_join (sign_of t)) (λ w. absurd (h (is_join-of t w))) (λ w. w)
back_left after t ts (suc i) h = h

finds_lone : (after : Bool) (tokens : List (List ℕ)) → has_lone_join after (map sign_of tokens) ≡ true → (j : ℕ) × LoneAt after tokens j
finds_lone after [] h = cc
finds_lone after (t ∷ ts) h =
    elim (or_cases (is_join (sign_of t) && not (after || first_is is_join (map sign_of ts))) (has_lone_join (is_join (sign_of t)) (map sign_of ts)) h) [
      | inl w ↦ grind (arith, nat_tests, and_parts, or_neither, not_true, is_join-of, no_first_join)
      | inr w ↦
          let r = finds_lone (is_join (sign_of t)) ts w in
          (suc r.0, record { join = r.1.join; right = r.1.right; left = further_left after t ts r.0 r.1.left })
    ]

lone_breaks : (after : Bool) (tokens : List (List ℕ)) (j : ℕ) → LoneAt after tokens j → has_lone_join after (map sign_of tokens) ≡ true
lone_breaks after (t ∷ ts) (suc j) w =
    or_right (is_join (sign_of t) && not (after || first_is is_join (map sign_of ts))) (has_lone_join (is_join (sign_of t)) (map sign_of ts))
    (lone_breaks (is_join (sign_of t)) ts j (record { join = w.join; right = w.right; left = back_left after t ts j w.left }))
lone_breaks after tokens j h = grind (arith, nat_tests, or_left, join_is, first_no_join)

alone_of : (tokens : List (List ℕ)) (j k : ℕ) → LoneAt false tokens j → AreBeside j k → ¬ IsJoin tokens k
alone_of = grind (arith, nat_tests)

left_of : (tokens : List (List ℕ)) (j : ℕ) → ((k : ℕ) → AreBeside j k → ¬ IsJoin tokens k) → FreeLeft false tokens j
left_of = grind (arith, nat_tests)

lone_by_place : (tokens : List (List ℕ)) → (has_lone_join false (map sign_of tokens) ≡ true) ↔ ((j : ℕ) × IsLone tokens j)
lone_by_place tokens = (
  λ h. let r = finds_lone false tokens h in (r.0, record { join = r.1.join; alone = λ k b. alone_of tokens r.0 k r.1 b }),
  λ w. lone_breaks false tokens w.0 (record {
    join = w.1.join;
    right = w.1.alone (suc w.0) (inl (omega arith));
    left = left_of tokens w.0 w.1.alone;
  }),
)

-- P5

record MixedAt (names tokens : List (List ℕ)) (j : ℕ) : Type 0 where
  within : suc j < length names
  join : IsJoin tokens j
  next : IsJoin tokens (suc j)
  differ : slice_index_or names j [] ≢ slice_index_or names (suc j) []

finds_mixed : (names tokens : List (List ℕ)) → has_mixed_join names (map sign_of tokens) ≡ true → (j : ℕ) × MixedAt names tokens j
finds_mixed (n ∷ ns) (t ∷ ts) h =
    elim (or_cases (mixes_join (n ∷ ns) (map sign_of (t ∷ ts))) (has_mixed_join ns (map sign_of ts)) h) [
      | inl w ↦ (zero, here ns ts w)
      | inr w ↦
          let r = finds_mixed ns ts w in
          (suc r.0, record { within = omega (arith, r.1.within); join = r.1.join; next = r.1.next; differ = r.1.differ })
    ]
  where
    here : (ns ts : List (List ℕ)) → mixes_join (n ∷ ns) (map sign_of (t ∷ ts)) ≡ true → MixedAt (n ∷ ns) (t ∷ ts) zero
    here [] ts h = cc
    here (m ∷ ms) [] h = cc
    here (m ∷ ms) (u ∷ us) h = grind (arith, nat_tests, and_parts, not_true, is_join-of, bytes_eq-Decides)
finds_mixed names tokens h = grind (arith, nat_tests)

mixed_breaks : (names tokens : List (List ℕ)) (j : ℕ) → MixedAt names tokens j → has_mixed_join names (map sign_of tokens) ≡ true
mixed_breaks [] tokens j w = absurd (omega (arith, w.within))
mixed_breaks (n ∷ ns) [] j w = let e : [] ≡ codes "*v" = w.join in cc
mixed_breaks (n ∷ ns) (t ∷ ts) zero w = or_left (mixes_join (n ∷ ns) (map sign_of (t ∷ ts))) (has_mixed_join ns (map sign_of ts)) (here ns ts w)
  where
    here : (ns ts : List (List ℕ)) → MixedAt (n ∷ ns) (t ∷ ts) zero → mixes_join (n ∷ ns) (map sign_of (t ∷ ts)) ≡ true
    here [] ts w = absurd (omega (arith, w.within))
    here (m ∷ ms) [] w = let e : [] ≡ codes "*v" = w.next in cc
    here (m ∷ ms) (u ∷ us) w = grind (arith, nat_tests, bytes_eq-Decides, join_is)
mixed_breaks (n ∷ ns) (t ∷ ts) (suc j) w =
    or_right (mixes_join (n ∷ ns) (map sign_of (t ∷ ts))) (has_mixed_join ns (map sign_of ts))
    (mixed_breaks ns ts j (record { within = omega (arith, w.within); join = w.join; next = w.next; differ = w.differ }))

mixed_of : (names tokens : List (List ℕ)) (j k : ℕ) → AreMixed names tokens j k → has_mixed_join names (map sign_of tokens) ≡ true
mixed_of = grind (arith, nat_tests, mixed_breaks)

mixed_by_place : (names tokens : List (List ℕ)) → (has_mixed_join names (map sign_of tokens) ≡ true)
    ↔ ((j : ℕ) × (k : ℕ) × AreMixed names tokens j k)
mixed_by_place = grind (arith, nat_tests, finds_mixed, mixed_of)

-- P6

empty_name : (name : List ℕ) → (length name == 0) ≡ true → name ≡ []
empty_name = grind (arith, common_steps)

finds_unnamed : (names tokens : List (List ℕ)) → has_unnamed names (map sign_of tokens) ≡ true → (j : ℕ) × StaysUnnamed names tokens j
finds_unnamed (n ∷ ns) (t ∷ ts) h =
    elim (or_cases (stays_unnamed n (sign_of t)) (has_unnamed ns (map sign_of ts)) h) [
      | inl w ↦ grind (arith, nat_tests, and_parts, not_true, empty_name)
      | inr w ↦
          let r = finds_unnamed ns ts w in
          (suc r.0, record { spine = omega (arith, r.1.spine); token = omega (arith, r.1.token); added = r.1.added; plain = r.1.plain })
    ]
finds_unnamed names tokens h = grind (arith, nat_tests)

unnamed_breaks : (names tokens : List (List ℕ)) (j : ℕ) → StaysUnnamed names tokens j → has_unnamed names (map sign_of tokens) ≡ true
unnamed_breaks (n ∷ ns) (t ∷ ts) (suc j) w =
    or_right (stays_unnamed n (sign_of t)) (has_unnamed ns (map sign_of ts))
    (unnamed_breaks ns ts j (record { spine = omega (arith, w.spine); token = omega (arith, w.token); added = w.added; plain = w.plain }))
unnamed_breaks names tokens j h = grind (arith, nat_tests)

-- P4

is_exchange-of : (t : List ℕ) → is_exchange (sign_of t) ≡ true → t ≡ codes "*x"
is_exchange-of = grind (arith, nat_tests, bytes_eq-Decides)

exchange_is : (t : List ℕ) → t ≡ codes "*x" → is_exchange (sign_of t) ≡ true
exchange_is t h = rw h refl

-- the places of the exchanges behind the first token
rest_of : (j : ℕ) (t : List ℕ) (ts : List (List ℕ)) → is_exchange (sign_of t) ≡ false
    → exchanges j (map sign_of (t ∷ ts)) ≡ exchanges (j + 1) (map sign_of ts)
rest_of j t ts h = rw h refl

first_of_them : (j : ℕ) (t : List ℕ) (ts : List (List ℕ)) → is_exchange (sign_of t) ≡ true
    → exchanges j (map sign_of (t ∷ ts)) ≡ j ∷ exchanges (j + 1) (map sign_of ts)
first_of_them j t ts h = rw h refl

not_exchange : (t : List ℕ) → ¬ (t ≡ codes "*x") → is_exchange (sign_of t) ≡ false
not_exchange = grind (arith, nat_tests, is_exchange-of)

-- how many there are
none_here : (j : ℕ) (tokens : List (List ℕ)) → length (exchanges j (map sign_of tokens)) ≡ 0 → (i : ℕ) → ¬ IsExchange tokens i
none_here j (t ∷ ts) h (suc i) e = grind (arith, nat_tests, none_here (j + 1) ts)
none_here j tokens h i k = grind (arith, nat_tests)

none_there : (j : ℕ) (tokens : List (List ℕ)) → ((i : ℕ) → ¬ IsExchange tokens i) → length (exchanges j (map sign_of tokens)) ≡ 0
none_there j [] h = refl
none_there j (t ∷ ts) h = ap length (rest_of j t ts (not_exchange t (h zero))) ∙ none_there (j + 1) ts (λ i. h (suc i))

record OneExchange (tokens : List (List ℕ)) (j : ℕ) : Type 0 where
  at : IsExchange tokens j
  alone : (i : ℕ) → IsExchange tokens i → i ≡ j

one_here : (j : ℕ) (tokens : List (List ℕ)) → length (exchanges j (map sign_of tokens)) ≡ 1 → (i : ℕ) × OneExchange tokens i
one_here j [] h = absurd (omega (arith, h))
one_here j (t ∷ ts) h =
    by_bool (is_exchange (sign_of t))
    (λ b.
    let w = ap length (first_of_them j t ts b) in
    let none = none_here (j + 1) ts (omega (arith, h, w)) in
    (zero, record { at = is_exchange-of t b; alone = only none }))
    (λ b.
    let r = one_here (j + 1) ts (ap length (sym (rest_of j t ts b)) ∙ h) in
    (suc r.0, record { at = r.1.at; alone = later b r.0 r.1.alone }))
  where
    only : ((i : ℕ) → ¬ IsExchange ts i) → (i : ℕ) → IsExchange (t ∷ ts) i → i ≡ 0
    only = grind (arith, nat_tests)

    later : is_exchange (sign_of t) ≡ false → (k : ℕ) → ((i : ℕ) → IsExchange ts i → i ≡ k) → (i : ℕ) → IsExchange (t ∷ ts) i
        → i ≡ suc k
    later = grind (arith, nat_tests)

one_there : (j : ℕ) (tokens : List (List ℕ)) (k : ℕ) → OneExchange tokens k → length (exchanges j (map sign_of tokens)) ≡ 1
one_there j [] k w = let e : [] ≡ codes "*x" = w.at in cc
one_there j (t ∷ ts) zero w =
    let rest = none_there (j + 1) ts (λ i e. let z = w.alone (suc i) e in omega (arith, z)) in
    let whole = ap length (first_of_them j t ts (exchange_is t w.at)) in
    omega (arith, rest, whole)
one_there j (t ∷ ts) (suc k) w =
    ap length (rest_of j t ts (not_exchange t (λ e. let z = w.alone zero e in omega (arith, z))))
    ∙ one_there (j + 1) ts k (record { at = w.at; alone = λ i e. let z = w.alone (suc i) e in omega (arith, z) })

two_here : (j : ℕ) (tokens : List (List ℕ)) → length (exchanges j (map sign_of tokens)) ≡ 2 → (i : ℕ) × (k : ℕ) × AreExchanged tokens i k
two_here j [] h = absurd (omega (arith, h))
two_here j (t ∷ ts) h =
    by_bool (is_exchange (sign_of t))
    (λ b.
    let w = ap length (first_of_them j t ts b) in
    let r = one_here (j + 1) ts (omega (arith, h, w)) in
    (zero, suc r.0, record { apart = λ e. omega (arith, e); at = (is_exchange-of t b, r.1.at); alone = both r.0 r.1.alone }))
    (λ b.
    let r = two_here (j + 1) ts (ap length (sym (rest_of j t ts b)) ∙ h) in (
      suc r.0,
      suc r.1,
      record {
        apart = λ e. r.2.apart (omega (arith, e));
        at = r.2.at;
        alone = later b r.0 r.1 r.2.alone;
      },
    ))
  where
    both : (k : ℕ) → ((i : ℕ) → IsExchange ts i → i ≡ k) → (i : ℕ) → IsExchange (t ∷ ts) i → (i ≡ 0) ⊎ (i ≡ suc k)
    both = grind (arith, nat_tests)

    later : is_exchange (sign_of t) ≡ false → (a b : ℕ) → ((i : ℕ) → IsExchange ts i → (i ≡ a) ⊎ (i ≡ b))
        → (i : ℕ) → IsExchange (t ∷ ts) i → (i ≡ suc a) ⊎ (i ≡ suc b)
    later = grind (arith, nat_tests)

two_there : (j : ℕ) (tokens : List (List ℕ)) (a b : ℕ) → AreExchanged tokens a b → length (exchanges j (map sign_of tokens)) ≡ 2
two_there j [] a b w = let e : [] ≡ codes "*x" = w.at.0 in cc
two_there j (t ∷ ts) zero zero w = absurd (w.apart refl)
two_there j (t ∷ ts) zero (suc b) w =
    let rest = one_there (j + 1) ts b (record {
      at = w.at.1;
      alone = λ i e. elim (w.alone (suc i) e) [ inl z ↦ absurd (omega (arith, z)) | inr z ↦ omega (arith, z) ];
    }) in
    let whole = ap length (first_of_them j t ts (exchange_is t w.at.0)) in
    omega (arith, rest, whole)
two_there j (t ∷ ts) (suc a) zero w =
    let rest = one_there (j + 1) ts a (record {
      at = w.at.0;
      alone = λ i e. elim (w.alone (suc i) e) [ inl z ↦ omega (arith, z) | inr z ↦ absurd (omega (arith, z)) ];
    }) in
    let whole = ap length (first_of_them j t ts (exchange_is t w.at.1)) in
    omega (arith, rest, whole)
two_there j (t ∷ ts) (suc a) (suc b) w =
    ap length (rest_of j t ts (not_exchange t (λ e. elim (w.alone zero e) [ inl z ↦ omega (arith, z) | inr z ↦ omega (arith, z) ])))
    ∙ two_there (j + 1) ts a b (record {
      apart = λ e. w.apart (ap suc e);
      at = w.at;
      alone = λ i e. elim (w.alone (suc i) e) [ inl z ↦ inl (omega (arith, z)) | inr z ↦ inr (omega (arith, z)) ];
    })

pair_or_none : (n : ℕ) → (n == 0 || n == 2) ≡ true → (n ≡ 0) ⊎ (n ≡ 2)
pair_or_none n h = elim (or_cases (n == 0) (n == 2) h) [ inl w ↦ inl (grind (arith, nat_tests, w)) | inr w ↦ inr (grind (arith, nat_tests, w)) ]

kept : (b : Bool) → ¬ (not b ≡ true) → b ≡ true
kept = grind (arith, nat_tests)

exchanged_by_place : (tokens : List (List ℕ)) → (¬ (not (is_pair_or_none (exchanges 0 (map sign_of tokens))) ≡ true))
    ↔ (((j : ℕ) → ¬ IsExchange tokens j) ⊎ ((j : ℕ) × (k : ℕ) × AreExchanged tokens j k))
exchanged_by_place = grind (arith, nat_tests, pair_or_none, kept, none_here, two_here, none_there, two_there)

pub rules_by_place : (names tokens : List (List ℕ)) → AreRulesByPlace names tokens
rules_by_place =
    grind (arith, nat_tests, lone_by_place, exchanged_by_place, mixed_by_place, finds_unnamed, unnamed_breaks)

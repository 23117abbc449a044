-- The data tokens of cleaved columns that are taken, by places.
use Rattle.std.proofs.lemmas.Bool.Decides.{nat_tests}
use Rattle.std.proofs.lemmas.Grind.{common_steps}
use Rattle.std.proofs.Common.{◌≡◌, ◌≢◌, ◌∙◌, refl, sym, ap, ℕ, zero, suc, ◌+◌, ◌<◌, ◌≤◌, ◌⊎◌, ◌↔◌, inl, inr, arith}
use Rattle.std.proofs.Common.{Bool, true, false, ◌&&◌, ◌||◌, List, [], ◌∷◌, ◌++◌, map, length, get_or}
use Rattle.std.specs.List.{Contains, list_any}
use Rattle.std.specs.Str.{bytes_eq}
use Rattle.std.proofs.lemmas.Slice.Eq.{bytes_eq-Decides}
use Rattle.std.proofs.lemmas.Bool.{cases_eq}
use Rattle.std.proofs.lemmas.List.{length-append}
use Rattle.std.proofs.Common.{append-nil}
use Rattle.hum_score.proofs.Cases.{by_bool}
use Rattle.hum_record.specs.Contents.{is_null, is_barline}
use Rattle.hum_path.specs.Places.{token_at}
use Rattle.hum_cleave.specs.Tokens.{is_left_out, taken}
use Rattle.hum_places.specs.Cleaved.{IsTaken, TakenByPlace}
use Rattle.hum_places.proofs.Cutting.{no_false, both_of}
use Rattle.hum_places.proofs.Cleaving.{either}

-- the token behind some
at_end : (before : List (List ℕ)) (t : List ℕ) (ts : List (List ℕ)) → token_at (before ++ t ∷ ts) (length before) ≡ t
at_end = grind (arith, common_steps)

-- and one among those
in_front : (before ts : List (List ℕ)) (i : ℕ) → i < length before → token_at (before ++ ts) i ≡ token_at before i
in_front = grind (arith, common_steps)

any_at : (t : List ℕ) (before : List (List ℕ)) → list_any (bytes_eq t) before ≡ true → (i : ℕ) × (i < length before) × (token_at before i ≡ t)
any_at t [] e = no_false e
any_at t (b ∷ before) e = by_bool (bytes_eq t b)
    (λ w. (zero, omega arith, sym ((bytes_eq-Decides t b).0 w)))
    (λ w. let more = any_at t before (rw w at e) in let less = more.1 in (suc more.0, omega (arith, less), more.2))

any_from : (t : List ℕ) (before : List (List ℕ)) (i : ℕ) → i < length before → token_at before i ≡ t → list_any (bytes_eq t) before ≡ true
any_from t [] i h e = absurd (omega (arith, h))
any_from t (b ∷ before) zero h e = let w = (bytes_eq-Decides t b).1 (sym e) in rw w refl
any_from t (b ∷ before) (suc i) h e = grind (arith, nat_tests, any_from t before i (omega (arith, h)) e)

-- whether the token behind some is taken
record Tells (before : List (List ℕ)) (t : List ℕ) (ts : List (List ℕ)) : Type 0 where
  out : is_left_out before t ≡ true → ¬ IsTaken (before ++ t ∷ ts) (length before)
  stays : is_left_out before t ≡ false → IsTaken (before ++ t ∷ ts) (length before)

tells : (before : List (List ℕ)) (t : List ℕ) (ts : List (List ℕ)) → Tells before t ts
tells before t ts = record { out = out; stays = stays }
  where
    here : token_at (before ++ t ∷ ts) (length before) ≡ t
    here = at_end before t ts

    out : is_left_out before t ≡ true → ¬ IsTaken (before ++ t ∷ ts) (length before)
    out = grind (arith, nat_tests, either, no_false, here, both_of, any_at, in_front)

    stays : is_left_out before t ≡ false → IsTaken (before ++ t ∷ ts) (length before)
    stays e =
        let parts = neither (is_null t) (is_barline t && list_any (bytes_eq t) before) e in
        let size = length-append before (t ∷ ts) in
        record {
          within = omega (arith, size);
          filled = rw here parts.0;
          once = λ bar i less same.
              let found = any_from t before i less (sym (in_front before (t ∷ ts) i less) ∙ same ∙ here) in
              no_false (sym parts.1 ∙ both (rw here at bar) found);
        }
      where
        neither : (a b : Bool) → (a || b) ≡ false → (a ≡ false) × (b ≡ false)
        neither = grind (arith, nat_tests)

        both : {a b : Bool} → a ≡ true → b ≡ true → (a && b) ≡ true
        both p q = rw (p, q) refl

-- those that are taken from a place on
record TakenFrom (n : ℕ) (tokens made : List (List ℕ)) : Type 0 where
  places : List ℕ
  ascending : (i : ℕ) → i + 1 < length places → get_or places i 0 < get_or places (i + 1) 0
  all : (j : ℕ) → Contains places j ↔ ((n ≤ j) × IsTaken tokens j)
  whole : made ≡ map (token_at tokens) places

in_more : (k : ℕ) (ks : List ℕ) (j : ℕ) → Contains ks j → Contains (k ∷ ks) j
in_more k ks j h = let less = h.1 in (suc h.0, omega (arith, less), h.2)

by_first : {P : Type 0} (k : ℕ) (ks : List ℕ) (j : ℕ) → Contains (k ∷ ks) j → (k ≡ j → P) → (Contains ks j → P) → P
by_first = grind (arith, nat_tests)

none_from : (tokens : List (List ℕ)) (n : ℕ) → length tokens ≤ n → TakenFrom n tokens []
none_from = grind (arith, nat_tests)

pass_one : (tokens made : List (List ℕ)) (n : ℕ) → ¬ IsTaken tokens n → TakenFrom (n + 1) tokens made → TakenFrom n tokens made
pass_one tokens made n out rest = record {
  places = rest.places;
  ascending = rest.ascending;
  all = λ j. (
    λ w. let v = (rest.all j).0 w in let from = v.0 in (omega (arith, from), v.1),
    λ w. (rest.all j).1 (further j w.0 w.1, w.1),
  );
  whole = rest.whole;
}
  where
    further : (j : ℕ) → n ≤ j → IsTaken tokens j → n + 1 ≤ j
    further = grind (arith, nat_tests)

take_one : (tokens made : List (List ℕ)) (n : ℕ) (t : List ℕ) → token_at tokens n ≡ t → IsTaken tokens n → TakenFrom (n + 1) tokens made
    → TakenFrom n tokens (t ∷ made)
take_one tokens made n t here is rest = record {
  places = n ∷ rest.places;
  ascending = ascending;
  all = λ j. (
    λ w. by_first n rest.places j w (λ e. (omega (arith, e), rw (← e) is)) (λ v. let u = (rest.all j).0 v in let from = u.0 in (omega (arith, from), u.1)),
    λ w. by_place j w (cases_eq n j),
  );
  whole = rw (rest.whole, here) refl;
}
  where
    ascending : (i : ℕ) → i + 1 < length (n ∷ rest.places) → get_or (n ∷ rest.places) i 0 < get_or (n ∷ rest.places) (i + 1) 0
    ascending = grind (arith, common_steps)

    by_place : (j : ℕ) → (n ≤ j) × IsTaken tokens j → (n ≡ j) ⊎ (n ≢ j) → Contains (n ∷ rest.places) j
    by_place j w (inl same) = (zero, omega arith, same)
    by_place j w (inr other) = let from = w.0 in in_more n rest.places j ((rest.all j).1 (omega (arith, from, other), w.1))

taken_from : (before ts : List (List ℕ)) → TakenFrom (length before) (before ++ ts) (taken before ts)
taken_from before [] = none_from (before ++ []) (length before) (let same = ap length (append-nil before) in omega (arith, same))
taken_from before (t ∷ ts) =
    let further = taken_from (before ++ t ∷ []) ts in
    let told = tells before t ts in
    let here : TakenFrom (length before + 1) (before ++ t ∷ ts) (taken (before ++ t ∷ []) ts) = shifted further in
    by_bool (is_left_out before t)
    (λ w. rw w (pass_one (before ++ t ∷ ts) (taken (before ++ t ∷ []) ts) (length before) (told.out w) here))
    (λ w. rw w (take_one (before ++ t ∷ ts) (taken (before ++ t ∷ []) ts) (length before) t (at_end before t ts) (told.stays w) here))
  where
    shifted : TakenFrom (length (before ++ t ∷ [])) ((before ++ t ∷ []) ++ ts) (taken (before ++ t ∷ []) ts)
        → TakenFrom (length before + 1) (before ++ t ∷ ts) (taken (before ++ t ∷ []) ts)
    shifted = grind (arith, common_steps)

pub taken_by_place : (tokens : List (List ℕ)) → TakenByPlace tokens
taken_by_place tokens =
    let h = taken_from [] tokens in
    record {
      places = h.places;
      ascending = h.ascending;
      all = λ j. (λ w. ((h.all j).0 w).1, λ w. (h.all j).1 (omega arith, w));
      whole = h.whole;
    }

-- Cleaved columns, by places.
use Rattle.std.proofs.lemmas.Grind.{common_steps}
use Rattle.std.proofs.Common.{◌≡◌, ◌≢◌, ◌∙◌, refl, sym, ap, ℕ, zero, suc, ◌+◌, ◌<◌, ◌≤◌, ◌⊎◌, ◌↔◌, inl, inr, arith}
use Rattle.std.proofs.Common.{Bool, true, false, not, ◌&&◌, ◌||◌, List, [], ◌∷◌, map, length, get_or}
use Rattle.std.proofs.Common.{Some, slice_get, Result, Ok, Err}
use Rattle.std.specs.Prelude.{if◌then◌else◌}
use Rattle.std.specs.List.{list_any, list_all}
use Rattle.std.specs.Str.{bytes_eq}
use Rattle.std.proofs.lemmas.Bool.Decides.{nat_tests}
use Rattle.std.proofs.lemmas.List.{length-map}
use Rattle.std.proofs.lemmas.Slice.Eq.{bytes_eq-Decides}
use lib.Chars.{codes}
use Rattle.hum_score.specs.declared.records.SpinedKind.TheVariants.{Interpretation}
use Rattle.hum_score.specs.Row.{Row, chosen}
use Rattle.hum_score.specs.declared.spines.Sign.{Sign}
use Rattle.hum_score.specs.Sign.{sign_of, is_exclusive}
use Rattle.hum_score.proofs.Cases.{by_bool}
use Rattle.hum_path.specs.Places.{token_at}
use Rattle.hum_stage.specs.declared.faults.Rule.{Rule}
use Rattle.hum_stage.specs.declared.faults.Rule.TheVariants.{C1, C2}
use Rattle.hum_columns.specs.Spread.{spread, filled}
use Rattle.hum_columns.specs.Chosen.{is_torn}
use Rattle.hum_cleave.specs.Columns.{together}
use Rattle.hum_cleave.specs.Tokens.{leftmost, is_silent, interpretation_of}
use Rattle.hum_cleave.specs.Cleave.{is_moved, is_end, ends_apart, is_entangled, pieces, merged}
use Rattle.hum_places.specs.Columns.{is_chosen, IsChosen, chosen_left}
use Rattle.hum_places.specs.Cleaved.{kept_left, TogetherByPlace, ArePieces, SomeNamed}
use Rattle.hum_places.specs.Cleaved.{IsEntangled, exchanged, added, apart, torn, MergedByPlace, MergesByPlace}
use Rattle.hum_places.specs.Cleaved.{IsLeftmost, IsFound, IsSilent, TokensByPlace}
use Rattle.hum_places.proofs.Heirs.{Asks, asks, is_text, no_text}
use Rattle.hum_places.proofs.Cutting.{no_false, both_of, off, not_chosen, torn_is, left_more, chosen_at, chosen_count, each_at, each_length, begins_is}

-- ---- places that are kept

one_more : (n : ℕ) → suc n + 1 ≡ suc (n + 1)
one_more n = omega arith

kept_false : (fs : List Bool) (j : ℕ) → kept_left (false ∷ fs) (suc j) ≡ suc (kept_left fs j)
kept_false fs zero = refl
kept_false fs (suc j) = grind (arith, nat_tests, kept_false fs j, not, left_more, one_more)

not_at : (fs : List Bool) (j : ℕ) → j < length fs → is_chosen (map not fs) j ≡ not (is_chosen fs j)
not_at = grind (arith, common_steps)

kept_true : (fs : List Bool) (j : ℕ) → j ≤ length fs → kept_left (true ∷ fs) (suc j) ≡ suc (chosen_left (map not fs) j)
kept_true fs zero h = refl
kept_true fs (suc j) h =
    grind (arith, nat_tests, kept_true fs j (omega (arith, h)), not, left_more, not_at, one_more)

own_at : {X : Type 0} (one : X) (fs : List Bool) (xs : List X) (j : ℕ) → j < length xs → IsChosen fs j → chosen_left fs j ≡ 0
    → slice_get (together one fs xs) (kept_left fs j) ≡ Some one
own_at one [] xs j h own first = no_false own
own_at one (f ∷ fs) [] j h own first = absurd (omega (arith, h))
own_at one (true ∷ fs) (x ∷ xs) zero h own first = refl
own_at one (true ∷ fs) (x ∷ xs) (suc j) h own first = let more = left_more true fs j in absurd (omega (arith, more, first))
own_at one (false ∷ fs) (x ∷ xs) zero h own first = no_false own
own_at one (false ∷ fs) (x ∷ xs) (suc j) h own first =
    let more = left_more false fs j in
    rw (kept_false fs j) (own_at one fs xs j (omega (arith, h)) own (omega (arith, more, first)))

other_at : {X : Type 0} (one : X) (fs : List Bool) (xs : List X) (j : ℕ) → length fs ≡ length xs → j < length xs → is_chosen fs j ≡ false
    → slice_get (together one fs xs) (kept_left fs j) ≡ slice_get xs j
other_at one [] [] j e h other = absurd (omega (arith, h))
other_at one [] (x ∷ xs) j e h other = absurd (omega (arith, e))
other_at one (f ∷ fs) [] j e h other = absurd (omega (arith, h))
other_at one (true ∷ fs) (x ∷ xs) zero e h other = no_false (sym other)
other_at one (true ∷ fs) (x ∷ xs) (suc j) e h other =
    grind (arith, nat_tests, kept_true, chosen_at, not, not_at)
other_at one (false ∷ fs) (x ∷ xs) zero e h other = refl
other_at one (false ∷ fs) (x ∷ xs) (suc j) e h other = rw (kept_false fs j) (other_at one fs xs j (omega (arith, e)) (omega (arith, h)) other)

together_count : {X : Type 0} (one : X) (fs : List Bool) (xs : List X) → length fs ≡ length xs → length (together one fs xs) ≡ kept_left fs (length xs)
together_count one [] [] e = refl
together_count one [] (x ∷ xs) e = absurd (omega (arith, e))
together_count one (f ∷ fs) [] e = absurd (omega (arith, e))
together_count one (true ∷ fs) (x ∷ xs) e = grind (arith, nat_tests, length-map, not, chosen_count, kept_true)
together_count one (false ∷ fs) (x ∷ xs) e = ap suc (together_count one fs xs (omega (arith, e))) ∙ sym (kept_false fs (length xs))

some_at : {X : Type 0} (xs : List X) (j : ℕ) (d : X) → j < length xs → slice_get xs j ≡ Some (get_or xs j d)
some_at [] j d h = absurd (omega (arith, h))
some_at (x ∷ xs) zero d h = refl
some_at (x ∷ xs) (suc j) d h = some_at xs j d (omega (arith, h))

pub are_together : (one : List ℕ) (flags : List Bool) (tokens : List (List ℕ)) → TogetherByPlace one flags tokens
are_together = grind (arith, nat_tests, own_at, other_at, off, some_at, together_count)

are_pieces : (flags : List Bool) (tokens : List (List ℕ)) → length flags ≡ length tokens
    → ArePieces (interpretation_of (chosen flags tokens)) flags tokens (pieces flags tokens)
are_pieces = grind (arith, nat_tests, each_length, own_at, other_at, off, each_at, begins_is, together_count)

-- ---- what some chosen column has

any_at : (p : Sign → Bool) (fs : List Bool) (ts : List (List ℕ)) → list_any p (chosen fs (map sign_of ts)) ≡ true
    → (j : ℕ) × IsChosen fs j × (p (sign_of (token_at ts j)) ≡ true)
any_at p [] ts e = no_false e
any_at p (f ∷ fs) [] e = no_false e
any_at p (true ∷ fs) (t ∷ ts) e = by_bool (p (sign_of t))
    (λ w. (zero, refl, w))
    (λ w. let more = any_at p fs ts (rw w at e) in (suc more.0, more.1, more.2))
any_at p (false ∷ fs) (t ∷ ts) e = let more = any_at p fs ts e in (suc more.0, more.1, more.2)

any_from : (p : Sign → Bool) (fs : List Bool) (ts : List (List ℕ)) (j : ℕ) → length fs ≡ length ts → IsChosen fs j
    → p (sign_of (token_at ts j)) ≡ true → list_any p (chosen fs (map sign_of ts)) ≡ true
any_from p [] ts j wide own e = no_false own
any_from p (f ∷ fs) [] j wide own e = absurd (omega (arith, wide))
any_from p (f ∷ fs) (t ∷ ts) zero wide own e = rw (own, e) refl
any_from p (true ∷ fs) (t ∷ ts) (suc j) wide own e =
    let more = any_from p fs ts j (omega (arith, wide)) own e in
    by_bool (p (sign_of t)) (λ w. rw w refl) (λ w. rw w more)
any_from p (false ∷ fs) (t ∷ ts) (suc j) wide own e = any_from p fs ts j (omega (arith, wide)) own e

not_all : {X : Type 0} (p : X → Bool) (xs : List X) → not (list_all p xs) ≡ list_any (λ x. not (p x)) xs
not_all p [] = refl
not_all p (x ∷ xs) = by_bool (p x) (λ w. rw w (not_all p xs)) (λ w. rw w refl)

-- ---- what can't be written in one column

moved_is : (t : List ℕ) → is_moved (sign_of t) ≡ true → (t ≡ codes "*x") ⊎ (t ≡ codes "*+")
moved_is t w = by_what (asks t)
  where
    by_what : Asks t → (t ≡ codes "*x") ⊎ (t ≡ codes "*+")
    by_what = grind (arith, common_steps)

end_is : (t : List ℕ) → is_end (sign_of t) ≡ bytes_eq t (codes "*-")
end_is = grind (arith, nat_tests)

end_on : (t : List ℕ) → is_end (sign_of t) ≡ true → t ≡ codes "*-"
end_on t w = is_text t (codes "*-") (sym (end_is t) ∙ w)

end_off : (t : List ℕ) → t ≢ codes "*-" → is_end (sign_of t) ≡ false
end_off t other = end_is t ∙ no_text t (codes "*-") other

no_end : (t : List ℕ) → is_end (sign_of t) ≡ false → t ≢ codes "*-"
no_end t w e = no_false (sym w ∙ ap (λ (t : List ℕ). is_end (sign_of t)) e)

pub either : (a b : Bool) → (a || b) ≡ true → (a ≡ true) ⊎ (b ≡ true)
either = grind (arith, nat_tests)

first_of : (a b : Bool) → a ≡ true → (a || b) ≡ true
first_of a b e = rw e refl

second_of : (a b : Bool) → b ≡ true → (a || b) ≡ true
second_of = grind (arith, nat_tests)

module _ (fs : List Bool) (ts : List (List ℕ)) (wide : length fs ≡ length ts) where
  abbrev signs : List Sign
  signs = map sign_of ts

  abbrev moves : Bool
  moves = list_any is_moved (chosen fs signs)

  named_is : (list_any is_exclusive (chosen fs signs) ≡ true) ↔ SomeNamed fs ts
  named_is = grind (arith, nat_tests, any_at, any_from)

  apart_at : ends_apart (chosen fs signs) ≡ true → IsEntangled fs ts
  apart_at e =
      let parts = both_of (list_any is_end (chosen fs signs)) (not (list_all is_end (chosen fs signs))) e in
      let one = any_at is_end fs ts parts.0 in
      let other = any_at (λ s. not (is_end s)) fs ts (sym (not_all is_end (chosen fs signs)) ∙ parts.1) in
      apart one.0 other.0 one.1 (end_on (token_at ts one.0) one.2) other.1 (no_end (token_at ts other.0) (turned other.2))
    where
      turned : {b : Bool} → not b ≡ true → b ≡ false
      turned {b} e = off (λ w. no_false (sym (ap not w) ∙ e))

  there : is_entangled fs signs ≡ true → IsEntangled fs ts
  there e = elim (either moves (ends_apart (chosen fs signs) || is_torn fs signs) e) [
    | inl w ↦
        let at = any_at is_moved fs ts w in
        elim (moved_is (token_at ts at.0) at.2) [ inl v ↦ exchanged at.0 at.1 v | inr v ↦ added at.0 at.1 v ]
    | inr w ↦ elim (either (ends_apart (chosen fs signs)) (is_torn fs signs) w) [
      | inl v ↦ apart_at v
      | inr v ↦ torn ((torn_is fs ts wide).0 v)
    ]
  ]

  moved : (j : ℕ) → IsChosen fs j → is_moved (sign_of (token_at ts j)) ≡ true → is_entangled fs signs ≡ true
  moved j own e = first_of moves (ends_apart (chosen fs signs) || is_torn fs signs) (any_from is_moved fs ts j wide own e)

  and_both : {a b : Bool} → a ≡ true → b ≡ true → (a && b) ≡ true
  and_both p q = rw (p, q) refl

  back : IsEntangled fs ts → is_entangled fs signs ≡ true
  back (exchanged j own e) = moved j own (ap (λ (t : List ℕ). is_moved (sign_of t)) e)
  back (added j own e) = moved j own (ap (λ (t : List ℕ). is_moved (sign_of t)) e)
  back (apart j k own e other d) =
      grind (arith, nat_tests, any_from, not_all, not, end_off, second_of, first_of, and_both)
  back (torn some) = grind (arith, nat_tests, second_of, torn_is)

  abbrev named : Bool
  named = list_any is_exclusive (chosen fs signs)

  abbrev ok : Result (List Row) Rule
  ok = Ok (filled Interpretation (spread (pieces fs ts)))

  by_tests : (n t : Bool) → named ≡ n → is_entangled fs signs ≡ t → merged fs ts ≡ (if n then Err C2 else if t then Err C1 else ok)
  by_tests n t p q = rw (p, q) refl

  c1_not_c2 : ◌≡◌ {A = Result (List Row) Rule} (Err C1) (Err C2) → ⊥
  c1_not_c2 e = cc

  ok_not : {rule : Rule} → ok ≡ Err rule → ⊥
  ok_not e = cc

  pub merged_is : MergedByPlace fs ts
  merged_is = record {
    named = (
      λ e. by_bool named named_is.0 (λ w. by_bool (is_entangled fs signs)
          (λ v. absurd (c1_not_c2 (sym (by_tests false true w v) ∙ e)))
          (λ v. absurd (ok_not (sym (by_tests false false w v) ∙ e)))),
      λ w. by_bool (is_entangled fs signs) (by_tests true true (named_is.1 w)) (by_tests true false (named_is.1 w)),
    );
    entangled = (
      λ e. by_bool named
          (λ w. by_bool (is_entangled fs signs)
          (λ v. absurd (c1_not_c2 (sym e ∙ by_tests true true w v)))
          (λ v. absurd (c1_not_c2 (sym e ∙ by_tests true false w v))))
          (λ w. by_bool (is_entangled fs signs)
          (λ v. (λ some. not_chosen w (named_is.1 some), there v))
          (λ v. absurd (ok_not (sym (by_tests false false w v) ∙ e)))),
      λ w. by_tests false true (off (λ v. w.0 (named_is.0 v))) (back w.1),
    );
    kept = λ no_name no_tangle.
        (pieces fs ts, are_pieces fs ts wide, by_tests false false (off (λ v. no_name (named_is.0 v))) (off (λ v. no_tangle (there v))));
  }

pub merges_by_place : (flags : List Bool) (tokens : List (List ℕ)) → MergesByPlace flags tokens
merges_by_place flags tokens wide = merged_is flags tokens wide

-- ---- the one token

module _ (test : List ℕ → Bool) (LeftOut : List ℕ → Type 0) (tells : (t : List ℕ) → (test t ≡ true) ↔ LeftOut t) (other : List ℕ) where
  one_found : (ts : List (List ℕ)) (j : ℕ) → IsLeftmost LeftOut ts j → leftmost test other ts ≡ token_at ts j
  one_found [] j w = let h = w.within in absurd (omega (arith, h))
  one_found (t ∷ ts) zero w = rw (off (λ v. w.taken ((tells t).0 v))) refl
  one_found (t ∷ ts) (suc j) w =
      let h = w.within in
      rw ((tells t).1 (w.first zero (omega arith)))
      (one_found ts j (record { within = omega (arith, h); taken = w.taken; first = λ i l. w.first (suc i) (omega (arith, l)) }))

  none_found : (ts : List (List ℕ)) → ((j : ℕ) → j < length ts → LeftOut (token_at ts j)) → leftmost test other ts ≡ other
  none_found [] all = refl
  none_found (t ∷ ts) all =
      rw ((tells t).1 (all zero (omega arith))) (none_found ts (λ j h. all (suc j) (omega (arith, h))))

  found_is : (ts : List (List ℕ)) → IsFound LeftOut other ts (leftmost test other ts)
  found_is ts = record { one = one_found ts; none = none_found ts }

silent_is : (t : List ℕ) → (is_silent t ≡ true) ↔ IsSilent t
silent_is = grind (arith, nat_tests, either, is_text)

pub tokens_by_place : (tokens : List (List ℕ)) → TokensByPlace tokens
tokens_by_place = grind (arith, nat_tests, found_is, bytes_eq-Decides, silent_is)

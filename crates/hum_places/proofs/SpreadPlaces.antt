-- The records of the spread rule are those by place, and no others are.
use Rattle.std.proofs.lemmas.Grind.{common_steps}
use Rattle.std.proofs.Common.{◌≡◌, ◌∙◌, refl, sym, ap, ℕ, zero, suc, ◌+◌, ◌<◌, ◌≤◌, ◌⊎◌, inl, inr, arith}
use Rattle.std.proofs.Common.{◌==◌, Bool, true, false, ◌&&◌, ◌||◌, List, [], ◌∷◌, length}
use Rattle.std.proofs.Common.{Some, slice_get}
use Rattle.std.specs.Prelude.{nat_lt, slice_index_or}
use Rattle.std.proofs.lemmas.Bool.Decides.{nat_tests}
use lib.Chars.{codes}
use Rattle.hum_score.proofs.Cases.{by_bool}
use Rattle.hum_columns.specs.Spread.{JoinedToken, joins, touches, joins_in, spread, one_by_one, before_last}
use Rattle.hum_places.specs.Spreading.{piece_at, is_joined, join_number, is_gone, place_in, Stands, IsElsewhere}
use Rattle.hum_places.specs.Spreading.{AreOneByOne, Touch, AreSpread, SpreadsByPlace}
use Rattle.hum_places.proofs.OneWay.{equal_lists}
use Rattle.hum_places.proofs.Spreading.{shown, stand, wide, begun_all}
use Rattle.hum_places.proofs.SpreadRows.{each, so_many}

-- what keeps its place
kept_own : (ps : List JoinedToken) (t q : ℕ) → join_number ps q ≡ t + 1 → is_gone ps t q ≡ false
kept_own = grind (arith, nat_tests)

kept_other : (ps : List JoinedToken) (t q : ℕ) → is_joined ps q ≡ false → is_gone ps t q ≡ false
kept_other ps t q e = rw e refl

module _ (ps : List JoinedToken) (m : ℕ) (count : joins_in ps ≡ suc m) where
  abbrev records : List (List (List ℕ))
  records = one_by_one m ps

  standing : (t q : ℕ) → t < length records → q < length ps → is_gone ps t q ≡ false
      → Stands ps records t q (shown t (t == m) (join_number ps q) (is_joined ps q) (piece_at ps q).token)
  standing = grind (arith, nat_tests, so_many, each, slice_get, stand)

  told : (t q : ℕ) (token : List ℕ) → t < length records → q < length ps → is_gone ps t q ≡ false
      → shown t (t == m) (join_number ps q) (is_joined ps q) (piece_at ps q).token ≡ token
      → Stands ps records t q token
  told t q token below within g e = standing t q below within g ∙ ap (λ (x : List ℕ). Some x) e

  join : (t q : ℕ) → t < length records → q < length ps → is_joined ps q ≡ true → join_number ps q ≡ t + 1
      → Stands ps records t q (piece_at ps q).token
  join = grind (arith, nat_tests, told, kept_own)

  others : (t q : ℕ) → t + 1 ≡ length records → q < length ps → is_joined ps q ≡ false
      → Stands ps records t q (piece_at ps q).token
  others = grind (arith, nat_tests, so_many, told, kept_other)

  elsewhere : (t q : ℕ) → t < length records → q < length ps → is_gone ps t q ≡ false → IsElsewhere ps records t q
      → Stands ps records t q (codes "*")
  elsewhere = grind (arith, nat_tests, told, so_many)

  one_by_one_so : AreOneByOne ps records
  one_by_one_so = grind (arith, nat_tests, so_many, begun_all, join, others, elsewhere, each, wide)

-- joins that touch
found : (after : Bool) (ps : List JoinedToken) → touches after ps ≡ true
    → ((after ≡ true) × ((piece_at ps 0).begins ≡ true)) ⊎ ((q : ℕ) × Touch ps q)
found after [] h = cc
found after (p ∷ ps) h = by_bool (after && p.begins)
    (λ w. inl (both after p.begins w))
    (λ w. inr (next (found (joins p) ps (rw w at h))))
  where
    both : (a b : Bool) → (a && b) ≡ true → (a ≡ true) × (b ≡ true)
    both = grind (arith, nat_tests)

    next : ((joins p ≡ true) × ((piece_at ps 0).begins ≡ true)) ⊎ ((q : ℕ) × Touch ps q) → (q : ℕ) × Touch (p ∷ ps) q
    next (inl h) = (0, (h.0, h.1))
    next (inr h) =
        let same : suc h.0 + 1 ≡ suc (h.0 + 1) = omega arith in
        (suc h.0, (h.1.0, ap (λ (k : ℕ). (piece_at (p ∷ ps) k).begins) same ∙ h.1.1))

touching : (after : Bool) (ps : List JoinedToken) (q : ℕ) → Touch ps q → touches after ps ≡ true
touching after [] q h = grind (arith, nat_tests)
touching after (p ∷ ps) zero h = grind (arith, common_steps)
touching after (p ∷ ps) (suc q) h =
    let same : suc q + 1 ≡ suc (q + 1) = omega arith in
    let rest = touching (joins p) ps q (h.0, ap (λ (k : ℕ). (piece_at (p ∷ ps) k).begins) (sym same) ∙ h.1) in
    rw rest (either (after && p.begins))
  where
    either : (a : Bool) → (a || true) ≡ true
    either = grind (arith, nat_tests)

-- then there are some
some : (ps : List JoinedToken) → (piece_at ps 0).begins ≡ true → 1 ≤ joins_in ps
some = grind (arith, common_steps)

some_touch : (after : Bool) (ps : List JoinedToken) → touches after ps ≡ true → 1 ≤ joins_in ps
some_touch after [] h = cc
some_touch after (p ∷ ps) h = by_bool p.begins
    (λ w. rw w (omega arith))
    (λ w. rw w (some_touch (joins p) ps (without after w h)))
  where
    without : (after : Bool) → p.begins ≡ false → ((after && p.begins) || touches (joins p) ps) ≡ true → touches (joins p) ps ≡ true
    without = grind (arith, nat_tests)

before_is : (n : ℕ) → 1 ≤ n → n ≡ suc (before_last n)
before_is = grind (arith, nat_tests)

so_spread : (ps : List JoinedToken) → AreSpread ps (spread ps)
so_spread ps = record {
  single = λ none. by_bool (touches false ps)
      (λ w. elim (found false ps w) [ inl h ↦ let e = h.0 in cc | inr h ↦ absurd (none h.0 h.1) ])
      (λ w. rw w refl);
  apart = λ q h.
      let w = touching false ps q h in
      rw w (one_by_one_so ps (before_last (joins_in ps)) (before_is (joins_in ps) (some_touch false ps w)));
}

-- Records that are so are one list.
by_index : {X : Type 0} (d : X) (xs ys : List X) → length xs ≡ length ys
    → ((i : ℕ) → i < length xs → slice_index_or xs i d ≡ slice_index_or ys i d) → xs ≡ ys
by_index d [] [] h at = refl
by_index d [] (y ∷ ys) h at = absurd (omega (arith, h))
by_index d (x ∷ xs) [] h at = absurd (omega (arith, h))
by_index d (x ∷ xs) (y ∷ ys) h at =
    let first : x ≡ y = at 0 (omega arith) in
    let rest = by_index d xs ys (omega (arith, h)) (λ i l. at (suc i) (omega (arith, l))) in
    rw (first, rest) refl

-- the token that has a place
token_of : (ps : List JoinedToken) (t i n : ℕ) → i < place_in ps t n
    → (q : ℕ) × (q < n) × (is_gone ps t q ≡ false) × (place_in ps t q ≡ i)
token_of ps t i zero h = absurd (omega (arith, h))
token_of ps t i (suc n) h = by_bool (is_gone ps t n)
    (λ w.
    let r = token_of ps t i n (rw w at h) in
    let less = r.1 in
    (r.0, omega (arith, less), r.2, r.3))
    (λ w.
    let below : i < place_in ps t n + 1 = rw w at h in
    by_bool (nat_lt i (place_in ps t n))
    (λ v.
    let r = token_of ps t i n (grind (arith, nat_tests, v)) in
    let less = r.1 in
    (r.0, omega (arith, less), r.2, r.3))
    (λ v. let same : place_in ps t n ≡ i = grind (arith, nat_tests, v, below) in (n, omega arith, w, same)))

module _ (ps : List JoinedToken) (a b : List (List (List ℕ))) (x : AreOneByOne ps a) (y : AreOneByOne ps b) where
  as_many : length a ≡ length b
  as_many = x.count ∙ sym y.count

  both : (t q : ℕ) (token : List ℕ) → Stands ps a t q token → Stands ps b t q token
      → slice_get (slice_index_or a t []) (place_in ps t q) ≡ slice_get (slice_index_or b t []) (place_in ps t q)
  both t q token e f = e ∙ sym f

  same_token : (t q : ℕ) → t < length a → q < length ps → is_gone ps t q ≡ false
      → slice_get (slice_index_or a t []) (place_in ps t q) ≡ slice_get (slice_index_or b t []) (place_in ps t q)
  same_token = grind (arith, nat_tests)

  same_row : (t : ℕ) → t < length a → slice_index_or a t [] ≡ slice_index_or b t []
  same_row t below =
      let more = as_many in
      let size = x.width t below in
      let other = y.width t (omega (arith, below, more)) in
      equal_lists (slice_index_or a t []) (slice_index_or b t []) (size ∙ sym other)
      (λ i h.
      let r = token_of ps t i (length ps) (omega (arith, h, size)) in
      let e = same_token t r.0 below r.1 r.2 in
      rw r.3 at e)

  pub one_list : a ≡ b
  one_list = by_index [] a b as_many same_row

pub by_place : (pieces : List JoinedToken) → SpreadsByPlace pieces
by_place ps = (
  so_spread ps,
  λ records h. by_bool (touches false ps)
      (λ w. elim (found false ps w) [
        | inl v ↦ let e = v.0 in cc
        | inr v ↦ one_list ps records (spread ps) (h.apart v.0 v.1) ((so_spread ps).apart v.0 v.1)
      ])
      (λ w.
      let none = λ (q : ℕ) (v : Touch ps q). let e = touching false ps q v in absurd (differ w e) in
      h.single none ∙ sym ((so_spread ps).single none)),
)
  where
    differ : {b : Bool} → b ≡ false → b ≡ true → ⊥
    differ e f = cc

-- Passages, as an item of a list names them.
use Rattle.std.proofs.lemmas.Bool.Decides.{nat_tests}
use Rattle.std.proofs.Common.{◌≡◌, ◌<◌, ◌==◌, refl, ◌∙◌, ℕ, true, false}
use Rattle.std.proofs.Common.{List, [], ◌∷◌, ◌++◌, None, Some, Option, lit<, arith}
use Rattle.std.specs.Prelude.{nat_le}
use Rattle.std.specs.Str.{all_ascii_digits}
use lib.Chars.{codes}
use Rattle.std.proofs.lemmas.Bool.{eqb-true, leb-true, le-leb, ne_eqb}
use Rattle.std.proofs.lemmas.List.{append-nil}
use Rattle.hum_choices.specs.declared.yank.YankRange.{YankRange}
use Rattle.hum_choices.specs.declared.yank.YankRange.TheVariants.{Through, Onward, ToEnd, FromEnd}
use Rattle.hum_score.specs.Spelling.{has_byte}
use Rattle.hum_options.specs.Cutting.{front, remainder}
use Rattle.hum_options.specs.Numbers.{number_of, positive_of}
use Rattle.hum_options.specs.Passages.{greatest, IsPassage, IsDistance, ArePassages, one, span, onward, to_end}
use Rattle.hum_options.specs.Passages.{last, before_last, last_few, few_to_end}
use Rattle.hum_options.specs.Passages.{behind_dollar, distance_of, in_order, through, from_number, near_end}
use Rattle.hum_options.specs.Passages.{from_distance, by_distance, from_last, by_number, passages_of}
use Rattle.hum_options.proofs.Choices.{chosen}
use Rattle.hum_options.proofs.Cuts.{whole, rest_begins, cut_alone, cut_before}
use Rattle.hum_options.proofs.Digits.{number_is, number_alone, positive_is, positive_alone, number_digits}
use Rattle.hum_options.proofs.Digits.{number_lacks, other_byte, joined_lack}

abbrev BeginsWithDash : List ℕ → Type 0
BeginsWithDash left = (b : ℕ) (bytes : List ℕ) → left ≡ b ∷ bytes → b ≡ 45

-- `$`, or `$-n`
data IsOffset : List ℕ → ℕ → Type 0 where
  none : IsOffset (codes "$") 0
  some : {n : List ℕ} {y : ℕ} → IsDistance n y → IsOffset (codes "$-" ++ n) y

distance_is : (text : List ℕ) {y : ℕ} → distance_of text ≡ Some y → IsOffset text y
distance_is [] e = cc
distance_is (b ∷ text) {y} e =
    let first = chosen (b == 36) (behind_dollar text) y e in rw (eqb-true b 36 first.0) (behind text first.1)
  where
    behind : (text : List ℕ) → behind_dollar text ≡ Some y → IsOffset (36 ∷ text) y
    behind [] e = let none_before : y ≡ 0 = cc in rw none_before none
    behind (d ∷ n) e =
        let dash = chosen (d == 45) (positive_of greatest n) y e in
        rw (eqb-true d 45 dash.0) (some (positive_is (lit< tt) dash.1))

not_zero : {n : List ℕ} {y : ℕ} → IsDistance n y → (y == 0) ≡ false
not_zero {n} {y} h = ne_eqb y 0 (λ none. omega (arith, none, h.above))

distance_alone : {text : List ℕ} {y : ℕ} → IsOffset text y → distance_of text ≡ Some y
distance_alone none = refl
distance_alone (some h) = positive_alone (lit< tt) h

-- from a number on
module _ {a : List ℕ} {x : ℕ} {range : YankRange} (h : IsPassage a x) where
  spans : (b : List ℕ) (o : Option ℕ) → number_of greatest b ≡ o → in_order x o ≡ Some range
      → ArePassages (a ++ (codes "-" ++ b)) range
  spans b None was e = cc
  spans b (Some y) was e =
      let test = chosen (nat_le x y) (Some (Through x y)) range e in
      let same : range ≡ Through x y = let told = test.1 in cc in
      rw same (span h (number_is (lit< tt) was) (leb-true x y test.0))

  to_offset : {text : List ℕ} {y : ℕ} → IsOffset text y → through x text (Some y) ≡ Some range
      → ArePassages (a ++ (codes "-" ++ text)) range
  to_offset none e = let same : range ≡ Onward x = cc in rw same (onward h)
  to_offset (some {n} {y} k) e =
      let told : Some (ToEnd x y) ≡ Some range = rw (not_zero k) at e in
      let same : range ≡ ToEnd x y = cc in
      rw same (to_end h k)

  reaching : (b : List ℕ) (o : Option ℕ) → distance_of b ≡ o → through x b o ≡ Some range
      → ArePassages (a ++ (codes "-" ++ b)) range
  reaching b None was e = spans b (number_of greatest b) refl e
  reaching b (Some y) was e = to_offset (distance_is b was) e

numbered : (a left : List ℕ) → BeginsWithDash left → (range : YankRange) (o : Option ℕ) → number_of greatest a ≡ o
    → from_number left o ≡ Some range → ArePassages (a ++ left) range
numbered a left begins range None was e = cc
numbered a [] begins range (Some x) was e =
    let same : range ≡ Through x x = cc in rw (append-nil, same) (one (number_is (lit< tt) was))
numbered a (dash ∷ b) begins range (Some x) was e =
    rw (begins dash b refl) (reaching (number_is (lit< tt) was) b (distance_of b) refl e)

-- from so many before the last on
module _ {m : List ℕ} {x : ℕ} {range : YankRange} (h : IsDistance m x) where
  ends_with : {text : List ℕ} {y : ℕ} → IsOffset text y → near_end x (Some y) ≡ Some range
      → ArePassages (codes "$-" ++ (m ++ (codes "-" ++ text))) range
  ends_with none e =
      let test = chosen (nat_le 0 x) (Some (FromEnd x 0)) range e in
      let same : range ≡ FromEnd x 0 = let told = test.1 in cc in
      rw same (last_few h)
  ends_with (some {n} {y} k) e =
      let test = chosen (nat_le y x) (Some (FromEnd x y)) range e in
      let same : range ≡ FromEnd x y = let told = test.1 in cc in
      rw same (few_to_end h k (leb-true y x test.0))

  ending : (text : List ℕ) (o : Option ℕ) → distance_of text ≡ o → near_end x o ≡ Some range
      → ArePassages (codes "$-" ++ (m ++ (codes "-" ++ text))) range
  ending text None was e = cc
  ending text (Some y) was e = ends_with (distance_is text was) e

distant : (m left : List ℕ) → BeginsWithDash left → (range : YankRange) (o : Option ℕ) → positive_of greatest m ≡ o
    → from_distance left o ≡ Some range → ArePassages (codes "$-" ++ (m ++ left)) range
distant m left begins range None was e = cc
distant m [] begins range (Some x) was e =
    let same : range ≡ FromEnd x x = cc in rw (append-nil, same) (before_last (positive_is (lit< tt) was))
distant m (dash ∷ b) begins range (Some x) was e =
    rw (begins dash b refl) (ending (positive_is (lit< tt) was) b (distance_of b) refl e)

from_last_are : (text : List ℕ) (range : YankRange) → from_last text ≡ Some range → ArePassages (36 ∷ text) range
from_last_are [] range e = let same : range ≡ FromEnd 0 0 = cc in rw same last
from_last_are (b ∷ text) range e =
    let dash = chosen (b == 45) (by_distance text) range e in
    let are = distant (front 45 text) (remainder 45 text) (rest_begins 45 text) range _ refl dash.1 in
    rw (eqb-true b 45 dash.0) (rw (whole 45 text) at are)

by_number_are : (item : List ℕ) (range : YankRange) → by_number item ≡ Some range → ArePassages item range
by_number_are item range e =
    let are = numbered (front 45 item) (remainder 45 item) (rest_begins 45 item) range _ refl e in
    rw (whole 45 item) at are

pub passages_are : (item : List ℕ) (range : YankRange) → passages_of item ≡ Some range → ArePassages item range
passages_are = grind (arith, nat_tests, eqb-true, from_last_are, by_number_are)

-- an item that begins with a number
begun : (a more : List ℕ) {x : ℕ} → IsPassage a x → passages_of (a ++ more) ≡ by_number (a ++ more)
begun [] more h = let e = number_alone (lit< tt) h in cc
begun (b ∷ a) more h = rw (other_byte 36 b a (lit< tt) (number_digits (lit< tt) h)) refl

no_distance : (text : List ℕ) → all_ascii_digits text ≡ true → distance_of text ≡ None
no_distance = grind (arith, nat_tests)

passage_lacks : {text : List ℕ} {x : ℕ} (byte : ℕ) → byte < 48 → IsPassage text x → has_byte byte text ≡ false
passage_lacks byte low h = number_lacks byte (lit< tt) low h

-- behind the dash of a number
at_dash : (a b : List ℕ) {x : ℕ} → IsPassage a x → passages_of (a ++ (codes "-" ++ b)) ≡ through x b (distance_of b)
at_dash = grind (arith, nat_tests, cut_before, passage_lacks, lit<, begun, number_alone)

-- behind the dash of a distance
at_second_dash : (m b : List ℕ) {x : ℕ} → IsDistance m x
    → passages_of (codes "$-" ++ (m ++ (codes "-" ++ b))) ≡ near_end x (distance_of b)
at_second_dash = grind (arith, nat_tests, cut_before, passage_lacks, lit<, positive_alone)

pub passages_alone : (item : List ℕ) (range : YankRange) → ArePassages item range → passages_of item ≡ Some range
passages_alone _ _ (one {a} h) =
    let cut = cut_alone 45 a (passage_lacks 45 (lit< tt) h) in
    let first = rw append-nil at (begun a [] h) in
    first ∙ rw (cut.1, cut.0, number_alone (lit< tt) h) refl
passages_alone _ _ (span {a} {b} {x} {y} h k order) =
    at_dash a b h ∙ rw (no_distance b (number_digits (lit< tt) k), number_alone (lit< tt) k, le-leb x y order) refl
passages_alone _ _ (onward {a} h) = at_dash a (codes "$") h
passages_alone _ _ (to_end {a} {n} h k) =
    at_dash a (codes "$-" ++ n) h ∙ rw (distance_alone (some k), not_zero k) refl
passages_alone _ _ last = refl
passages_alone _ _ (before_last {m} h) =
    grind (arith, nat_tests, cut_alone, passage_lacks, lit<, positive_alone)
passages_alone _ _ (last_few {m} {x} h) = at_second_dash m (codes "$") h ∙ rw (le-leb 0 x (omega arith)) refl
passages_alone _ _ (few_to_end {m} {n} {x} {y} h k order) =
    at_second_dash m (codes "$-" ++ n) h ∙ rw (distance_alone (some k), le-leb y x order) refl

pub passages_lack : (item : List ℕ) (range : YankRange) → ArePassages item range → has_byte 44 item ≡ false
passages_lack = grind (arith, nat_tests, passage_lacks, lit<, joined_lack)

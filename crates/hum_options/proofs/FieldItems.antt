-- Fields, as an item of a list names them.
use Rattle.std.proofs.lemmas.Bool.Decides.{nat_tests}
use Rattle.std.proofs.Common.{◌≡◌, ◌<◌, refl, ◌∙◌, ℕ, true, false, arith}
use Rattle.std.proofs.Common.{List, [], ◌∷◌, ◌++◌, None, Some, Option, lit<}
use Rattle.std.specs.Prelude.{nat_le}
use Rattle.std.specs.Str.{all_ascii_digits, bytes_eq}
use lib.Chars.{codes}
use Rattle.std.proofs.lemmas.Bool.{leb-true, le-leb}
use Rattle.std.proofs.lemmas.List.{append-nil}
use Rattle.std.proofs.lemmas.Slice.Eq.{bytes_eq-Decides}
use Rattle.hum_choices.specs.declared.extract.FieldRange.{FieldRange}
use Rattle.hum_score.specs.Spelling.{has_byte}
use Rattle.hum_score.proofs.Cases.{by_bool}
use Rattle.hum_options.specs.Cutting.{front, remainder}
use Rattle.hum_options.specs.Fields.{IsCount, count_of, through, onward, last_field, AreFields, one, last, span}
use Rattle.hum_options.specs.Fields.{to_last, in_order, from_number, by_dash, fields_of}
use Rattle.hum_options.proofs.Choices.{chosen, mapped}
use Rattle.hum_options.proofs.Cuts.{whole, rest_begins, cut_alone, cut_before}
use Rattle.hum_options.proofs.Digits.{positive_is, positive_alone, number_digits, number_lacks, other_byte, joined_lack}

pub count_is : (text : List ℕ) (n : ℕ) → count_of text ≡ Some n → IsCount text n
count_is text n e = positive_is (lit< tt) e

pub count_alone : (text : List ℕ) (n : ℕ) → IsCount text n → count_of text ≡ Some n
count_alone text n h = positive_alone (lit< tt) h

-- behind a dash
behind_are : (a b : List ℕ) (m : ℕ) (range : FieldRange) → IsCount a m → from_number b (Some m) ≡ Some range
    → AreFields (a ++ (codes "-" ++ b)) range
behind_are a b m range h e = by_bool (bytes_eq b (codes "$")) to_the_last (λ w. between (count_of b) refl (rw w at e))
  where
    to_the_last : bytes_eq b (codes "$") ≡ true → AreFields (a ++ (codes "-" ++ b)) range
    to_the_last w =
        let told : Some (onward m) ≡ Some range = rw w at e in
        let same : range ≡ onward m = cc in
        rw ((bytes_eq-Decides b (codes "$")).0 w, same) (to_last h)

    between : (o : Option ℕ) → count_of b ≡ o → in_order m o ≡ Some range → AreFields (a ++ (codes "-" ++ b)) range
    between None was none = cc
    between (Some n) was found =
        let test = chosen (nat_le m n) (Some (through m n)) range found in
        let same : range ≡ through m n = let told = test.1 in cc in
        rw same (span h (count_is b n was) (leb-true m n test.0))

by_dash_are : (a left : List ℕ) → ((b : ℕ) (bytes : List ℕ) → left ≡ b ∷ bytes → b ≡ 45) → (range : FieldRange)
    → by_dash a left ≡ Some range → AreFields (a ++ left) range
by_dash_are a [] begins range e = rw append-nil (by_bool (bytes_eq a (codes "$")) the_last one_field)
  where
    the_last : bytes_eq a (codes "$") ≡ true → AreFields a range
    the_last w =
        let told : Some last_field ≡ Some range = rw w at e in
        let same : range ≡ last_field = cc in
        rw ((bytes_eq-Decides a (codes "$")).0 w, same) last

    one_field : bytes_eq a (codes "$") ≡ false → AreFields a range
    one_field w =
        let found = mapped (λ (m : ℕ). through m m) (count_of a) range (rw w at e) in
        rw (← found.2) (one (count_is a found.0 found.1))
by_dash_are a (dash ∷ b) begins range e = counted (count_of a) refl e
  where
    counted : (o : Option ℕ) → count_of a ≡ o → from_number b o ≡ Some range → AreFields (a ++ dash ∷ b) range
    counted None was none = cc
    counted (Some m) was found = rw (begins dash b refl) (behind_are a b m range (count_is a m was) found)

pub fields_are : (item : List ℕ) (range : FieldRange) → fields_of item ≡ Some range → AreFields item range
fields_are item range e =
    let are = by_dash_are (front 45 item) (remainder 45 item) (rest_begins 45 item) range e in rw (whole 45 item) at are

digits_no_dollar : (text : List ℕ) → all_ascii_digits text ≡ true → bytes_eq text (codes "$") ≡ false
digits_no_dollar [] all = refl
digits_no_dollar (b ∷ text) all = rw (other_byte 36 b text (lit< tt) all) refl

count_no_dollar : {text : List ℕ} {n : ℕ} → IsCount text n → bytes_eq text (codes "$") ≡ false
count_no_dollar {text} h = digits_no_dollar text (number_digits (lit< tt) h.number)

count_lacks : {text : List ℕ} {n : ℕ} (byte : ℕ) → byte < 48 → IsCount text n → has_byte byte text ≡ false
count_lacks byte low h = number_lacks byte (lit< tt) low h.number

at_dash : (a b : List ℕ) (m : ℕ) → IsCount a m → fields_of (a ++ (codes "-" ++ b)) ≡ from_number b (Some m)
at_dash = grind (arith, nat_tests, cut_before, count_lacks, lit<, count_alone)

pub fields_alone : (item : List ℕ) (range : FieldRange) → AreFields item range → fields_of item ≡ Some range
fields_alone _ _ (one {a} {m} h) =
    grind (arith, nat_tests, cut_alone, count_lacks, lit<, count_no_dollar, count_alone)
fields_alone _ _ last = refl
fields_alone _ _ (span {a} {b} {m} {n} h k order) =
    at_dash a b m h ∙ rw (count_no_dollar k, count_alone b n k, le-leb m n order) refl
fields_alone _ _ (to_last {a} {m} h) = at_dash a (codes "$") m h

pub fields_lack : (item : List ℕ) (range : FieldRange) → AreFields item range → has_byte 44 item ≡ false
fields_lack = grind (arith, nat_tests, count_lacks, lit<, joined_lack)

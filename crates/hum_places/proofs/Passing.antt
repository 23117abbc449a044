-- The passage of a record, by the nearest marker above it.
use Rattle.std.proofs.Common.{◌≡◌, ◌∙◌, refl, sym, ap, ℕ, zero, suc, ◌<◌, ◌≤◌, ◌^◌, arith}
use Rattle.std.proofs.Common.{Bool, true, false, nat_le, decimal, List, [], ◌∷◌, length, drop, Option, None, rules}
use Rattle.std.specs.List.{list_any}
use Rattle.std.specs.Str.{all_ascii_digits}
use Rattle.std.proofs.lemmas.Bool.Decides.{nat_tests}
use Rattle.std.proofs.lemmas.Str.Parse.{IsNumeralModel, numerals_by_fold}
use Rattle.std.proofs.lemmas.Fmt.{decimal_nonempty, digits_value-decimal}
use Rattle.hum_score.specs.Row.{Row}
use Rattle.hum_score.proofs.Cases.{by_bool}
use Rattle.hum_yank.specs.Passages.{Form, Lines, Numbers, Occurrences, Labels, is_marker, is_last, from_marker, stretch, has_ended}
use Rattle.hum_yank.specs.Passages.{value_of, at_most, number_of, number_at, passage_of}
use Rattle.hum_places.specs.Passages.{row_at, IsNearest, HasEnded, IsByNearest, AreNumbers}
use Rattle.hum_places.proofs.Cutting.{no_false}

-- from the nearest marker on
from_nearest : (form : Form) (seen : List Row) (k : ℕ) → IsNearest form seen k → from_marker form seen ≡ drop k seen
from_nearest form [] k w = let h = w.within in absurd (omega (arith, h))
from_nearest form (row ∷ seen) zero w = rw w.marker refl
from_nearest form (row ∷ seen) (suc k) w =
    let h = w.within in
    rw (w.first zero (omega arith))
    (from_nearest form seen k (record { within = omega (arith, h); marker = w.marker; first = λ i l. w.first (suc i) (omega (arith, l)) }))

from_none : (form : Form) (seen : List Row) → ((i : ℕ) → i < length seen → is_marker form (row_at seen i) ≡ false) → from_marker form seen ≡ []
from_none form [] none = refl
from_none form (row ∷ seen) none = rw (none zero (omega arith)) (from_none form seen (λ i l. none (suc i) (omega (arith, l))))

-- whether the passage has ended, up to its marker
ended_at : (form : Form) (seen : List Row) (k : ℕ) → IsNearest form seen k → has_ended form seen ≡ true
    → (i : ℕ) × (i ≤ k) × (is_last form (row_at seen i) ≡ true)
ended_at form [] k w e = no_false e
ended_at form (row ∷ seen) zero w e = grind (arith, nat_tests)
ended_at form (row ∷ seen) (suc k) w e =
    let h = w.within in
    let next : IsNearest form seen k = record { within = omega (arith, h); marker = w.marker; first = λ i l. w.first (suc i) (omega (arith, l)) } in
    by_bool (is_last form row)
    (λ v. (zero, omega arith, v))
    (λ v.
    let more = ended_at form seen k next (rw (w.first zero (omega arith), v) at e) in
    let less = more.1 in
    (suc more.0, omega (arith, less), more.2))

from_ended : (form : Form) (seen : List Row) (k i : ℕ) → IsNearest form seen k → i ≤ k → is_last form (row_at seen i) ≡ true
    → has_ended form seen ≡ true
from_ended form [] k i w l e = let h = w.within in absurd (omega (arith, h))
from_ended form (row ∷ seen) k zero w l e = rw e refl
from_ended form (row ∷ seen) zero (suc i) w l e = absurd (omega (arith, l))
from_ended form (row ∷ seen) (suc k) (suc i) w l e =
    let h = w.within in
    let next : IsNearest form seen k = record { within = omega (arith, h); marker = w.marker; first = λ i l. w.first (suc i) (omega (arith, l)) } in
    let more = from_ended form seen k i next (omega (arith, l)) e in
    by_bool (is_last form row) (λ v. rw (w.first zero (omega arith), v) refl) (λ v. rw (w.first zero (omega arith), v) more)

-- the nearest marker above, where the record is none
above : (form : Form) (past : List Row) (row : Row) (k : ℕ) → IsNearest form (row ∷ past) (suc k) → IsNearest form past k
above form past row k w = let h = w.within in record {
  within = omega (arith, h);
  marker = w.marker;
  first = λ i l. w.first (suc i) (omega (arith, l));
}

off_of : (b : Bool) → (b ≡ true → ⊥) → b ≡ false
off_of = grind (arith, nat_tests)

any_none : (form : Form) (seen : List Row) → ((row : Row) → is_last form row ≡ false) → list_any (is_last form) seen ≡ false
any_none form [] none = refl
any_none form (row ∷ seen) none = rw (none row) (any_none form seen none)

ended_none : {X : Type 0} (form : Form) (past : List Row) → ((row : Row) → is_last form row ≡ false) → has_ended form past ≡ true → X
ended_none form past none e = no_false (sym (any_none form (stretch form past) none) ∙ e)

-- where passages end by a test, nothing bears a number before the first marker
no_number : (form : Form) (past : List Row) → has_ended form past ≡ true → ◌≡◌ {A = Option ℕ} None (number_at form [])
no_number Lines past e = ended_none Lines past (λ row. refl) e
no_number (Numbers end_of) past e = ended_none (Numbers end_of) past (λ row. refl) e
no_number (Occurrences begins ends) past e = refl
no_number (Labels name) past e = refl

pub by_nearest : (form : Form) (past : List Row) (row : Row) → IsByNearest form past row
by_nearest form past row = record { inside = inside; behind = behind; before = before }
  where
    inside : (k : ℕ) → IsNearest form (row ∷ past) k → ((i : ℕ) → ¬ HasEnded form (row ∷ past) k i)
        → passage_of form past row ≡ number_at form (drop k (row ∷ past))
    inside zero w open_so = rw w.marker refl
    inside (suc k) w open_so =
        let next = above form past row k w in
        let goes : has_ended form past ≡ false = off_of (has_ended form past) (λ e.
        let at = ended_at form past k next e in
        let less = at.1 in
        open_so (suc at.0) (record { above = omega arith; within = omega (arith, less); ends = at.2 })) in
        let at = from_nearest form past k next in
        rw (w.first zero (omega arith), goes, at) refl

    behind : (k i : ℕ) → IsNearest form (row ∷ past) k → HasEnded form (row ∷ past) k i → passage_of form past row ≡ None
    behind k zero w e = let l = e.above in absurd (omega (arith, l))
    behind zero (suc i) w e = let l = e.within in absurd (omega (arith, l))
    behind (suc k) (suc i) w e =
        let l = e.within in
        let goes = from_ended form past k i (above form past row k w) (omega (arith, l)) e.ends in
        rw (w.first zero (omega arith), goes) refl

    before : ((i : ℕ) → i < length (row ∷ past) → is_marker form (row_at (row ∷ past) i) ≡ false) → passage_of form past row ≡ number_at form []
    before none =
        let own = none zero (omega arith) in
        let at = from_none form past (λ i l. none (suc i) (omega (arith, l))) in
        by_bool (has_ended form past)
        (λ e. rw (own, e) (no_number form past e))
        (λ e. rw (own, e, at) refl)

-- ---- digits

own : IsNumeralModel (λ ds. all_ascii_digits ds ≡ true) (value_of 0)
own = numerals_by_fold _ (search rules) value_of (search rules)

number_is : (digits : List ℕ) → 0 < length digits → number_of digits ≡ at_most (value_of 0 digits)
number_is = grind (arith, nat_tests)

of_decimal : (n : ℕ) → n < 2 ^ 64 → number_of (decimal n) ≡ at_most n
of_decimal n fits = number_is (decimal n) (decimal_nonempty n fits) ∙ ap at_most (digits_value-decimal own n fits)

pub are_numbers : AreNumbers
are_numbers = grind (arith, nat_tests, of_decimal, nat_le)

-- What is remembered of passages, after one record more.
use Rattle.std.proofs.lemmas.Bool.Decides.{nat_tests}
use Rattle.std.proofs.Common.{◌≡◌, refl, ap, ℕ, suc, ◌≤◌, Bool, true, false}
use Rattle.std.proofs.Common.{List, [], ◌∷◌, length, arith, Some}
use Rattle.std.specs.Prelude.{is_some}
use Rattle.std.specs.List.{list_any, find}
use Rattle.hum_score.specs.Row.{Row}
use Rattle.hum_yank.specs.declared.marking.Mark.{Mark}
use Rattle.hum_yank.specs.declared.marking.Mark.TheVariants.{Inside, Counted, Bears}
use Rattle.hum_yank.specs.Passages.{Form, Lines, has_value}
use Rattle.hum_yank.specs.Passages.{first_value}
use Rattle.hum_yank.specs.Passages.{is_marker, is_counted, counted, is_last}
use Rattle.hum_yank.specs.Passages.{number_at, passage_of, last_of}
use Rattle.hum_yank.specs.Marks.{mark_of, passages_of, next_passages, number_in}
use Rattle.hum_yank.specs.Marks.{last_in}

find_any : {X : Type 0} (p : X → Bool) (xs : List X) → list_any p xs ≡ is_some (find p xs)
find_any p [] = refl
find_any p (x ∷ xs) = grind (arith, nat_tests, find_any p xs)

first_has : (test : List ℕ → Bool) (row : Row) → has_value test row ≡ is_some (first_value test row)
first_has = grind (arith, nat_tests, find_any)

all_counted : (seen : List Row) → counted Lines seen ≡ length seen
all_counted [] = refl
all_counted (row ∷ past) = ap suc (all_counted past)

-- what a mark says of a record
abbrev MarkIs : Form → Row → Mark → Type 0
MarkIs form row Inside = (is_marker form row ≡ false) × (is_counted form row ≡ false)
MarkIs form row Counted = (is_marker form row ≡ true) × (is_counted form row ≡ true)
    × ((past : List Row) → number_at form (row ∷ past) ≡ Some (counted form (row ∷ past)))
MarkIs form row (Bears n) = (is_marker form row ≡ true) × (is_counted form row ≡ false)
    × ((past : List Row) → number_at form (row ∷ past) ≡ n)

mark_is : (form : Form) (row : Row) → MarkIs form row (mark_of form row)
mark_is = grind (arith, nat_tests, all_counted, first_has)

next_by : (form : Form) (row : Row) (past : List Row) (mark : Mark) → MarkIs form row mark
    → next_passages (passages_of form past) mark (is_last form row) ≡ passages_of form (row ∷ past)
next_by = grind (arith, nat_tests)

number_by : (form : Form) (row : Row) (past : List Row) (mark : Mark) → MarkIs form row mark
    → number_in (passages_of form past) mark ≡ passage_of form past row
number_by = grind (arith, nat_tests)

pub next_is : (form : Form) (row : Row) (past : List Row) → next_passages (passages_of form past)
    (mark_of form row) (is_last form row) ≡ passages_of form (row ∷ past)
next_is form row past = next_by form row past (mark_of form row) (mark_is form row)

pub number_is : (form : Form) (row : Row) (past : List Row) → number_in (passages_of form past)
    (mark_of form row) ≡ passage_of form past row
number_is form row past = number_by form row past (mark_of form row) (mark_is form row)

pub last_is : (form : Form) (seen : List Row) → last_in form (passages_of form seen) ≡ last_of form
    seen
last_is = grind (arith, nat_tests, all_counted)

pub counted_few : (form : Form) (seen : List Row) → counted form seen ≤ length seen
counted_few form [] = omega arith
counted_few form (row ∷ past) = grind (arith, nat_tests, counted_few form past)

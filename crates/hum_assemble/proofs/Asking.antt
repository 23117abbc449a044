-- What is known of the sources once the record that was wanted is put.
use Rattle.std.proofs.lemmas.Grind.{common_steps}
use Rattle.std.proofs.lemmas.Bool.Decides.{nat_tests}
use Rattle.std.proofs.Common.{◌≡◌, ◌∙◌, refl, sym, ap, ℕ, zero, suc, ◌+◌, ◌<◌, Bool, true, false, cond}
use Rattle.std.proofs.Common.{◌&&◌, ◌||◌, List, [], ◌∷◌, length, take, drop, set}
use Rattle.std.proofs.Common.{get_or, arith, add-one}
use Rattle.std.specs.Prelude.{Option, Some, option_map}
use Rattle.std.specs.List.{list_any, position_from}
use Rattle.std.proofs.lemmas.Option.{none-some}
use Rattle.hum_score.specs.Row.{Row}
use Rattle.hum_stage.specs.declared.faults.End.{End}
use Rattle.hum_assemble.specs.declared.places.Next.TheVariants.{Wants, Over as NothingMore}
use Rattle.hum_assemble.specs.Source.{Source}
use Rattle.hum_assemble.specs.Merge.{ahead, ahead_open}
use Rattle.hum_assemble.specs.Round.{is_asked, is_missing, is_lost, any_due, AllKnown}
use Rattle.hum_assemble.specs.Head.{AllLawful, AreLawful}

-- The first that is missing lies behind those that are known.
pub behind : (going : Bool) (n i : ℕ) (ss : List Source) → AllKnown going (take n ss)
    → position_from (is_missing going) i ss ≡ position_from (is_missing going) (i + n) (drop n ss)
behind going (suc n) i (s ∷ ss) k = grind (arith, nat_tests, behind going n (i + 1) ss k.1)
behind going n i ss h = grind (arith, nat_tests)

-- Places that are counted from further on are greater by as much.
pub counted_on : (going : Bool) (i k : ℕ) (ss : List Source)
    → position_from (is_missing going) (i + k) ss
    ≡ option_map (λ j. i + j) (position_from (is_missing going) k ss)
counted_on going i k [] = refl
counted_on going i k (s ∷ ss) = grind (arith, nat_tests, counted_on going i (k + 1) ss)

pub found_below : (going : Bool) (i j : ℕ) (ss : List Source)
    → position_from (is_missing going) i ss ≡ Some j → j < i + length ss
found_below going i j [] h = absurd (none-some j h)
found_below going i j (s ∷ ss) h = grind (arith, nat_tests, found_below going (i + 1) j ss)

-- The first that is missing, found behind those that are known.
pub first_behind : (going : Bool) (n : ℕ) (ss : List Source) (o : Option ℕ) → AllKnown going (take n ss)
    → o ≡ position_from (is_missing going) 0 (drop n ss)
    → position_from (is_missing going) 0 ss ≡ option_map (λ j. n + j) o
first_behind going n ss o k h =
    grind (arith, nat_tests, behind going n 0 ss k, counted_on going n 0 (drop n ss))

and_false : (a : Bool) → (a && false) ≡ false
and_false = grind (arith, nat_tests)

-- who has a record shows where that stands
shows : (going : Bool) (s : Source) (row : Row) → is_missing going (record s { coming = row ∷ [] }) ≡ false
shows going s row = and_false (is_asked going s)

-- All that is asked is known up to the source that was missing first, once its record is put.
known_to : (going : Bool) (i j : ℕ) (ss : List Source) (s s' : Source) (row : Row)
    → position_from (is_missing going) i ss ≡ Some (i + j) → s' ≡ record s { coming = row ∷ [] }
    → AllKnown going (take (suc j) (set ss j s'))
known_to going i j [] s s' row h g = tt
known_to going i zero (x ∷ ss) s s' row h g = (rw g (shows going s row), tt)
known_to going i (suc j) (x ∷ ss) s s' row h g =
    grind (arith, nat_tests, known_to going (i + 1) j ss s s' row)

-- None is lost by it.
none_lost : (going : Bool) (j : ℕ) (ss : List Source) (s s' : Source) (row : Row)
    → s' ≡ record s { coming = row ∷ [] } → list_any (is_lost going) ss ≡ false
    → list_any (is_lost going) (set ss j s') ≡ false
none_lost going j [] s s' row g h = refl
none_lost going zero (x ∷ ss) s s' row g h = grind (arith, nat_tests)
none_lost going (suc j) (x ∷ ss) s s' row g h = grind (arith, nat_tests, none_lost going j ss s s' row g)

-- Who is due stays so.
pub same_due : (j : ℕ) (ss : List Source) (s s' : Source) (row : Row) → s ≡ get_or ss j s
    → s' ≡ record s { coming = row ∷ [] } → any_due (set ss j s') ≡ any_due ss
same_due (suc j) (x ∷ ss) s s' row e g = ap (λ b. x.due || b) (same_due j ss s s' row e g)
same_due j ss s s' row h k = grind (arith, common_steps)

-- Where a source is wanted none is lost, and it is the first that is missing.
first_at : (going : Bool) (ss : List Source) (given j : ℕ) (b : Bool) → list_any (is_lost going) ss ≡ b
    → cond b NothingMore (ahead_open going ss given) ≡ Wants j
    → (list_any (is_lost going) ss ≡ false) × (position_from (is_missing going) 0 ss ≡ Some j)
first_at going ss given j true e h = cc
first_at going ss given j false e h = grind (arith, nat_tests)

first_wanted : (ss : List Source) (given j : ℕ) (going : Bool) → going ≡ any_due ss
    → ahead (record { sources = ss; given = given }) ≡ Wants j
    → (list_any (is_lost going) ss ≡ false) × (position_from (is_missing going) 0 ss ≡ Some j)
first_wanted ss given j going d h =
    rw d (first_at (any_due ss) ss given j (list_any (is_lost (any_due ss)) ss) refl h)

-- What is asked is known up to the source whose record is put.
pub put_known : (ss : List Source) (given j : ℕ) (going : Bool) (s s' : Source) (row : Row)
    → going ≡ any_due ss → ahead (record { sources = ss; given = given }) ≡ Wants j
    → s' ≡ record s { coming = row ∷ [] } → AllKnown going (take (j + 1) (set ss j s'))
put_known ss given j going s s' row d h g =
    rw (add-one j) (known_to going 0 j ss s s' row
    ((first_wanted ss given j going d h).1 ∙ ap Some (omega arith)) g)

-- What can be done next once it is put.
pub put_ahead : (ss : List Source) (given j : ℕ) (going : Bool) (s s' : Source) (row : Row)
    → going ≡ any_due ss → ahead (record { sources = ss; given = given }) ≡ Wants j
    → s ≡ get_or ss j s → s' ≡ record s { coming = row ∷ [] }
    → (going ≡ any_due (set ss j s'))
    × (ahead_open going (set ss j s') given ≡ ahead (record { sources = set ss j s'; given = given }))
put_ahead ss given j going s s' row d h e g =
    let same = d ∙ sym (same_due j ss s s' row e g) in
    let none = none_lost going j ss s s' row g (first_wanted ss given j going d h).0 in
    (same, rw (sym same) (rw none refl))

-- The records that wait are lawful then, too.
pub put_lawful : (ss : List Source) (j : ℕ) (s' : Source) → AllLawful ss → AreLawful s'.path s'.coming
    → AllLawful (set ss j s')
put_lawful = grind (arith, common_steps)

pub end_lawful : (ss : List Source) (j : ℕ) (s s' : Source) (end : Option End) → AllLawful ss → s ≡ get_or ss j s
    → s' ≡ record s { ended = end } → AllLawful (set ss j s')
end_lawful = grind (arith, common_steps)

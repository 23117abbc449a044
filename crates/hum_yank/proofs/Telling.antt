-- What is kept of records tells what is decided of them.
use Rattle.std.proofs.lemmas.Bool.Decides.{nat_tests}
use Rattle.std.proofs.Common.{◌≡◌, ◌∙◌, sym, ℕ, ◌+◌, arith, Bool, true}
use Rattle.std.proofs.Common.{List, [], ◌∷◌, ◌++◌, ◌≤◌, ◌-◌, length, map, Bor, cond, Option, None}
use Rattle.hum_score.specs.Row.{Row}
use Rattle.hum_score.specs.Rules.{is_unfinished, is_closed}
use Rattle.hum_score.specs.Score.{path_after, passed}
use Rattle.hum_record.specs.Room.{room_for, rooms_for}
use Rattle.hum_stage.specs.Settles.{lasting}
use Rattle.hum_choices.specs.declared.yank.YankRange.{YankRange}
use Rattle.hum_yank.specs.declared.held.Held.{Held}
use Rattle.hum_yank.specs.Passages.{Form, last_of, passage_of}
use Rattle.hum_yank.specs.Yank.{Choice, yank, yank_numbered, kept}
use Rattle.hum_yank.specs.Yank.{last_at, to_spined}
use Rattle.hum_yank.specs.Memory.{numbered_held, held_of, adds, decided_of, answer, told, Tells}
use Rattle.hum_yank.specs.Memory.{AllTell, IsOf, AllAreOf}

numbered_tells : (o : Choice) (past : List Row) (row : Row) (rows : List Row) (number : Option ℕ)
    → yank_numbered o past row rows number ≡ told o (passed (row ∷ past) rows)
    (numbered_held o.ranges (is_unfinished (path_after past)) row number)
numbered_tells = grind (arith, nat_tests)

-- what is kept of a record that comes
pub tells : (o : Choice) (past : List Row) (row : Row) → Tells o past row
    (held_of o.ranges (is_unfinished (path_after past)) row (passage_of o.form past row))
tells = grind (arith, nat_tests, numbered_tells)

-- one more
pub tell_more : (o : Choice) (past rows : List Row) (held : List Held) (row : Row) (h : Held)
    → AllTell o past rows held → Tells o (passed past rows) row h
    → AllTell o past (rows ++ row ∷ []) (held ++ h ∷ [])
tell_more o past (q ∷ rows) (k ∷ held) row h all one =
    (all.0, tell_more o (q ∷ past) rows held row h all.1 one)
tell_more o past rows held row h k w = grind (arith, nat_tests)

-- what is kept of a record that comes is that record
numbered_is_of : (ranges : List YankRange) (within : Bool) (row : Row) (number : Option ℕ)
    → IsOf row (numbered_held ranges within row number)
numbered_is_of = grind (arith, nat_tests)

pub is_of : (ranges : List YankRange) (within : Bool) (row : Row) (number : Option ℕ)
    → IsOf row (held_of ranges within row number)
is_of = grind (arith, nat_tests, numbered_is_of)

pub are_more : (rows : List Row) (held : List Held) (row : Row) (h : Held) → AllAreOf rows held → IsOf row h
    → AllAreOf (rows ++ row ∷ []) (held ++ h ∷ [])
are_more (q ∷ rows) (k ∷ held) row h all one = (all.0, are_more rows held row h all.1 one)
are_more rows held row h k w = grind (arith, nat_tests)

-- the room of those that were looked at, and of one more
pub one_more : (seen : List (Bor Held)) (next : Bor Held) (before now one : ℕ)
    → ((rows : List Row) → AllAreOf rows (map (λ h. h.now) seen) → before ≤ rooms_for rows)
    → ((row : Row) → IsOf row next.now → one ≤ room_for row) → now ≤ before + one
    → (rows : List Row) → AllAreOf rows (map (λ h. h.now) (seen ++ next ∷ [])) → now ≤ rooms_for rows
one_more [] next before now one h o sum [] are = absurd are
one_more [] next before now one h o sum (row ∷ []) are =
    let none = h [] tt in
    let room = o row are.0 in
    omega (arith, none, room, sum)
one_more [] next before now one h o sum (row ∷ r ∷ rows) are = absurd are.1
one_more (k ∷ seen) next before now one h o sum [] are = absurd are
one_more (k ∷ seen) next before now one h o sum (row ∷ rows) are =
    let rest = one_more seen next (before - room_for row) (now - room_for row) one
    (λ others all. let room = h (row ∷ others) (are.0, all) in omega (arith, room)) o (omega (arith, sum)) rows are.1 in
    omega (arith, rest)

-- the last number after one record more
pub last_next : (form : Form) (row : Row) (past : List Row) → last_at form (row ∷ past) ≡ cond
    (adds (is_closed (path_after past)) row) (last_of form (row ∷ past)) (last_at form past)
last_next = grind (arith, nat_tests)

pub all_last : (o : Choice) (past rows : List Row) (held : List Held) → AllTell o past rows held
    → length held ≡ lasting (yank o) past rows
all_last o past (q ∷ rows) (k ∷ held) all = grind (arith, nat_tests, all_last o (q ∷ past) rows held all.1)
all_last o past rows held h = grind (arith, nat_tests)

-- once the last spine has ended, nothing is undecided
pub all_decided : (o : Choice) (past : List Row) (row : Row) (rows : List Row) → is_closed
    (path_after (passed (row ∷ past) rows)) ≡ true → yank o past row rows ≡ None → ⊥
all_decided o past row rows closed undecided =
    let held = held_of o.ranges (is_unfinished (path_after past)) row
    (passage_of o.form past row) in
    let seen = passed (row ∷ past) rows in
    by_held held (last_of o.form (to_spined seen))
    (rw closed at (sym (tells o past row rows) ∙ undecided))
  where
    by_held : (held : Held) (last : ℕ) → answer held (decided_of o.ranges true last held) ≡ None → ⊥
    by_held = grind (arith, nat_tests)

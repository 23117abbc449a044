-- Records given one after another.
use Rattle.std.proofs.lemmas.Bool.Decides.{nat_tests}
use Rattle.std.proofs.Common.{◌≡◌, ◌∙◌, refl, sym, ap, ℕ, zero, suc, ◌+◌, ◌≤◌, Bool, true}
use Rattle.std.proofs.Common.{false, cond, List, [], ◌∷◌, length, arith, map}
use Rattle.std.specs.Prelude.{Option}
use Rattle.std.specs.List.{list_any, position_from}
use Rattle.hum_score.specs.Row.{Row, text_of}
use Rattle.hum_score.specs.Spines.{Path}
use Rattle.hum_stage.specs.declared.faults.End as end
use Rattle.hum_assemble.specs.declared.places.Place.{Place}
use Rattle.hum_assemble.specs.declared.places.Next as next
use Rattle.hum_assemble.specs.declared.places.Next.TheVariants.{Gives, Refused, Wants}
use Rattle.hum_assemble.specs.declared.places.Next.TheVariants.{Over as NothingMore}
use Rattle.hum_assemble.specs.Source.{Source}
use Rattle.hum_assemble.specs.Change.{IsOpenAt}
use Rattle.hum_assemble.specs.Merge.{Merge, moved, all_moved, made}
use Rattle.hum_assemble.specs.Merge.{unless_missing, ahead, ahead_at, ahead_of}
use Rattle.hum_assemble.specs.Merge.{given_row, given_on, advanced}
use Rattle.hum_assemble.specs.Places.{is_over}
use Rattle.hum_assemble.specs.Round.{is_missing, is_lost, earliest, any_due}
use Rattle.hum_assemble.specs.Round.{takes, still_free, AllKnown}
use Rattle.hum_assemble.specs.Meaning.{gives, goes_on, total, all_given, rest}
use Rattle.hum_assemble.specs.Taking.{is_at, IsGiving}
use Rattle.hum_assemble.proofs.Taking.{or_not_false}
use Rattle.hum_assemble.proofs.Growing.{Ahead, seen, is_waiting}

abbrev pub is_giving : next.Next → Bool
is_giving (Gives p) = true
is_giving (Refused rule) = false
is_giving (Wants j) = false
is_giving NothingMore = false

pub data Doing (m : Merge) : Type 0 where
  Going : (p : Place) → ahead m ≡ Gives p → Doing m
  Resting : is_giving (ahead m) ≡ false → Doing m

pub doing : (m : Merge) → Doing m
doing m = (elim (ahead m) as (λ a. ahead m ≡ a → Doing m) [
  | Gives p ↦ λ e. Going p e
  | Refused rule ↦ λ e. Resting (ap is_giving e)
  | Wants j ↦ λ e.
      Resting (ap is_giving e)
  | NothingMore ↦ λ e. Resting (ap is_giving e)
]) refl

-- where a record is given
pub record IsGiven (going : Bool) (ss : List Source) (given : ℕ) (p : Place) : Type 0 where
  pub known : AllKnown going ss
  pub place : p ≡ earliest going ss
  pub some : is_over p ≡ false

at_gives : (going : Bool) (q p : Place) (ss : List Source) (given : ℕ)
    → ahead_at going q ss given ≡ Gives p → (p ≡ q) × (is_over q ≡ false)
at_gives = grind (arith, nat_tests)

missing_given : (going : Bool) (ss : List Source) (given : ℕ) (p : Place) (o : Option ℕ)
    → unless_missing o (ahead_at going (earliest going ss) ss given) ≡ Gives p
    → ahead_at going (earliest going ss) ss given ≡ Gives p
missing_given = grind (arith, nat_tests)

pub lost_given : (going : Bool) (ss : List Source) (given : ℕ) (p : Place) (b : Bool)
    → cond b NothingMore (unless_missing (position_from (is_missing going) 0 ss)
    (ahead_at going (earliest going ss) ss given)) ≡ Gives p
    → (b ≡ false) × (ahead_at going (earliest going ss) ss given ≡ Gives p)
lost_given going ss given p true h = cc
lost_given going ss given p false h = (refl, missing_given going ss given p _ h)

with_known : (going : Bool) (ss : List Source) (given : ℕ) (p : Place)
    → list_any (is_lost going) ss ≡ false → Ahead going ss given → AllKnown going ss
with_known = grind (arith, nat_tests)

pub is_given : (going : Bool) (ss : List Source) (given : ℕ) (p : Place)
    → ahead_of going ss given ≡ Gives p → IsGiven going ss given p
is_given going ss given p h =
    let l = lost_given going ss given p (list_any (is_lost going) ss) h in
    let a = at_gives going (earliest going ss) p ss given l.1 in
    record {
      known = with_known going ss given p l.0 (seen going ss given (ap is_waiting h));
      place = a.0;
      some = rw a.0 a.1;
    }

-- Ends stay.
pub moved_ended : (b going : Bool) (p : Place) (s : Source) → (moved b going p s).ended ≡ s.ended
moved_ended = grind (arith, nat_tests)

pub all_ended : (free going : Bool) (p : Place) (ss : List Source)
    → map (λ s. s.ended) (all_moved free going p ss) ≡ map (λ s. s.ended) ss
all_ended free going p [] = refl
all_ended free going p (s ∷ ss) = rw (moved_ended (takes free going p s) going p s, all_ended (still_free free going p s) going p ss) refl

pub still_open : (free going : Bool) (p : Place) (j : ℕ) (ss : List Source) → IsOpenAt j ss
    → IsOpenAt j (all_moved free going p ss)
still_open free going p j [] i = absurd i
still_open free going p zero (s ∷ ss) i = moved_ended (takes free going p s) going p s ∙ i
still_open free going p (suc j) (s ∷ ss) i = still_open (still_free free going p s) going p j ss i

-- Each record that is given takes one that was put.
one_less : (going : Bool) (p : Place) (path : Path) (due : Bool) (coming : List Row)
    (ended : Option end.End)
    → is_over p ≡ false
    → is_at going p (record { path = path; due = due; coming = coming; ended = ended }) ≡ true
    → length (advanced path due coming ended).coming + 1 ≡ length coming
one_less = grind (arith, nat_tests)

not_more : (b going : Bool) (p : Place) (s : Source)
    → length (moved b going p s).coming ≤ length s.coming
not_more = grind (arith, nat_tests)

pub total_le : (free going : Bool) (p : Place) (ss : List Source)
    → total (all_moved free going p ss) ≤ total ss
total_le free going p [] = omega arith
total_le free going p (s ∷ ss) = omega (arith, not_more (takes free going p s) going p s, total_le (still_free free going p s) going p ss)

pub total_less : (going : Bool) (p : Place) (ss : List Source) → is_over p ≡ false
    → list_any (is_at going p) ss ≡ true → total (all_moved true going p ss) + 1 ≤ total ss
total_less going p [] o h = cc
total_less going p (s ∷ ss) o h =
    grind (arith, nat_tests, total_less going p ss o, one_less, total_le, or_not_false)

pub earliest_at : (going : Bool) (ss : List Source) → is_over (earliest going ss) ≡ false
    → list_any (is_at going (earliest going ss)) ss ≡ true
earliest_at going [] h = cc
earliest_at going (s ∷ ss) h = grind (arith, nat_tests, earliest_at going ss)

pub takes_one : (m : Merge) (p : Place) → ahead m ≡ Gives p
    → total (given_on p m).sources + 1 ≤ total m.sources
takes_one m p h =
    let g = is_given (any_due m.sources) m.sources m.given p h in
    total_less (any_due m.sources) p m.sources g.some (rw g.place (earliest_at (any_due m.sources) m.sources (rw g.place at g.some)))

-- All records that can be given.
pub gives_going : (n : ℕ) (m : Merge) (p : Place) → ahead m ≡ Gives p
    → gives (suc n) m ≡ given_row p m ∷ gives n (given_on p m)
gives_going = grind (arith, nat_tests)

pub gives_resting : (n : ℕ) (m : Merge) → is_giving (ahead m) ≡ false → gives n m ≡ []
gives_resting zero m h = refl
gives_resting (suc n) m h = (elim (ahead m) as (λ a. is_giving a ≡ false →
    (elim a as (λ b. List Row) [
      | Gives p ↦ given_row p m ∷ gives n (given_on p m)
      | Refused rule ↦
          []
      | Wants j ↦ []
      | NothingMore ↦ []
    ]) ≡ []) [
      | Gives p ↦ λ e. cc
      | Refused rule ↦ λ e. refl
      | Wants j ↦
          λ e. refl
      | NothingMore ↦ λ e. refl
    ]) h

pub on_going : (n : ℕ) (m : Merge) (p : Place) → ahead m ≡ Gives p
    → goes_on (suc n) m ≡ goes_on n (given_on p m)
on_going n m p h = ap (λ (a : next.Next). elim a as (λ b. Merge) [ Gives q ↦ goes_on n (given_on q m) | Refused rule ↦ m | Wants j ↦ m | NothingMore ↦ m ]) h

pub on_resting : (n : ℕ) (m : Merge) → is_giving (ahead m) ≡ false → goes_on n m ≡ m
on_resting zero m h = refl
on_resting (suc n) m h = (elim (ahead m) as (λ a. is_giving a ≡ false →
    (elim a as (λ b. Merge) [
      | Gives p ↦ goes_on n (given_on p m)
      | Refused rule ↦ m
      | Wants j ↦
          m
      | NothingMore ↦ m
    ]) ≡ m) [
      | Gives p ↦ λ e. cc
      | Refused rule ↦ λ e. refl
      | Wants j ↦ λ e.
          refl
      | NothingMore ↦ λ e. refl
    ]) h

abbrev Same : ℕ → ℕ → Merge → Type 0
Same k l m = (gives k m ≡ gives l m) × (goes_on k m ≡ goes_on l m)

enough_resting : (k l : ℕ) (m : Merge) → is_giving (ahead m) ≡ false → Same k l m
enough_resting k l m r = (gives_resting k m r ∙ sym (gives_resting l m r), on_resting k m r ∙ sym (on_resting l m r))

enough_zero : (l : ℕ) (m : Merge) → total m.sources ≤ 0 → Doing m → Same 0 l m
enough_zero l m h (Resting r) = enough_resting 0 l m r
enough_zero l m h (Going p e) = absurd (let t = takes_one m p e in omega (arith, t, h))

enough_suc : (k l : ℕ) (m : Merge) → total m.sources ≤ suc k → total m.sources ≤ l
    → ((l : ℕ) (m : Merge) → total m.sources ≤ k → total m.sources ≤ l → Same k l m) → Doing m
    → Same (suc k) l m
enough_suc k l m h i ih (Resting r) = enough_resting (suc k) l m r
enough_suc k zero m h i ih (Going p e) = absurd (let t = takes_one m p e in omega (arith, t, i))
enough_suc k (suc l) m h i ih (Going p e) = grind (arith, nat_tests, takes_one, gives_going, on_going)

pub enough : (k l : ℕ) (m : Merge) → total m.sources ≤ k → total m.sources ≤ l → Same k l m
enough zero l m h i = enough_zero l m h (doing m)
enough (suc k) l m h i = enough_suc k l m h i (λ l m. enough k l m) (doing m)

all_going_at : (n : ℕ) (m : Merge) (p : Place) → ahead m ≡ Gives p → total m.sources ≡ n
    → (gives n m ≡ given_row p m ∷ all_given (given_on p m)) × (goes_on n m ≡ rest (given_on p m))
all_going_at zero m p h e = absurd (let t = takes_one m p h in omega (arith, t, e))
all_going_at (suc k) m p h e =
    let t = takes_one m p h in
    let n = enough k (total (given_on p m).sources) (given_on p m) (omega (arith, t, e)) (omega arith) in
    (gives_going k m p h ∙ ap (λ (x : List Row). given_row p m ∷ x) n.0, on_going k m p h ∙ n.1)

pub all_going : (m : Merge) (p : Place) → ahead m ≡ Gives p
    → (all_given m ≡ given_row p m ∷ all_given (given_on p m)) × (rest m ≡ rest (given_on p m))
all_going m p h = all_going_at (total m.sources) m p h refl

pub all_resting : (m : Merge) → is_giving (ahead m) ≡ false → (all_given m ≡ []) × (rest m ≡ m)
all_resting m h = (gives_resting (total m.sources) m h, on_resting (total m.sources) m h)

-- A record stands where one is given.
pub giving : (ss : List Source) (given : ℕ) (p : Place)
    → ahead (record { sources = ss; given = given }) ≡ Gives p → IsGiving (any_due ss) p ss
giving ss given p h =
    grind (arith, nat_tests, is_given (any_due ss) ss given p h, earliest_at (any_due ss) ss)

at_fits : (going : Bool) (q p : Place) (ss : List Source) (given : ℕ) → ahead_at going q ss given ≡ Gives p
    → length (text_of (made going q ss)) ≤ 1048576
at_fits = grind (arith, nat_tests)

pub given_fits : (going : Bool) (ss : List Source) (given : ℕ) (p : Place) → ahead_of going ss given ≡ Gives p
    → length (text_of (made going p ss)) ≤ 1048576
given_fits going ss given p h =
    let g = is_given going ss given p h in
    let at = lost_given going ss given p (list_any (is_lost going) ss) h in
    rw g.place (at_fits going (earliest going ss) p ss given at.1)

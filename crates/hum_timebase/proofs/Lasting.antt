-- The kept ends are the ends of what leads to the columns' next cells.
use Rattle.std.proofs.lemmas.Bool.Decides.{nat_tests}
use Rattle.std.proofs.Common.{◌≡◌, ℕ, suc, ◌+◌, ◌*◌, ◌<◌, List, [], ◌∷◌, ◌++◌, map, Option, None, Some, Bool, true, false, refl, sym, ap, ◌∙◌, arith}
use Rattle.std.specs.Prelude.{if◌then◌else◌}
use Rattle.std.specs.List.{list_all}
use mathlib.Core.Logic.{◌⊎◌, inl, inr}
use Rattle.std.proofs.lemmas.Bool.Decides.{leb_tells}
use native.Mathlib.Nat.{mul-pos}
use Rattle.hum_frac.specs.Ratio.{Ratio, plus, is_before, IsBefore}
use Rattle.hum_frac.proofs.Ratios.{reduced_positive}
use Rattle.hum_frac.proofs.Order.{before_trans, not_before_trans, NotBefore}
use Rattle.hum_score.specs.declared.records.SpinedKind.TheVariants.{Local, Interpretation, Values}
use Rattle.hum_score.specs.Row.{Row, Comment, Spined}
use Rattle.hum_score.specs.declared.spines.Move.{Move}
use Rattle.hum_score.specs.Score.{path_after}
use Rattle.hum_path.specs.Chains.{goes_on}
use Rattle.hum_kern.specs.Duration.{duration, value_in}
use Rattle.hum_kern.proofs.Laws.{duration_greater, IsPositive as IsGreaterIf}
use Rattle.hum_timebase.specs.Notes.{note_of, notes_of, timed_in, first_duration, or_else}
use Rattle.hum_timebase.specs.Ends.{Note, end_of, later, sooner, latest, beyond, next_end, living_before, living_after, led_by}
use Rattle.hum_timebase.specs.Timebase.{living_at}
use Rattle.hum_timebase.specs.Clock.{Clock, time_after, time_of, led_on, moved_on, ticked, tick, clock_after}
use Rattle.hum_timebase.specs.Kept.{Kept, kept_of, ends_before, ends_after, ends_at, end_by, rested, led, kept_at, struck}

-- positive bottoms
abbrev pub IsPositive : Option Ratio → Type 0
IsPositive None = Unit {0}
IsPositive (Some a) = 0 < a.bottom

abbrev pub ArePositive : List (Option Ratio) → Type 0
ArePositive [] = Unit {0}
ArePositive (a ∷ ends) = IsPositive a × ArePositive ends

pub record IsSound (note : Note) : Type 0 where
  pub onset : 0 < note.onset.bottom
  pub lasting : 0 < note.lasting.bottom

abbrev pub AreSound : List Note → Type 0
AreSound [] = Unit {0}
AreSound (note ∷ notes) = IsSound note × AreSound notes

abbrev pub AllSound : List (List Note) → Type 0
AllSound [] = Unit {0}
AllSound (notes ∷ more) = AreSound notes × AllSound more

end_positive : (note : Note) → IsSound note → 0 < (end_of note).bottom
end_positive note h = reduced_positive _ (mul-pos h.onset h.lasting)

-- ---- the order of ends

before_cases : (a b : Ratio) → ((is_before a b ≡ true) × IsBefore a b) ⊎ ((is_before a b ≡ false) × NotBefore a b)
before_cases a b = elim (leb_tells (suc (a.top * b.bottom)) (b.top * a.bottom)) [ inl h ↦ inl h | inr h ↦ inr (h.0, omega arith) ]

later_after : (a b : Ratio) → IsBefore a b → later (Some a) (Some b) ≡ Some b
later_after a b h = elim (before_cases a b) [ inl t ↦ rw t.0 refl | inr t ↦ absurd (omega arith) ]

later_not_after : (a b : Ratio) → NotBefore a b → later (Some a) (Some b) ≡ Some a
later_not_after a b h = elim (before_cases a b) [ inl t ↦ absurd (omega arith) | inr t ↦ rw t.0 refl ]

later_assoc_of : (a b c : Ratio) → 0 < a.bottom → 0 < b.bottom → 0 < c.bottom →
    later (later (Some a) (Some b)) (Some c) ≡ later (Some a) (later (Some b) (Some c))
later_assoc_of a b c p q r = elim (before_cases a b) [
  | inl t ↦ elim (before_cases b c) [
    | inl u ↦ left (later_after a b t.1) ∙ later_after b c u.1 ∙ sym (right (later_after b c u.1) ∙ later_after a c (before_trans a b c r t.1 u.1))
    | inr u ↦ left (later_after a b t.1) ∙ later_not_after b c u.1 ∙ sym (right (later_not_after b c u.1) ∙ later_after a b t.1)
  ]
  | inr t ↦ elim (before_cases b c) [
    | inl u ↦ left (later_not_after a b t.1) ∙ sym (right (later_after b c u.1))
    | inr u ↦ left (later_not_after a b t.1) ∙ later_not_after a c (not_before_trans a b c q t.1 u.1)
        ∙ sym (right (later_not_after b c u.1) ∙ later_not_after a b t.1)
  ]
]
  where
    left : {x : Option Ratio} → later (Some a) (Some b) ≡ x → later (later (Some a) (Some b)) (Some c) ≡ later x (Some c)
    left e = ap (λ (x : Option Ratio). later x (Some c)) e

    right : {x : Option Ratio} → later (Some b) (Some c) ≡ x → later (Some a) (later (Some b) (Some c)) ≡ later (Some a) x
    right e = ap (later (Some a)) e

later_assoc : (a b c : Option Ratio) → IsPositive a → IsPositive b → IsPositive c → later (later a b) c ≡ later a (later b c)
later_assoc = grind (arith, nat_tests, later_assoc_of)

later_positive : (a b : Option Ratio) → IsPositive a → IsPositive b → IsPositive (later a b)
later_positive = grind (arith, nat_tests)

pub latest_positive : (notes : List Note) → AreSound notes → IsPositive (latest notes)
latest_positive [] h = tt
latest_positive (note ∷ notes) h = later_positive (Some (end_of note)) (latest notes) (end_positive note h.0) (latest_positive notes h.1)

latest-append : (xs ys : List Note) → AreSound xs → AreSound ys → latest (xs ++ ys) ≡ later (latest xs) (latest ys)
latest-append [] ys p q = refl
latest-append (note ∷ xs) ys p q =
    ap (later (Some (end_of note))) (latest-append xs ys p.1 q)
    ∙ sym (later_assoc (Some (end_of note)) (latest xs) (latest ys) (end_positive note p.0) (latest_positive xs p.1) (latest_positive ys q))

AreSound-append : (xs ys : List Note) → AreSound xs → AreSound ys → AreSound (xs ++ ys)
AreSound-append [] ys p q = q
AreSound-append (note ∷ xs) ys p q = (p.0, AreSound-append xs ys p.1 q)

-- ---- what is led on

led_sound : (j : ℕ) (move : Move) (after : List (List Note)) → AllSound after → AreSound (led_by j move after)
led_sound j move [] h = tt
led_sound j move (notes ∷ after) h = elim (goes_on j move) as
    (λ (b : Bool). AreSound (if b then notes ++ led_by (j + 1) move after else led_by (j + 1) move after)) [
      | true ↦ AreSound-append notes _ h.0 (led_sound (j + 1) move after h.1)
      | false ↦ led_sound (j + 1) move after h.1
    ]

latest-led_by : (j : ℕ) (move : Move) (after : List (List Note)) → AllSound after → latest (led_by j move after) ≡ end_by j move (map latest after)
latest-led_by j move [] h = refl
latest-led_by j move (notes ∷ after) h =
    grind (arith, nat_tests, latest-led_by (j + 1) move after h.1, latest-append, led_sound)

latest-led : (moves : List Move) (after : List (List Note)) → AllSound after →
    map latest (map (λ move. led_by 0 move after) moves) ≡ map (λ move. end_by 0 move (map latest after)) moves
latest-led [] after h = refl
latest-led (move ∷ moves) after h = let a = latest-led_by 0 move after h in let b = latest-led moves after h in cc

all_led : (moves : List Move) (after : List (List Note)) → AllSound after → AllSound (map (λ move. led_by 0 move after) moves)
all_led [] after h = tt
all_led (move ∷ moves) after h = (led_sound 0 move after h, all_led moves after h)

-- ---- before and after the cells

pub latest-before : (timed : List Bool) (leading : List (List Note)) → map latest (living_before timed leading) ≡ ends_before timed (map latest leading)
latest-before [] leading = refl
latest-before (timed ∷ more) [] = refl
latest-before (true ∷ more) (notes ∷ leading) = ap (λ (xs : List (Option Ratio)). latest notes ∷ xs) (latest-before more leading)
latest-before (false ∷ more) (notes ∷ leading) = ap (λ (xs : List (Option Ratio)). None ∷ xs) (latest-before more leading)

pub before_sound : (timed : List Bool) (leading : List (List Note)) → AllSound leading → AllSound (living_before timed leading)
before_sound [] leading h = h
before_sound (timed ∷ more) [] h = tt
before_sound (true ∷ more) (notes ∷ leading) h = (h.0, before_sound more leading h.1)
before_sound (false ∷ more) (notes ∷ leading) h = (tt, before_sound more leading h.1)

pub latest-after : (time : Ratio) (notes : List (Option Ratio)) (before : List (List Note)) →
    map latest (living_after time notes before) ≡ ends_after time notes (map latest before)
latest-after time [] before = refl
latest-after time (own ∷ notes) [] = refl
latest-after time (None ∷ notes) (lives ∷ before) = ap (λ (xs : List (Option Ratio)). latest lives ∷ xs) (latest-after time notes before)
latest-after time (Some lasting ∷ notes) (lives ∷ before) = ap (λ (xs : List (Option Ratio)). Some (plus time lasting) ∷ xs) (latest-after time notes before)

pub latest-at : (time : Option Ratio) (notes : List (Option Ratio)) (before : List (List Note)) →
    map latest (living_at time notes before) ≡ ends_at time notes (map latest before)
latest-at None notes before = refl
latest-at (Some time) notes before = latest-after time notes before

after_sound : (time : Ratio) (notes : List (Option Ratio)) (before : List (List Note)) → 0 < time.bottom →
    ArePositive notes → AllSound before → AllSound (living_after time notes before)
after_sound time [] before t n h = h
after_sound time (own ∷ notes) [] t n h = tt
after_sound time (None ∷ notes) (lives ∷ before) t n h = (h.0, after_sound time notes before t n.1 h.1)
after_sound time (Some lasting ∷ notes) (lives ∷ before) t n h = ((record { onset = t; lasting = n.0 }, tt), after_sound time notes before t n.1 h.1)

-- ---- times

all_positive : (living : List (List Note)) → AllSound living → ArePositive (map latest living)
all_positive [] h = tt
all_positive (notes ∷ living) h = (latest_positive notes h.0, all_positive living h.1)

beyond_positive : (time : Ratio) (end : Option Ratio) → IsPositive end → IsPositive (beyond time end)
beyond_positive = grind (arith, nat_tests)

sooner_positive : (a b : Option Ratio) → IsPositive a → IsPositive b → IsPositive (sooner a b)
sooner_positive = grind (arith, nat_tests)

next_positive : (time : Ratio) (ends : List (Option Ratio)) → ArePositive ends → IsPositive (next_end time ends)
next_positive time [] h = tt
next_positive time (end ∷ ends) h = sooner_positive (beyond time end) (next_end time ends) (beyond_positive time end h.0) (next_positive time ends h.1)

time_positive : (last : Option Ratio) (ends : List (Option Ratio)) → ArePositive ends → IsPositive (time_after last ends)
time_positive = grind (arith, nat_tests, next_positive)

time_of_positive : (last : Option Ratio) (notes ends : List (Option Ratio)) → ArePositive ends → IsPositive (time_of last notes ends)
time_of_positive = grind (arith, nat_tests, time_positive)

-- ---- one record

abbrev make : Option Ratio → Option Ratio → List (Option Ratio) → Kept
make last next ends = record { last = last; next = next; ends = ends }

pub kept-rested : (clock : Clock) (timed : List Bool) → kept_of (led_on clock (living_before timed clock.leading)) ≡ rested timed (kept_of clock)
kept-rested clock timed = ap (make clock.last clock.next) (latest-before timed clock.leading)

pub kept-moved : (clock : Clock) (own : List Bool) (moves : List Move) → AllSound clock.leading
    → kept_of (moved_on clock (living_before own clock.leading) moves) ≡ led moves (rested own (kept_of clock))
kept-moved = grind (arith, nat_tests, latest-led, before_sound, latest-before)

kept-ticked : (clock : Clock) (time : Option Ratio) (notes : List (Option Ratio)) (before : List (List Note))
    → kept_of (ticked clock time notes before) ≡ kept_at time notes (make clock.last clock.next (map latest before))
kept-ticked clock None notes before = refl
kept-ticked clock (Some time) notes before = simp (latest-after)

pub kept-tick : (clock : Clock) (timed : List Bool) (notes : List (Option Ratio))
    → kept_of (tick clock notes (living_before timed clock.leading)) ≡ struck notes (rested timed (kept_of clock))
kept-tick = grind (arith, nat_tests, kept-ticked, latest-before)

ticked_sound : (clock : Clock) (time : Option Ratio) (notes : List (Option Ratio)) (before : List (List Note)) →
    IsPositive time → ArePositive notes → AllSound before → AllSound (ticked clock time notes before).leading
ticked_sound clock None notes before t n h = h
ticked_sound clock (Some time) notes before t n h = after_sound time notes before t n h

-- ---- notes

positive : (o : Option Ratio) → IsGreaterIf o → IsPositive o
positive = grind (arith, nat_tests)

chosen_positive : (o rest : Option Ratio) → IsPositive o → IsPositive rest → IsPositive (or_else o rest)
chosen_positive = grind (arith, nat_tests)

first_positive : (parts : List (List ℕ)) → IsPositive (first_duration parts)
first_positive [] = tt
first_positive (part ∷ parts) = chosen_positive (value_in (duration part)) (first_duration parts)
    (positive (value_in (duration part)) (duration_greater part)) (first_positive parts)

note_positive : (timed : Bool) (token : List ℕ) → IsPositive (note_of timed token)
note_positive = grind (arith, nat_tests, first_positive)

notes_positive : (timed : List Bool) (tokens : List (List ℕ)) → ArePositive (notes_of timed tokens)
notes_positive [] tokens = tt
notes_positive (timed ∷ more) [] = tt
notes_positive (timed ∷ more) (token ∷ tokens) = (note_positive timed token, notes_positive more tokens)

-- ---- all records

pub all_sound : (past : List Row) → AllSound (clock_after past).leading
all_sound [] = tt
all_sound (Comment text ∷ past) = all_sound past
all_sound (Spined Local tokens ∷ past) = grind (arith, nat_tests, all_sound past, before_sound)
all_sound (Spined Interpretation tokens ∷ past) =
    grind (arith, nat_tests, all_sound past, all_led, before_sound)
all_sound (Spined Values tokens ∷ past) =
    let clock = clock_after past in
    let timed = timed_in (path_after past) in
    let notes = notes_of timed tokens in
    let before = living_before timed clock.leading in
    let h : AllSound before = before_sound timed clock.leading (all_sound past) in
    ticked_sound clock (time_of clock.last notes (map latest before)) notes before
    (time_of_positive clock.last notes (map latest before) (all_positive before h))
    (notes_positive timed tokens) h

-- ---- columns that are timed

all_before : (timed : List Bool) (ends : List (Option Ratio)) → list_all (λ flag. flag) timed ≡ true → ends_before timed ends ≡ ends
all_before [] ends h = refl
all_before (true ∷ timed) [] h = refl
all_before (true ∷ timed) (end ∷ ends) h = ap (λ more. end ∷ more) (all_before timed ends h)
all_before (false ∷ timed) ends h = cc

-- where all columns are timed no end is dropped
pub all_rested : (timed : List Bool) (kept : Kept) → list_all (λ flag. flag) timed ≡ true → rested timed kept ≡ kept
all_rested = grind (arith, nat_tests, all_before)

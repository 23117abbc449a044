-- One source of several, where a record is given.
use Rattle.std.proofs.lemmas.Bool.Decides.{nat_tests}
use Rattle.std.proofs.Common.{◌≡◌, ◌∙◌, refl, sym, ap, ◌≤◌, ◌<◌, ◌⊎◌, Bool}
use Rattle.std.proofs.Common.{true, false, ◌||◌, List, [], ◌∷◌, arith}
use Rattle.std.specs.Prelude.{◌==◌, Option, None, Some}
use Rattle.hum_score.specs.Row.{Row}
use Rattle.hum_score.specs.Rules.{fault_of, is_unfinished}
use Rattle.hum_score.specs.Spines.{Path, after}
use Rattle.hum_score.specs.InOrder.{through, Follow}
use Rattle.hum_stage.specs.declared.faults.End as end
use Rattle.hum_stage.specs.declared.faults.End.TheVariants.{Closed}
use Rattle.hum_assemble.specs.declared.places.Place.{Place}
use Rattle.hum_assemble.specs.Source.{Source, place, is_inside}
use Rattle.hum_assemble.specs.Places.{rank, step, kind_at, is_shared, is_over}
use Rattle.hum_assemble.specs.Round.{place_at, is_missing, takes, in_round}
use Rattle.hum_assemble.specs.Merge.{moved, advanced}
use Rattle.hum_assemble.specs.Taking.{is_at}
use Rattle.hum_assemble.proofs.Fitting.{spined_of, kind_there}

-- a step of a score of which several records may come in one round
abbrev pub is_long : Place → Bool
is_long p = step p == 2 || (step p == 4 || step p == 10)

abbrev pub is_long_first : Path → List Row → Bool
is_long_first path [] = false
is_long_first path (row ∷ rows) = is_long (place path row)

-- What is still to be given of a source is the rest of a score, closed where it ends closed; and
-- it is due where it stands inside a unit, or at a step of several records.
pub record IsSound (s : Source) : Type 0 where
  pub follow : Follow s.path s.coming
  pub within : is_inside s.path ≡ true → s.due ≡ true
  pub waits : s.due ≡ true → (is_inside s.path ≡ true) ⊎ (is_long_first s.path s.coming ≡ true)
  pub closes : s.ended ≡ Some Closed → is_unfinished (through s.path s.coming) ≡ false

-- What it shows is known, and not before this place.
pub record Shows (going : Bool) (p : Place) (s : Source) : Type 0 where
  pub known : is_missing going s ≡ false
  pub later : rank p ≤ rank (place_at going s)

pub early_inside : (path : Path) (row : Row) → rank (place path row) ≤ 1 → is_inside path ≡ true
early_inside = grind (arith, nat_tests)

pub inside_first : (path : Path) (row : Row) → is_inside path ≡ true → rank (place path row) ≤ 1
inside_first = grind (arith, nat_tests)

-- What is asked and inside a unit comes first.
inside_fields : (going : Bool) (p : Place) (path : Path) (due : Bool) (coming : List Row)
    (ended : Option end.End) → due ≡ true → is_inside path ≡ true
    → is_missing going (record { path = path; due = due; coming = coming; ended = ended }) ≡ false
    → rank p ≤ rank (place_at going (record { path = path; due = due; coming = coming; ended = ended }))
    → rank p ≤ 1
inside_fields going p path true [] ended d i k l = cc
inside_fields going p path true (row ∷ rows) ended d i k l = grind (arith, nat_tests, inside_first)
inside_fields going p path false coming ended d i k l = cc

bool_cases : (b : Bool) → (b ≡ true → ⊥) → b ≡ false
bool_cases = grind (arith, nat_tests)

pub not_inside : (going : Bool) (p : Place) (s : Source) → IsSound s → Shows going p s → 1 < rank p
    → is_inside s.path ≡ false
not_inside going p s o k late = bool_cases (is_inside s.path) (λ i.
    let e = inside_fields going p s.path s.due s.coming s.ended (o.within i) i k.known k.later in
    omega (arith, e, late))

-- Who takes has a record there.
pub record Takes (p : Place) (s : Source) : Type 0 where
  pub row : Row
  pub rows : List Row
  pub is : s.coming ≡ row ∷ rows
  pub at : rank p ≡ rank (place s.path row)
  pub kind : kind_at p ≡ spined_of row
  pub sound : fault_of s.path row ≡ None

asked_rank : (going : Bool) (p : Place) (path : Path) (due : Bool) (row : Row) (rows : List Row)
    (ended : Option end.End) → is_over p ≡ false
    → is_at going p (record { path = path; due = due; coming = row ∷ rows; ended = ended }) ≡ true
    → rank p ≡ rank (place path row)
asked_rank = grind (arith, nat_tests)

pub takes_fields : (going : Bool) (p : Place) (path : Path) (due : Bool) (coming : List Row)
    (ended : Option end.End) → is_over p ≡ false → Follow path coming
    → is_at going p (record { path = path; due = due; coming = coming; ended = ended }) ≡ true
    → Takes p (record { path = path; due = due; coming = coming; ended = ended })
takes_fields going p path due [] ended o f h = grind (arith, nat_tests)
takes_fields going p path due (row ∷ rows) ended o f h =
    let r = asked_rank going p path due row rows ended o h in
    record { row = row; rows = rows; is = refl; at = r; kind = kind_there path row p r f.0; sound = f.0 }

pub taker : (going : Bool) (p : Place) (s : Source) → is_over p ≡ false → IsSound s
    → is_at going p s ≡ true → Takes p s
taker going p s o i h = takes_fields going p s.path s.due s.coming s.ended o i.follow h

-- the path after it is given
pub taken_path : (going : Bool) (p : Place) (s : Source) (t : Takes p s)
    → (moved true going p s).path ≡ after s.path t.row
taken_path going p s t = ap (λ (rows : List Row). (advanced s.path s.due rows s.ended).path) t.is

-- Who is at the same step and isn't given now is at a step of several records, or inside a unit.
pub same_step : (p q : Place) → is_over p ≡ false → (step q == step p) ≡ true
    → (is_shared p ≡ true → (rank p == rank q) ≡ false) → (is_long q ≡ true) ⊎ (rank q ≤ 1)
same_step = grind (arith, nat_tests)

wait_fields : (free going : Bool) (p : Place) (path : Path) (coming : List Row)
    (ended : Option end.End) → is_over p ≡ false → (is_shared p ≡ true → free ≡ true)
    → takes free false p (record { path = path; due = false; coming = coming; ended = ended }) ≡ false
    → (step (place_at false (record { path = path; due = false; coming = coming; ended = ended })) == step p) ≡ true
    → (is_inside path ≡ true) ⊎ (is_long_first path coming ≡ true)
wait_fields free going p path [] ended o all n d = grind (arith, nat_tests)
wait_fields free going p path (row ∷ rows) ended o all n d =
    grind (arith, nat_tests, same_step p (place path row) o d, early_inside path row)

taken_sound : (path : Path) (due : Bool) (coming : List Row) (ended : Option end.End)
    → IsSound (record { path = path; due = due; coming = coming; ended = ended })
    → IsSound (advanced path due coming ended)
taken_sound = grind (arith, nat_tests)

left_sound : (free going : Bool) (p : Place) (s : Source) → is_over p ≡ false → IsSound s
    → (going ≡ false → s.due ≡ false) → (is_shared p ≡ true → free ≡ true)
    → takes free going p s ≡ false → IsSound (record s { due = in_round going p s })
left_sound free true p s o i idle all n = i
left_sound free false p s o i idle all n =
    let d : s.due ≡ false = idle refl in
    let same : s ≡ record { path = s.path; due = false; coming = s.coming; ended = s.ended } =
    ap (λ (b : Bool). record { path = s.path; due = b; coming = s.coming; ended = s.ended }) d in
    record {
      follow = i.follow;
      within = λ w. absurd (let v = sym (i.within w) ∙ d in cc);
      waits = λ w. wait_fields free false p s.path s.coming s.ended o all (rw same at n) (rw same at w);
      closes = i.closes;
    }

pub moved_sound : (free going : Bool) (p : Place) (s : Source) → is_over p ≡ false → IsSound s
    → (going ≡ false → s.due ≡ false) → (is_shared p ≡ true → free ≡ true)
    → IsSound (moved (takes free going p s) going p s)
moved_sound free going p s o i idle all =
    (elim (takes free going p s) as (λ b. takes free going p s ≡ b → IsSound (moved b going p s)) [
      | true ↦ λ e. taken_sound s.path s.due s.coming s.ended i
      | false ↦ λ e. left_sound free going p s o i idle all e
    ]) refl

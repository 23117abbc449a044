-- All sources, where a record is given.
use Rattle.std.proofs.lemmas.Grind.{common_steps}
use Rattle.std.proofs.lemmas.Bool.Decides.{nat_tests}
use Rattle.std.proofs.Common.{◌≡◌, ◌∙◌, refl, sym, ap, ℕ, ◌≤◌, ◌<◌, ◌⊎◌, Bool}
use Rattle.std.proofs.Common.{true, false, ◌&&◌, ◌||◌, List, [], ◌∷◌, ◌++◌, length, arith}
use Rattle.std.proofs.Common.{length-append, replicate}
use Rattle.std.specs.Prelude.{None, Some}
use Rattle.std.specs.List.{AllByRecursion}
use Rattle.hum_score.specs.declared.records.SpinedKind.{SpinedKind}
use Rattle.hum_score.specs.Row.{Row, tokens_of}
use Rattle.hum_score.specs.Rules.{fault_of}
use Rattle.hum_score.specs.Spines.{Path, exclusives, width, after}
use Rattle.hum_stage.specs.declared.faults.End.TheVariants.{Closed}
use Rattle.hum_assemble.specs.declared.places.Place.{Place}
use Rattle.hum_assemble.specs.Source.{Source, is_inside}
use Rattle.hum_assemble.specs.Head.{is_opened}
use Rattle.hum_assemble.specs.Places.{rank, kind_at, null_at, is_shared, is_over}
use Rattle.hum_assemble.specs.Round.{takes, still_free, earliest, any_due, AllKnown}
use Rattle.hum_assemble.specs.Merge.{all_moved, part_given, tokens_given}
use Rattle.hum_assemble.specs.Merge.{tokens_of_first, spines}
use Rattle.hum_assemble.specs.Taking.{is_at}
use Rattle.hum_assemble.proofs.Fitting.{spined_of}
use Rattle.hum_assemble.proofs.Sides.{IsSound, Shows, Takes, taker, moved_sound, not_inside}

abbrev pub AllSound : List Source → Type 0
AllSound = AllByRecursion IsSound

abbrev pub AllShow : Bool → Place → List Source → Type 0
AllShow going p = AllByRecursion (Shows going p)

abbrev pub NoneInside : List Source → Type 0
NoneInside = AllByRecursion (λ s. is_inside s.path ≡ false)

pub all_show : (going : Bool) (p : Place) (ss : List Source) → AllKnown going ss
    → rank p ≤ rank (earliest going ss) → AllShow going p ss
all_show going p [] k l = tt
all_show going p (s ∷ ss) k l = grind (arith, nat_tests, all_show going p ss k.1)

pub none_inside : (going : Bool) (p : Place) (ss : List Source) → AllSound ss → AllShow going p ss
    → 1 < rank p → NoneInside ss
none_inside going p [] o k l = tt
none_inside going p (s ∷ ss) o k l =
    (not_inside going p s o.0 k.0 l, none_inside going p ss o.1 k.1 l)

-- Sources go on as sources of scores.
or_false : (a b : Bool) → (a || b) ≡ false → (a ≡ false) × (b ≡ false)
or_false = grind (arith, nat_tests)

shared_free : (free going : Bool) (p : Place) (s : Source) → (is_shared p ≡ true → free ≡ true)
    → is_shared p ≡ true → still_free free going p s ≡ true
shared_free free going p s all sh = rw (all sh, sh) refl

pub all_sound : (free going : Bool) (p : Place) (ss : List Source) → is_over p ≡ false → AllSound ss
    → (going ≡ false → any_due ss ≡ false) → (is_shared p ≡ true → free ≡ true)
    → AllSound (all_moved free going p ss)
all_sound free going p [] o i idle all = tt
all_sound free going p (s ∷ ss) o i idle all = (
  moved_sound free going p s o i.0 (λ g. (or_false s.due (any_due ss) (idle g)).0) all,
  all_sound (still_free free going p s) going p ss o i.1
      (λ g. (or_false s.due (any_due ss) (idle g)).1) (shared_free free going p s all),
)

-- The spines side by side.
abbrev pub names_of : List Source → List (List ℕ)
names_of [] = []
names_of (s ∷ ss) = exclusives s.path ++ names_of ss

pub names_spines : (ss : List Source) → length (names_of ss) ≡ spines ss
names_spines [] = refl
names_spines (s ∷ ss) = grind (arith, common_steps, names_spines ss)

-- A source has spines, or has ended without any.
abbrev pub IsSettled : Source → Type 0
IsSettled s = (is_opened s.path ≡ true) ⊎ ((s.coming ≡ []) × (s.ended ≡ Some Closed))

abbrev pub AllSettled : List Source → Type 0
AllSettled = AllByRecursion IsSettled

-- who takes has spines
pub opened_taker : (p : Place) (s : Source) → IsSettled s → Takes p s → is_opened s.path ≡ true
opened_taker = grind (arith, nat_tests)

row_wide : (path : Path) (row : Row) (kind : SpinedKind) → is_opened path ≡ true
    → Some kind ≡ spined_of row → fault_of path row ≡ None
    → length (exclusives path) ≡ length (tokens_of row)
row_wide = grind (arith, nat_tests)

replicate_length : (n : ℕ) (token : List ℕ) → length (replicate n token) ≡ n
replicate_length = grind (arith, common_steps)

and_right : (a b : Bool) → (a && b) ≡ true → b ≡ true
and_right = grind (arith, nat_tests)

pub taken_by : (free going : Bool) (p : Place) (s : Source) → is_over p ≡ false → IsSound s
    → takes free going p s ≡ true → Takes p s
taken_by free going p s o i h = taker going p s o i (and_right free (is_at going p s) h)

part_wide : (free going : Bool) (p : Place) (s : Source) (kind : SpinedKind) → is_over p ≡ false
    → kind_at p ≡ Some kind → IsSound s → IsSettled s
    → length (exclusives s.path) ≡ length (part_given (takes free going p s) p s)
part_wide free going p s kind o k i e =
    (elim (takes free going p s) as (λ b. takes free going p s ≡ b
    → length (exclusives s.path) ≡ length (part_given b p s)) [
      | true ↦ λ h.
          let t = taken_by free going p s o i h in
          row_wide s.path t.row kind (opened_taker p s e t) (sym k ∙ t.kind) t.sound
          ∙ ap (λ (rows : List Row). length (tokens_of_first rows)) (sym t.is)
      | false ↦ λ h. sym (replicate_length (width s.path) (null_at (kind_at p)))
    ]) refl

pub all_wide : (free going : Bool) (p : Place) (ss : List Source) (kind : SpinedKind)
    → is_over p ≡ false → kind_at p ≡ Some kind → AllSound ss → AllSettled ss
    → length (names_of ss) ≡ length (tokens_given free going p ss)
all_wide free going p [] kind o k i e = refl
all_wide free going p (s ∷ ss) kind o k i e =
    let a = part_wide free going p s kind o k i.0 e.0 in
    let b = all_wide (still_free free going p s) going p ss kind o k i.1 e.1 in
    let l = length-append (exclusives s.path) (names_of ss) in
    let m = length-append (part_given (takes free going p s) p s)
    (tokens_given (still_free free going p s) going p ss) in
    omega (arith, a, b, l, m)

-- A place at which no record that is given changes spines.
abbrev pub IsQuiet : Place → Type 0
IsQuiet p = (s : Source) (t : Takes p s) → IsSettled s → after s.path t.row ≡ s.path

-- Where a round begins, it is as if all who take part in it were due.
use Rattle.std.proofs.lemmas.Bool.Decides.{nat_tests}
use Rattle.std.proofs.Common.{◌≡◌, ◌∙◌, refl, sym, ap, ℕ, ◌+◌, ◌≤◌, Bool, true}
use Rattle.std.proofs.lemmas.Bool.{eq-eqb}
use Rattle.std.proofs.Common.{false, ◌||◌, List, [], ◌∷◌, arith}
use Rattle.std.proofs.Common.{map}
use Rattle.std.specs.Prelude.{Option, None, Some, ◌==◌}
use Rattle.std.specs.List.{list_any, AllByRecursion}
use Rattle.hum_score.specs.Row.{Row}
use Rattle.hum_score.specs.Spines.{Path}
use Rattle.hum_score.specs.InOrder.{Follow}
use Rattle.hum_stage.specs.declared.faults.Rule.{Rule}
use Rattle.hum_stage.specs.declared.faults.End as end
use Rattle.hum_assemble.specs.declared.places.Place.{Place}
use Rattle.hum_assemble.specs.Source.{Source, place}
use Rattle.hum_assemble.specs.Places.{rank, is_over, step}
use Rattle.hum_assemble.specs.Round.{any_due, place_at, takes, still_free}
use Rattle.hum_assemble.specs.Round.{earliest}
use Rattle.hum_assemble.specs.Merge.{Merge, all_moved, moved, ahead, given_row, given_on}
use Rattle.hum_assemble.specs.Merge.{ahead_of, unless_broken, made}
use Rattle.hum_assemble.specs.Meaning.{all_given, refusal}
use Rattle.hum_assemble.specs.Taking.{is_at}
use Rattle.hum_assemble.specs.Groups.{Steps, then_on, rule_at, row_of}
use Rattle.hum_assemble.proofs.Taking.{empty_over, same_rank}
use Rattle.hum_assemble.proofs.Alone.{paths_of}
use Rattle.hum_assemble.proofs.Steps.{all_going, all_resting, is_giving, earliest_at}
use Rattle.hum_assemble.proofs.Written.{Meets, parts_at, Sees, AllSee, merge_of, refused}
use Rattle.hum_assemble.proofs.Written.{earlier_left, earlier_right, least, ahead_is, made_is}
use Rattle.hum_assemble.proofs.Written.{same_place}
use Rattle.hum_assemble.proofs.Does.{Does}

-- A source between rounds.
pub record Idle (k : ℕ) (s : Source) : Type 0 where
  pub idle : s.due ≡ false
  pub sees : Sees false k s

abbrev pub AllIdle : ℕ → List Source → Type 0
AllIdle k = AllByRecursion (Idle k)

abbrev pub takes_part : ℕ → Source → Bool
takes_part st s = step (place_at false s) == st

abbrev pub begun_at : ℕ → Source → Source
begun_at st s = record s { due = takes_part st s }

-- The places from the k-th on, up to one of a step, are of that step.
abbrev pub Spans : ℕ → ℕ → Type 0
Spans k st = (q r : Place) → k ≤ rank q → rank q ≤ rank r → (step r == st) ≡ true
    → (step q ≡ st) × (is_over q ≡ false)

idle_due : (k : ℕ) (ss : List Source) → AllIdle k ss → any_due ss ≡ false
idle_due k [] h = refl
idle_due k (s ∷ ss) h = rw (h.0.idle, idle_due k ss h.1) refl

pub idle_see : (k : ℕ) (ss : List Source) → AllIdle k ss → AllSee false k ss
idle_see k [] h = tt
idle_see k (s ∷ ss) h = (h.0.sees, idle_see k ss h.1)

see_from : (n : ℕ) (ss : List Source) → n ≤ rank (earliest false ss) → (k : ℕ) → AllSee false k ss
    → AllSee false n ss
see_from n [] l k h = tt
see_from n (s ∷ ss) l k h = grind (arith, nat_tests, see_from n ss)

record Reached (st : ℕ) (p : Place) : Type 0 where
  at : Place
  is : (step at == st) ≡ true
  before : rank p ≤ rank at

reach : (st : ℕ) (ss : List Source) → list_any (takes_part st) ss ≡ true
    → Reached st (earliest false ss)
reach st [] h = cc
reach st (s ∷ ss) h =
    let a = earlier_left (place_at false s) (earliest false ss) in
    let b = earlier_right (place_at false s) (earliest false ss) in
    (elim (takes_part st s) as (λ b. takes_part st s ≡ b → (b || list_any (takes_part st) ss) ≡ true
    → Reached st (earliest false (s ∷ ss))) [
      | true ↦ λ e w. record { at = place_at false s; is = e; before = a }
      | false ↦ λ e w.
          let r = reach st ss w in
          let l = r.before in
          record { at = r.at; is = r.is; before = omega (arith, b, l) }
    ]) refl h

-- One source, seen as due.
by_part : (p : Place) (path : Path) (row : Row) (rows : List Row) (ended : Option end.End)
    (b : Bool) → is_over p ≡ false → (step (place path row) == step p) ≡ b
    → is_at true p (record { path = path; due = b; coming = row ∷ rows; ended = ended })
    ≡ (rank p == rank (place path row))
by_part p path row rows ended true o e = refl
by_part p path row rows ended false o e =
    (elim (rank p == rank (place path row)) as (λ b. (rank p == rank (place path row)) ≡ b
    → (rank p == 11) ≡ b) [
      | true ↦ λ w.
          let same = same_place p (place path row) (same_rank (rank p) (rank (place path row)) w) in
          let f : (step p == step p) ≡ false = rw (← same) at e in
          let g : (step p == step p) ≡ true = eq-eqb (step p) (step p) refl in cc
      | false ↦ λ w. o
    ]) refl

at_fields : (p : Place) (path : Path) (due : Bool) (coming : List Row) (ended : Option end.End)
    → is_over p ≡ false → due ≡ false
    → is_at true p (begun_at (step p) (record { path = path; due = due; coming = coming; ended = ended }))
    ≡ is_at false p (record { path = path; due = due; coming = coming; ended = ended })
at_fields p path true coming ended o d = cc
at_fields p path false [] ended o d = grind (arith, nat_tests, empty_over false path false ended)
at_fields p path false (row ∷ rows) ended o d =
    by_part p path row rows ended (step (place path row) == step p) o refl

at_same : (p : Place) (k : ℕ) (s : Source) → is_over p ≡ false → Idle k s
    → is_at true p (begun_at (step p) s) ≡ is_at false p s
at_same p k s o i = at_fields p s.path s.due s.coming s.ended o i.idle

moved_same : (free : Bool) (p : Place) (k : ℕ) (s : Source) → is_over p ≡ false → Idle k s
    → moved (takes free false p s) true p (begun_at (step p) s) ≡ moved (takes free false p s) false p s
moved_same = grind (arith, nat_tests)

all_same : (free : Bool) (p : Place) (k : ℕ) (ss : List Source) → is_over p ≡ false → AllIdle k ss
    → all_moved free true p (map (begun_at (step p)) ss) ≡ all_moved free false p ss
all_same free p k [] o i = refl
all_same free p k (s ∷ ss) o i =
    rw (at_same p k s o i.0, moved_same free p k s o i.0)
    (ap (λ (xs : List Source). moved (takes free false p s) false p s ∷ xs)
    (all_same (still_free free false p s) p k ss o i.1))

parts_same : (free : Bool) (p : Place) (k : ℕ) (ss : List Source) → is_over p ≡ false → AllIdle k ss
    → parts_at free true p (map (begun_at (step p)) ss) ≡ parts_at free false p ss
parts_same free p k [] o i = refl
parts_same free p k (s ∷ ss) o i =
    grind (arith, nat_tests, parts_same (still_free free false p s) p k ss o i.1, at_same p k s o i.0)

any_same : (p : Place) (k : ℕ) (ss : List Source) → is_over p ≡ false → AllIdle k ss
    → list_any (is_at true p) (map (begun_at (step p)) ss) ≡ list_any (is_at false p) ss
any_same p k [] o i = refl
any_same p k (s ∷ ss) o i = rw (at_same p k s o i.0, any_same p k ss o i.1) refl

paths_same : (st : ℕ) (ss : List Source) → paths_of (map (begun_at st) ss) ≡ paths_of ss
paths_same st [] = refl
paths_same st (s ∷ ss) = ap (λ (xs : List Path). s.path ∷ xs) (paths_same st ss)

due_same : (st : ℕ) (ss : List Source) → any_due (map (begun_at st) ss) ≡ list_any (takes_part st) ss
due_same st [] = refl
due_same st (s ∷ ss) = ap (λ (b : Bool). takes_part st s || b) (due_same st ss)

over_apart : (p : Place) → is_over p ≡ false → (11 == step p) ≡ false
over_apart = grind (arith, nat_tests)

see_fields : (p : Place) (path : Path) (due : Bool) (coming : List Row) (ended : Option end.End)
    → is_over p ≡ false → due ≡ false
    → rank p ≤ rank (place_at false (record { path = path; due = due; coming = coming; ended = ended }))
    → Follow path coming
    → Sees true (rank p) (begun_at (step p) (record { path = path; due = due; coming = coming; ended = ended }))
see_fields p path true coming ended o d l f = cc
see_fields p path false [] ended o d l f =
    grind (arith, nat_tests, empty_over false path false ended, over_apart p o)
see_fields p path false (row ∷ rows) ended o d l f = grind (arith, nat_tests)

begun_see : (p : Place) (k : ℕ) (ss : List Source) → is_over p ≡ false → AllIdle k ss
    → AllSee false (rank p) ss → AllSee true (rank p) (map (begun_at (step p)) ss)
begun_see p k [] o i h = tt
begun_see p k (s ∷ ss) o i h = (
  see_fields p s.path s.due s.coming s.ended o i.0.idle h.0.later h.0.follow,
  begun_see p k ss o i.1 h.1,
)

-- The same is given.
alike : (m n : Merge) (p : Place) (o : Option Rule)
    → ahead m ≡ unless_broken p o → ahead n ≡ unless_broken p o
    → given_row p m ≡ given_row p n → given_on p m ≡ given_on p n → m.given ≡ n.given
    → (all_given m ≡ all_given n) × (refused m ≡ refused n)
alike m n p None a b r w g = grind (arith, nat_tests, all_going)
alike m n p (Some rule) a b r w g =
    let x = all_resting m (ap is_giving a) in
    let y = all_resting n (ap is_giving b) in (
      x.0 ∙ sym (y.0),
      ap (λ (k : Merge). refusal (k.given + 1) (ahead k)) x.1
          ∙ (ap (refusal (m.given + 1)) (a ∙ sym b)
          ∙ (ap (λ (k : ℕ). refusal (k + 1) (ahead n)) g
          ∙ sym (ap (λ (k : Merge). refusal (k.given + 1) (ahead k)) y.1))),
    )

module _ (ss : List Source) (k : ℕ) (p : Place) (i : AllIdle k ss) (o : is_over p ≡ false)
    (h : AllSee false (rank p) ss) (a : list_any (is_at false p) ss ≡ true)
    (due : any_due (map (begun_at (step p)) ss) ≡ true) where
  abbrev pub begun_all : List Source
  begun_all = map (begun_at (step p)) ss

  same_given : (given : ℕ) → (all_given (merge_of ss given) ≡ all_given (merge_of begun_all given))
      × (refused (merge_of ss given) ≡ refused (merge_of begun_all given))
  same_given given =
      let idle = idle_due k ss i in
      let seen = begun_see p k ss o i h in
      let at = any_same p k ss o i ∙ a in
      let parts = parts_same true p k ss o i in
      let paths = paths_same (step p) ss in
      let rules : rule_at given (paths_of begun_all) (parts_at true true p begun_all)
      ≡ rule_at given (paths_of ss) (parts_at true false p ss) = rw (parts, paths) refl in
      let rows : row_of (paths_of begun_all) (parts_at true true p begun_all) (parts_at true true p begun_all)
      ≡ row_of (paths_of ss) (parts_at true false p ss) (parts_at true false p ss) = rw (parts, paths) refl in
      alike (merge_of ss given) (merge_of begun_all given) p
      (rule_at given (paths_of ss) (parts_at true false p ss))
      (ap (λ (b : Bool). ahead_of b ss given) idle ∙ ahead_is false p ss given o h a)
      (ap (λ (b : Bool). ahead_of b begun_all given) due
      ∙ (ahead_is true p begun_all given o seen at ∙ ap (unless_broken p) rules))
      (ap (λ (b : Bool). made b p ss) idle ∙ (made_is false p (rank p) ss o h a
      ∙ (sym rows ∙ (sym (made_is true p (rank p) begun_all o seen at) ∙ ap (λ (b : Bool). made b p begun_all) (sym due)))))
      (ap (λ (b : Bool). merge_of (all_moved true b p ss) (given + 1)) idle
      ∙ (ap (λ (xs : List Source). merge_of xs (given + 1)) (sym (all_same true p k ss o i))
      ∙ ap (λ (b : Bool). merge_of (all_moved true b p begun_all) (given + 1)) (sym due)))
      refl

  meets_at : (ps : List (List (Option Row))) → Meets begun_all ps → Meets ss ps
  meets_at ps m = record {
    rows = λ given. (same_given given).0 ∙ rw (paths_same (step p) ss) at (m.rows given);
    stop = λ given. (same_given given).1 ∙ rw (paths_same (step p) ss) at (m.stop given);
  }

-- A round begins.
pub does_begin : (k st : ℕ) (s : Steps) (ss : List Source) (P : List Source → Type 0) → k ≤ 11
    → Spans k st → AllIdle k ss → list_any (takes_part st) ss ≡ true
    → Does s (map (begun_at st) ss) P → Does s ss P
does_begin k st s ss P l span i h d =
    let see = idle_see k ss i in
    let r = reach st ss h in
    let q = span (earliest false ss) r.at (least false k ss l see) r.before r.is in
    let seen = see_from (rank (earliest false ss)) ss (omega arith) k see in
    let due = due_same st ss ∙ h in
    λ K g. meets_at ss k (earliest false ss) i q.1 seen (earliest_at false ss q.1)
    (rw q.0 due) (then_on s K).parts (rw q.0 (d K g))

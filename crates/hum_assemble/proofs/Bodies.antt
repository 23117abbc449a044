-- A source behind its opening record: what is still to come of it, and its part in a round of units.
use Rattle.std.proofs.lemmas.Grind.{common_steps}
use Rattle.std.proofs.lemmas.Bool.Decides.{nat_tests}
use Rattle.std.proofs.Common.{◌≡◌, ◌∙◌, refl, sym, ap, ℕ, suc, ◌≤◌, ◌<◌, Bool, true}
use Rattle.std.proofs.Common.{false, not, List, [], ◌∷◌, ◌++◌, length, arith}
use Rattle.std.proofs.Common.{map}
use Rattle.std.specs.Prelude.{Option, None, Some}
use Rattle.std.specs.List.{list_any}
use Rattle.hum_score.specs.declared.records.SpinedKind.TheVariants.{Local, Interpretation, Values}
use Rattle.hum_score.specs.Row.{Row, Comment, Spined}
use Rattle.hum_score.specs.Spines.{Path, Unopened, Spines, after}
use Rattle.hum_score.specs.InOrder.{Follow}
use Rattle.hum_stage.specs.declared.faults.End as end
use Rattle.hum_assemble.specs.declared.places.Place.TheVariants.{Aside, Begins}
use Rattle.hum_assemble.specs.Source.{Source, place, is_inside, unit_place, inside_place}
use Rattle.hum_assemble.specs.Places.{rank}
use Rattle.hum_assemble.specs.Round.{is_missing, place_at, any_due}
use Rattle.hum_assemble.specs.Groups.{Body, nothing, with_row, body, sort_of, adds, is_comment}
use Rattle.hum_assemble.specs.Groups.{is_closed_end}
use Rattle.hum_assemble.specs.Groups.{has_some, shows_unit, behind_unit, alone}
use Rattle.hum_assemble.proofs.Written.{Sees, AllSee, meets_missing}
use Rattle.hum_assemble.proofs.Does.{Does, does_more, does_nothing, stop_parts}
use Rattle.hum_assemble.proofs.Apart.{waiting, gone, Leaves, alone_step}
use Rattle.hum_assemble.proofs.Apart.{see_more}
use Rattle.hum_assemble.proofs.Beginning.{takes_part}
use Rattle.hum_assemble.proofs.Sorting.{stands, Sorted, sorted}
use Rattle.hum_assemble.proofs.Sorting.{begins, in_tail}

-- What is still to come.
abbrev pub still : Path → Bool → List Row → Body
still Unopened whole rows = body whole false rows
still (Spines []) whole rows = record (nothing whole) { tail = rows }
still (Spines (n ∷ ns)) whole rows = body whole false rows

abbrev pub Fits : Path → List Row → Type 0
Fits path [] = Unit {0}
Fits Unopened (row ∷ rows) = ⊥
Fits (Spines names) (row ∷ rows) = is_inside (Spines names) ≡ false

-- between units
pub record InBody (s : Source) (b : Body) : Type 0 where
  pub idle : s.due ≡ false
  pub follow : Follow s.path s.coming
  pub fits : Fits s.path s.coming
  pub is : still s.path (is_closed_end s.ended) s.coming ≡ b

abbrev pub calm : Path → List Row → Option end.End → Source
calm path rows ended = record { path = path; due = false; coming = rows; ended = ended }

pub body_stands : (path : Path) (rows : List Row) (ended : Option end.End) (b : Body)
    → stands path ≡ true → is_inside path ≡ false → Follow path rows
    → body (is_closed_end ended) false rows ≡ b → InBody (calm path rows ended) b
body_stands = grind (arith, nat_tests)

-- What a source between units shows.
pub data View (s : Source) (b : Body) : Type 0 where
  Nothing : (path : Path) (ended : Option end.End) → s ≡ calm path [] ended
      → nothing (is_closed_end ended) ≡ b → View s b
  InTail : (text : List ℕ) (rows : List Row) (ended : Option end.End)
      → s ≡ calm (Spines []) (Comment text ∷ rows) ended → Follow (Spines []) rows
      → record (nothing (is_closed_end ended)) { tail = Comment text ∷ rows } ≡ b → View s b
  AtRow : (n : List ℕ) (ns : List (List ℕ)) (row : Row) (rows : List Row) (ended : Option end.End)
      → s ≡ calm (Spines (n ∷ ns)) (row ∷ rows) ended → is_inside (Spines (n ∷ ns)) ≡ false
      → Follow (Spines (n ∷ ns)) (row ∷ rows)
      → body (is_closed_end ended) false (row ∷ rows) ≡ b → View s b

pub still_nothing : (path : Path) (whole : Bool) → still path whole [] ≡ nothing whole
still_nothing = grind (arith, nat_tests)

view_fields : (path : Path) (due : Bool) (coming : List Row) (ended : Option end.End) (b : Body)
    → due ≡ false → Follow path coming → Fits path coming
    → still path (is_closed_end ended) coming ≡ b
    → View (record { path = path; due = due; coming = coming; ended = ended }) b
view_fields path true coming ended b d f i e = cc
view_fields path false [] ended b d f i e =
    Nothing path ended refl (sym (still_nothing path (is_closed_end ended)) ∙ e)
view_fields Unopened false (row ∷ rows) ended b d f i e = absurd i
view_fields (Spines []) false (row ∷ rows) ended b d f i e =
    let t = in_tail row f.0 in
    by_text t.text t.is
  where
    by_text : (text : List ℕ) → row ≡ Comment text
        → View (calm (Spines []) (row ∷ rows) ended) b
    by_text text r =
        InTail text rows ended (ap (λ (x : Row). calm (Spines []) (x ∷ rows) ended) r)
        (ap_follow text r f)
        (sym (ap (λ (x : Row). record (nothing (is_closed_end ended)) { tail = x ∷ rows }) r) ∙ e)
      where
        ap_follow : (text : List ℕ) → row ≡ Comment text → Follow (Spines []) (row ∷ rows)
            → Follow (Spines []) rows
        ap_follow text r f = (rw r at f).1
view_fields (Spines (n ∷ ns)) false (row ∷ rows) ended b d f i e =
    AtRow n ns row rows ended refl i f e

pub view : (s : Source) (b : Body) → InBody s b → View s b
view s b h = view_fields s.path s.due s.coming s.ended b h.idle h.follow h.fits h.is

-- The place of what comes next.
abbrev pub first_rank : List Row → ℕ
first_rank [] = 0
first_rank (row ∷ rows) = rank (unit_place row)

abbrev pub rank_of : Body → ℕ
rank_of b = elim b.units [
  | [] ↦ elim b.further [
    | [] ↦ elim b.closing [
      | None ↦ elim b.tail [ [] ↦ 11 | row ∷ rows ↦ 10 ]
      | Some row ↦ 9
    ]
    | f ∷ fs ↦ 8
  ]
  | unit ∷ units ↦ first_rank unit
]

pub record Looks (s : Source) (b : Body) : Type 0 where
  pub missing : is_missing false s ≡ not (shows_unit b)
  pub rank_is : rank (place_at false s) ≡ rank_of b
  pub part : takes_part 4 s ≡ has_some b.units
  pub low : 4 ≤ rank (place_at false s)

look_nothing : (path : Path) (ended : Option end.End)
    → Looks (calm path [] ended) (nothing (is_closed_end ended))
look_nothing = grind (arith, nat_tests)

look_row : (path : Path) (row : Row) (rows : List Row) (ended : Option end.End) → Sorted path row
    → Looks (calm path (row ∷ rows) ended)
    (with_row (sort_of row) row rows (body (is_closed_end ended) (adds row) rows))
look_row = grind (arith, nat_tests)

pub looks : (s : Source) (b : Body) → View s b → Looks s b
looks s b (Nothing path ended e w) = rw (e, ← w) (look_nothing path ended)
looks s b (InTail text rows ended e f w) = grind (arith, nat_tests)
looks s b (AtRow n ns row rows ended e o f w) =
    rw (e, ← w) (look_row (Spines (n ∷ ns)) row rows ended (sorted n ns o row f.0))

-- In a round: the next unit is still to be given, or none is left of those up to a place.
abbrev pub GoneBefore : ℕ → List (List Row) → Type 0
GoneBefore k [] = Unit {0}
GoneBefore k ([] ∷ units) = ⊥
GoneBefore k ((row ∷ rows) ∷ units) =
    (4 ≤ rank (unit_place row)) × (rank (unit_place row) ≤ 7) × (rank (unit_place row) < k)

pub data InRound (k : ℕ) (s : Source) (b : Body) : Type 0 where
  Waits : (n : List ℕ) (ns : List (List ℕ)) (row : Row) (rows : List Row) (ended : Option end.End)
      → s ≡ waiting (Spines (n ∷ ns)) row rows ended → is_inside (Spines (n ∷ ns)) ≡ false
      → Follow (Spines (n ∷ ns)) (row ∷ rows)
      → body (is_closed_end ended) false (row ∷ rows) ≡ b
      → k ≤ rank (place (Spines (n ∷ ns)) row) → rank (place (Spines (n ∷ ns)) row) ≤ 7
      → InRound k s b
  Gone : InBody s (behind_unit b) → GoneBefore k b.units → InRound k s b

pub gone_later : (k : ℕ) (units : List (List Row)) → GoneBefore k units → GoneBefore (suc k) units
gone_later = grind (arith, nat_tests)

pub round_sees : (k : ℕ) (s : Source) (b : Body) → k ≤ 11 → InRound k s b → Sees true k s
round_sees = grind (arith, nat_tests)

-- A unit that begins spines.
no_pending : (whole : Bool) (rows : List Row) → (body whole false rows).pending ≡ []
no_pending whole [] = refl
no_pending whole (Comment text ∷ rows) = no_pending whole rows
no_pending whole (Spined Local tokens ∷ rows) = no_pending whole rows
no_pending whole (Spined Values tokens ∷ rows) = no_pending whole rows
no_pending whole (Spined Interpretation tokens ∷ rows) = grind (arith, nat_tests, no_pending whole rows)

unpending : (b : Body) → b.pending ≡ [] → record b { pending = [] } ≡ b
unpending b h = ap (λ (rows : List Row). record b { pending = rows }) (sym h)

inside_at : (path : Path) (row : Row) → stands path ≡ true → is_inside path ≡ true
    → place path row ≡ inside_place row
inside_at = grind (arith, nat_tests)

abbrev pub inside_of : Path → List Row → Option end.End → Source
inside_of path rows ended = record { path = path; due = true; coming = rows; ended = ended }

missing_among : (path : Path) (ended : Option end.End) (done behind : List Source)
    → list_any (is_missing (any_due (done ++ inside_of path [] ended ∷ behind)))
    (done ++ inside_of path [] ended ∷ behind) ≡ true
missing_among = grind (arith, common_steps)

abbrev pub Bare : Source → Body → Type 0
Bare s b = InBody s (record b { pending = [] })

pub inside_does : (whole : Bool) (rows : List Row) (path : Path) (ended : Option end.End)
    (done behind : List Source)
    → is_closed_end ended ≡ whole → stands path ≡ true → is_inside path ≡ true → Follow path rows
    → AllSee true 2 done → AllSee true 2 behind
    → Does (record {
      parts = map (alone (length done) (length behind)) (body whole true rows).pending;
      goes = list_any (λ r. not (is_comment r)) (body whole true rows).pending;
    }) (done ++ inside_of path rows ended ∷ behind) (Leaves Bare (body whole true rows) done behind)
inside_does whole [] path ended done behind wh st i f d w =
    grind (arith, nat_tests, stop_parts, meets_missing, missing_among)
inside_does whole (Comment text ∷ rows) path ended done behind wh st i f d w =
    let same : gone path (Comment text) rows ended ≡ inside_of path rows ended =
    ap (λ (b : Bool). record { path = path; due = b; coming = rows; ended = ended }) i in
    does_more (alone (length done) (length behind) (Comment text))
    (map (alone (length done) (length behind)) (body whole true rows).pending)
    (list_any (λ r. not (is_comment r)) (body whole true rows).pending)
    (done ++ inside_of path (Comment text ∷ rows) ended ∷ behind)
    (done ++ inside_of path rows ended ∷ behind)
    (Leaves Bare (body whole true (Comment text ∷ rows)) done behind)
    (λ qs m. alone_step Aside path (Comment text) rows ended done behind qs
    (inside_at path (Comment text) st i) refl refl f (see_more 1 2 done (omega arith) d)
    (see_more 0 2 behind (omega arith) w) (rw same m))
    (inside_does whole rows path ended done behind wh st i f.1 d w)
inside_does whole (Spined kind tokens ∷ rows) path ended done behind wh st i f d w =
    begun path st i f
  where
    begun : (path : Path) → stands path ≡ true → is_inside path ≡ true
        → Follow path (Spined kind tokens ∷ rows)
        → Does (record {
          parts = map (alone (length done) (length behind)) (body whole true (Spined kind tokens ∷ rows)).pending;
          goes = true;
        }) (done ++ inside_of path (Spined kind tokens ∷ rows) ended ∷ behind)
        (Leaves Bare (body whole true (Spined kind tokens ∷ rows)) done behind)
    begun Unopened st i f = cc
    begun (Spines names) st i f =
        let b = begins names (Spined kind tokens) i refl f.0 in
        let p = no_pending whole rows in
        let here : InBody (gone (Spines names) (Spined kind tokens) rows ended)
        (record (body whole false rows) { pending = [] }) =
        rw b.out (body_stands (after (Spines names) (Spined kind tokens)) rows ended _ b.stand b.out f.1
        (rw wh (sym (unpending (body whole false rows) p)))) in
        rw p
        (does_more (alone (length done) (length behind) (Spined kind tokens)) [] true
        (done ++ inside_of (Spines names) (Spined kind tokens ∷ rows) ended ∷ behind)
        (done ++ gone (Spines names) (Spined kind tokens) rows ended ∷ behind)
        (Leaves Bare (body whole true (Spined kind tokens ∷ rows)) done behind)
        (λ qs m. alone_step Begins (Spines names) (Spined kind tokens) rows ended done behind qs
        (inside_at (Spines names) (Spined kind tokens) st i) refl refl f
        (see_more 2 2 done (omega arith) d) (see_more 1 2 behind (omega arith) w) m)
        (does_nothing _ (Leaves Bare (body whole true (Spined kind tokens ∷ rows)) done behind)
        (gone (Spines names) (Spined kind tokens) rows ended, refl, here)))

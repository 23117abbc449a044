-- What the clock has leading to each spine's next cell, by places.
use Rattle.std.proofs.lemmas.Bool.Decides.{nat_tests}
use Rattle.std.proofs.lemmas.Grind.{common_steps}
use Rattle.std.proofs.Common.{◌≡◌, ◌∙◌, refl, sym, ap, ℕ, zero, suc, ◌+◌, ◌<◌, ◌⊎◌, ◌↔◌, inl, inr, arith}
use Rattle.std.proofs.Common.{Bool, true, false, List, [], ◌∷◌, map, length, get_or}
use Rattle.std.proofs.Common.{Option, None, Some, slice_get}
use Rattle.std.specs.List.{Contains}
use Rattle.std.proofs.lemmas.List.{length-map}
use Rattle.std.proofs.lemmas.List.Elements.{Contains-append_left, Contains-append_right, Contains-append_cases}
use Rattle.hum_score.specs.declared.records.SpinedKind.TheVariants.{Local, Interpretation, Values}
use Rattle.hum_score.specs.Row.{Row, Comment, Spined}
use Rattle.hum_score.specs.declared.spines.Move.{Move}
use Rattle.hum_score.specs.Spines.{Path, Unopened, Spines, width, exclusives, moves_at}
use Rattle.hum_score.specs.Score.{IsOpen, path_after}
use Rattle.hum_score.proofs.Cases.{by_bool}
use Rattle.hum_frac.specs.Ratio.{Ratio}
use Rattle.hum_path.specs.Chains.{goes_on}
use Rattle.hum_path.proofs.Plain.{sound_width}
use Rattle.hum_path.proofs.Widths.{text_width, moves_width}
use Rattle.hum_timebase.specs.Pairs.{paired, over}
use Rattle.hum_timebase.specs.Notes.{is_timed, own_name, own_names, note_of, timed_in, timed_at, notes_of}
use Rattle.hum_timebase.specs.Ends.{Note, if_timed, own_or, living_before, led_by}
use Rattle.hum_timebase.specs.Clock.{Clock, clock_after, ticked}
use Rattle.hum_places.specs.Clock.{IsBelow, name_at, note_at, time_at, Leads, LeadsByPlace}
use Rattle.hum_places.proofs.Below.{GoesOn, some_same, below_is, below_within}

-- ---- lists side by side

pub over_length : {A B : Type 0} (f : A → B → B) (xs : List A) (ys : List B) → length (over f xs ys) ≡ length ys
over_length f [] ys = refl
over_length f (x ∷ xs) [] = refl
over_length f (x ∷ xs) (y ∷ ys) = ap suc (over_length f xs ys)

over_at : {A B : Type 0} (f : A → B → B) (xs : List A) (ys : List B) (i : ℕ) (a : A) (b : B) → i < length xs → i < length ys
    → get_or (over f xs ys) i b ≡ f (get_or xs i a) (get_or ys i b)
over_at f [] ys i a b p q = absurd (omega (arith, p))
over_at f (x ∷ xs) [] i a b p q = absurd (omega (arith, q))
over_at f (x ∷ xs) (y ∷ ys) zero a b p q = refl
over_at f (x ∷ xs) (y ∷ ys) (suc i) a b p q = over_at f xs ys i a b (omega (arith, p)) (omega (arith, q))

paired_at : {A B C : Type 0} (f : A → B → C) (xs : List A) (ys : List B) (i : ℕ) (a : A) (b : B) (c : C) → i < length xs → i < length ys
    → get_or (paired f xs ys) i c ≡ f (get_or xs i a) (get_or ys i b)
paired_at = grind (arith, common_steps)

pub paired_length : {A B C : Type 0} (f : A → B → C) (xs : List A) (ys : List B) → length xs ≡ length ys → length (paired f xs ys) ≡ length ys
paired_length f [] [] e = refl
paired_length f [] (y ∷ ys) e = absurd (omega (arith, e))
paired_length f (x ∷ xs) [] e = absurd (omega (arith, e))
paired_length f (x ∷ xs) (y ∷ ys) e = ap suc (paired_length f xs ys (omega (arith, e)))

map_at : {A B : Type 0} (f : A → B) (xs : List A) (i : ℕ) (a : A) → get_or (map f xs) i (f a) ≡ f (get_or xs i a)
map_at = grind (arith, common_steps)

names_length : (names tokens : List (List ℕ)) → length (own_names names tokens) ≡ length tokens
names_length names [] = refl
names_length [] (token ∷ tokens) = ap suc (names_length [] tokens)
names_length (name ∷ names) (token ∷ tokens) = ap suc (names_length names tokens)

names_at : (names tokens : List (List ℕ)) (j : ℕ) → j < length tokens
    → get_or (own_names names tokens) j [] ≡ own_name (get_or names j []) (get_or tokens j [])
names_at names [] j h = absurd (omega (arith, h))
names_at [] (token ∷ tokens) zero h = refl
names_at [] (token ∷ tokens) (suc j) h = names_at [] tokens j (omega (arith, h))
names_at (name ∷ names) (token ∷ tokens) zero h = refl
names_at (name ∷ names) (token ∷ tokens) (suc j) h = names_at names tokens j (omega (arith, h))

-- ---- what a note is among

none_in : {X : Type 0} {note : Note} → Contains [] note → X
none_in h = let w = h.1 in absurd (omega (arith, w))

pub timed_in_is : (timed : Bool) (notes : List Note) (note : Note) → Contains (if_timed timed notes) note ↔ ((timed ≡ true) × Contains notes note)
timed_in_is = grind (arith, nat_tests)

-- what a cell has after a record that has a time or none
abbrev after_cell : Option Ratio → Option Ratio → List Note → List Note
after_cell None own before = before
after_cell (Some time) own before = own_or time own before

struck_is : (time own : Option Ratio) (before : List Note) (note : Note)
    → Contains (after_cell time own before) note
    ↔ (((own ≡ Some note.lasting) × (time ≡ Some note.onset)) ⊎ (((own ≡ None) ⊎ (time ≡ None)) × Contains before note))
struck_is = grind (arith, nat_tests)

-- what leads on by a move, from place j on
record LeadsFrom (j : ℕ) (move : Move) (after : List (List Note)) (note : Note) : Type 0 where
  place : ℕ
  within : place < length after
  goes : goes_on (j + place) move ≡ true
  among : Contains (get_or after place []) note

led_in : (j : ℕ) (move : Move) (after : List (List Note)) (note : Note) → Contains (led_by j move after) note → LeadsFrom j move after note
led_in j move [] note h = none_in h
led_in j move (notes ∷ after) note h = by_bool (goes_on j move)
    (λ w. elim (Contains-append_cases notes (led_by (j + 1) move after) note (rw w at h)) [
      | inl v ↦ record { place = zero; within = omega arith; goes = ap (λ (n : ℕ). goes_on n move) {x = j + zero} {y = j} (omega arith) ∙ w; among = v }
      | inr v ↦ further (led_in (j + 1) move after note v)
    ])
    (λ w. further (led_in (j + 1) move after note (rw w at h)))
  where
    further : LeadsFrom (j + 1) move after note → LeadsFrom j move (notes ∷ after) note
    further f = let within = f.within in record {
      place = suc f.place;
      within = omega (arith, within);
      goes = ap (λ (n : ℕ). goes_on n move) {x = j + suc f.place} {y = j + 1 + f.place} (omega arith) ∙ f.goes;
      among = f.among;
    }

in_led : (j : ℕ) (move : Move) (after : List (List Note)) (note : Note) (k : ℕ) → k < length after → goes_on (j + k) move ≡ true
    → Contains (get_or after k []) note → Contains (led_by j move after) note
in_led j move [] note k h goes among = absurd (omega (arith, h))
in_led j move (notes ∷ after) note zero h goes among =
    let here : goes_on j move ≡ true = ap (λ (n : ℕ). goes_on n move) {x = j} {y = j + zero} (omega arith) ∙ goes in
    rw here (Contains-append_left notes (led_by (j + 1) move after) note among)
in_led j move (notes ∷ after) note (suc k) h goes among =
    let there : goes_on (j + 1 + k) move ≡ true = ap (λ (n : ℕ). goes_on n move) {x = j + 1 + k} {y = j + suc k} (omega arith) ∙ goes in
    let more = in_led (j + 1) move after note k (omega (arith, h)) there among in
    by_bool (goes_on j move)
    (λ w. rw w (Contains-append_right notes (led_by (j + 1) move after) note more))
    (λ w. rw w more)

-- ---- one record

ticked_length : (clock : Clock) (time : Option Ratio) (notes : List (Option Ratio)) (before : List (List Note))
    → length (ticked clock time notes before).leading ≡ length before
ticked_length = grind (arith, nat_tests, over_length)

pub leading_width : (past : List Row) → IsOpen past → length (clock_after past).leading ≡ width (path_after past)
leading_width [] h = refl
leading_width (Comment text ∷ past) h = leading_width past h.0
leading_width (Spined Local tokens ∷ past) h = grind (arith, nat_tests, leading_width past h.0, over_length)
leading_width (Spined Values tokens ∷ past) h = simp (leading_width past h.0, ticked_length, over_length)
leading_width (Spined Interpretation tokens ∷ past) h = grind (arith, nat_tests, length-map, moves_width)

abbrev pub leading_at : List Row → ℕ → List Note
leading_at past i = get_or (clock_after past).leading i []

-- what lives before a cell of a record without moves
pub before_at : (past : List Row) → IsOpen past → (i : ℕ) → i < width (path_after past)
    → get_or (living_before (timed_in (path_after past)) (clock_after past).leading) i []
    ≡ if_timed (is_timed (name_at past i)) (leading_at past i)
before_at past h i below =
    let size = leading_width past h in
    let wide = length-map (exclusives (path_after past)) is_timed in
    over_at if_timed (timed_in (path_after past)) (clock_after past).leading i false [] (omega (arith, wide, below)) (omega (arith, size, below))
    ∙ ap (λ (b : Bool). if_timed b (leading_at past i)) (map_at is_timed (exclusives (path_after past)) i [])

-- and before one of an interpretation
before_under : (past : List Row) → IsOpen past → (tokens : List (List ℕ)) → length tokens ≡ width (path_after past) → (j : ℕ) → j < length tokens
    → get_or (living_before (timed_at (path_after past) tokens) (clock_after past).leading) j []
    ≡ if_timed (is_timed (own_name (name_at past j) (get_or tokens j []))) (leading_at past j)
before_under past h tokens as_wide j below =
    let size = leading_width past h in
    let names = own_names (exclusives (path_after past)) tokens in
    let wide = length-map names is_timed in
    let many = names_length (exclusives (path_after past)) tokens in
    over_at if_timed (timed_at (path_after past) tokens) (clock_after past).leading j false [] (omega (arith, wide, many, below)) (omega (arith, size, as_wide, below))
    ∙ ap (λ (b : Bool). if_timed b (leading_at past j)) (map_at is_timed names j []
    ∙ ap is_timed (names_at (exclusives (path_after past)) tokens j below))

-- the notes of a record that is as wide as the spines
pub notes_at : (past : List Row) (tokens : List (List ℕ)) → length tokens ≡ width (path_after past) → (i : ℕ) → i < length tokens
    → get_or (notes_of (timed_in (path_after past)) tokens) i None ≡ note_at past tokens i
notes_at past tokens as_wide i below =
    let wide = length-map (exclusives (path_after past)) is_timed in
    paired_at note_of (timed_in (path_after past)) tokens i false [] None (omega (arith, wide, as_wide, below)) below
    ∙ ap (λ (b : Bool). note_of b (get_or tokens i [])) (map_at is_timed (exclusives (path_after past)) i [])

ticked_at : (clock : Clock) (time : Option Ratio) (notes : List (Option Ratio)) (before : List (List Note)) (i : ℕ)
    → i < length notes → i < length before
    → get_or (ticked clock time notes before).leading i [] ≡ after_cell time (get_or notes i None) (get_or before i [])
ticked_at = grind (arith, nat_tests, over_at)

-- before the opening nothing leads anywhere
unopened : (past : List Row) → IsOpen past → path_after past ≡ Unopened → (i : ℕ) (note : Note) → Leads past i note → ⊥
unopened [] h e i note w = w
unopened (Comment text ∷ past) h e i note w = unopened past h.0 e i note w
unopened (Spined Interpretation tokens ∷ past) h e i note w = cc
unopened (Spined Local tokens ∷ past) h e i note w = let no = rw e at h.1 in cc
unopened (Spined Values tokens ∷ past) h e i note w = let no = rw e at h.1 in cc

unopened_none : (past : List Row) → IsOpen past → path_after past ≡ Unopened → (clock_after past).leading ≡ []
unopened_none [] h e = refl
unopened_none (Comment text ∷ past) h e = unopened_none past h.0 e
unopened_none (Spined Interpretation tokens ∷ past) h e = cc
unopened_none (Spined Local tokens ∷ past) h e = let no = rw e at h.1 in cc
unopened_none (Spined Values tokens ∷ past) h e = let no = rw e at h.1 in cc

some_at : {X : Type 0} (xs : List X) (i : ℕ) → i < length xs → (x : X) × (slice_get xs i ≡ Some x)
some_at [] i h = absurd (omega (arith, h))
some_at (x ∷ xs) zero h = (x, refl)
some_at (x ∷ xs) (suc i) h = some_at xs i (omega (arith, h))

map_get : {A B : Type 0} (f : A → B) (xs : List A) (i : ℕ) (x : A) (e : B) → slice_get xs i ≡ Some x → get_or (map f xs) i e ≡ f x
map_get f [] i x e h = cc
map_get f (y ∷ xs) zero x e h = let same : y ≡ x = cc in ap f same
map_get f (y ∷ xs) (suc i) x e h = map_get f xs i x e h

abbrev before_interpretation : List Row → List (List ℕ) → List (List Note)
before_interpretation past tokens = living_before (timed_at (path_after past) tokens) (clock_after past).leading

module _ (past : List Row) (tokens : List (List ℕ)) (h : IsOpen (Spined Interpretation tokens ∷ past))
    (further : LeadsByPlace past) (i : ℕ) (note : Note)
    (many : i < length (moves_at (path_after past) tokens)) (m : Move) (is : slice_get (moves_at (path_after past) tokens) i ≡ Some m) where
  before_size : length (before_interpretation past tokens) ≡ width (path_after past)
  before_size = over_length if_timed (timed_at (path_after past) tokens) (clock_after past).leading ∙ leading_width past h.0

  -- under spines
  as_wide : (names : List (List ℕ)) → path_after past ≡ Spines names → length tokens ≡ width (path_after past)
  as_wide names e = sound_width names tokens (rw e at h.1) ∙ ap width (sym e)

  below_there : (names : List (List ℕ)) → path_after past ≡ Spines names → (j : ℕ) → j < length tokens
      → IsBelow tokens j i ↔ GoesOn (moves_at (path_after past) tokens) j i
  below_there names e j cell = rw e (below_is names tokens (rw e at h.1) j i cell (rw e at many))

  led_up : LeadsFrom 0 m (before_interpretation past tokens) note → Leads (Spined Interpretation tokens ∷ past) i note
  led_up f = by_path (path_after past) refl
    where
      by_path : (path : Path) → path_after past ≡ path → Leads (Spined Interpretation tokens ∷ past) i note
      by_path Unopened e =
          let within = f.within in
          let size = before_size in
          let none : width (path_after past) ≡ 0 = ap width e in
          absurd (omega (arith, within, size, none))
      by_path (Spines names) e =
          let wide = as_wide names e in
          let within = f.within in
          let size = before_size in
          let cell : f.place < length tokens = omega (arith, within, size, wide) in
          let goes : goes_on f.place m ≡ true = ap (λ (n : ℕ). goes_on n m) {x = f.place} {y = 0 + f.place} (omega arith) ∙ f.goes in
          let alive = (timed_in_is (is_timed (own_name (name_at past f.place) (get_or tokens f.place []))) (leading_at past f.place) note).0
          (rw (before_under past h.0 tokens wide f.place cell) at f.among) in
          (f.place, (below_there names e f.place cell).1 (m, is, goes), alive.0, (further f.place note (omega (arith, cell, wide))).0 alive.1)

  led_down : Leads (Spined Interpretation tokens ∷ past) i note → Contains (led_by 0 m (before_interpretation past tokens)) note
  led_down (j, below, timed, leads) = by_path (path_after past) refl
    where
      by_path : (path : Path) → path_after past ≡ path → Contains (led_by 0 m (before_interpretation past tokens)) note
      by_path Unopened e = absurd (unopened past h.0 e j note leads)
      by_path (Spines names) e =
          let wide = as_wide names e in
          let cell = below_within names tokens (rw e at h.1) j i below in
          let size = before_size in
          let goes = (below_there names e j cell).0 below in
          let same : goes.0 ≡ m = some_same (sym goes.1 ∙ is) in
          let here : goes_on (0 + j) m ≡ true = ap (λ (n : ℕ). goes_on n m) {x = 0 + j} {y = j} (omega arith)
          ∙ ap (goes_on j) (sym same) ∙ goes.2 in
          let alive = (timed_in_is (is_timed (own_name (name_at past j) (get_or tokens j []))) (leading_at past j) note).1
          (timed, (further j note (omega (arith, cell, wide))).1 leads) in
          in_led 0 m (before_interpretation past tokens) note j (omega (arith, cell, size, wide)) here
          (rw (before_under past h.0 tokens wide j cell) alive)

pub leads_by_place : (past : List Row) → IsOpen past → LeadsByPlace past
leads_by_place [] h i note below = absurd (omega (arith, below))
leads_by_place (Comment text ∷ past) h i note below = leads_by_place past h.0 i note below
leads_by_place (Spined Local tokens ∷ past) h i note below =
    grind (arith, nat_tests, leads_by_place past h.0 i note below, before_at, timed_in_is)
leads_by_place (Spined Values tokens ∷ past) h i note below =
    let clock = clock_after past in
    let timed = timed_in (path_after past) in
    let notes = notes_of timed tokens in
    let before = living_before timed clock.leading in
    let wide = text_width (path_after past) tokens h.1 in
    let within : i < length tokens = omega (arith, wide, below) in
    let many = paired_length note_of timed tokens (length-map (exclusives (path_after past)) is_timed ∙ sym wide) in
    let size = over_length if_timed timed clock.leading in
    let lead = leading_width past h.0 in
    let at = ticked_at clock (time_at past tokens) notes before i (omega (arith, many, within)) (omega (arith, size, lead, below))
    ∙ ap (λ (n : Option Ratio). after_cell (time_at past tokens) n (get_or before i [])) (notes_at past tokens wide i within)
    ∙ ap (after_cell (time_at past tokens) (note_at past tokens i)) (before_at past h.0 i below) in
    let living = if_timed (is_timed (name_at past i)) (leading_at past i) in
    let here = struck_is (time_at past tokens) (note_at past tokens i) living note in
    let alive = timed_in_is (is_timed (name_at past i)) (leading_at past i) note in
    let further = leads_by_place past h.0 i note below in (
      λ w. elim (here.0 (rw at at w)) [
        | inl v ↦ inl (record { lasting = v.0; onset = v.1 })
        | inr v ↦ let u = alive.0 v.1 in inr (v.0, u.0, further.0 u.1)
      ],
      λ w. rw at (here.1 (elim w [
        | inl v ↦ inl (v.lasting, v.onset)
        | inr v ↦ inr (v.0, alive.1 (v.1, further.1 v.2))
      ])),
    )
leads_by_place (Spined Interpretation tokens ∷ past) h i note below =
    let found = moves_at (path_after past) tokens in
    let size = moves_width (path_after past) tokens in
    let many : i < length found = omega (arith, size, below) in
    let m = some_at found i many in
    let at = map_get (λ move. led_by 0 move (before_interpretation past tokens)) found i m.0 [] m.1 in (
      λ w. led_up past tokens h (leads_by_place past h.0) i note many m.0 m.1 (led_in 0 m.0 (before_interpretation past tokens) note (rw at at w)),
      λ w. rw at (led_down past tokens h (leads_by_place past h.0) i note many m.0 m.1 w),
    )

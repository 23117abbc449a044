-- Group after group, the closing records.
use Rattle.std.proofs.lemmas.Bool.Decides.{nat_tests}
use Rattle.std.proofs.Common.{◌≡◌, ◌∙◌, refl, sym, ap, ℕ, zero, suc, ◌+◌, ◌≤◌, ◌<◌, Bool, true}
use Rattle.std.proofs.Common.{false, not, ◌||◌, List, [], ◌∷◌, length, arith}
use Rattle.std.proofs.Common.{map}
use Rattle.std.specs.Prelude.{Option, None, Some, is_some, ◌==◌}
use Rattle.std.specs.List.{list_any, list_all, AllByRecursion}
use Rattle.hum_score.specs.Row.{Row}
use Rattle.hum_score.specs.Spines.{Path, Spines}
use Rattle.hum_score.specs.InOrder.{Follow}
use Rattle.hum_stage.specs.declared.faults.End as end
use Rattle.hum_assemble.specs.declared.places.Place.{Place}
use Rattle.hum_assemble.specs.declared.places.Place.TheVariants.{Note, Closing}
use Rattle.hum_assemble.specs.Source.{Source, is_inside}
use Rattle.hum_assemble.specs.Places.{rank, step, is_over}
use Rattle.hum_assemble.specs.Round.{is_missing, any_due, in_round}
use Rattle.hum_assemble.specs.Taking.{is_at}
use Rattle.hum_assemble.specs.Groups.{Body, nothing, with_row, body, sort_of, adds}
use Rattle.hum_assemble.specs.Groups.{Sort, Closes, IsData, is_closed_end}
use Rattle.hum_assemble.specs.Groups.{has_some, behind_unit, behind_first, most, then_on}
use Rattle.hum_assemble.specs.Groups.{where_known, where_any, together, unit_round, rounds, groups}
use Rattle.hum_assemble.specs.Groups.{next_data, next_group, shows_unit, shows_data, shows_closing}
use Rattle.hum_assemble.specs.Groups.{closings}
use Rattle.hum_assemble.proofs.Written.{Meets, Sees, meets_missing}
use Rattle.hum_assemble.proofs.Does.{Does, does_weaken, does_then, does_known, does_any, does_nothing}
use Rattle.hum_assemble.proofs.Does.{Both, Shares, does_together}
use Rattle.hum_assemble.proofs.Apart.{waiting, gone}
use Rattle.hum_assemble.proofs.Beginning.{Idle, Spans, takes_part, begun_at, does_begin}
use Rattle.hum_assemble.proofs.Sorting.{Sorted, AsClosing, AsData, AsAdds, AsSingle, sorted}
use Rattle.hum_assemble.proofs.Bodies.{InBody, InRound, Waits, View, Nothing, InTail, AtRow, view}
use Rattle.hum_assemble.proofs.Bodies.{Fits}
use Rattle.hum_assemble.specs.Groups.{is_comment}
use Rattle.hum_assemble.proofs.Bodies.{looks, calm, body_stands}
use Rattle.hum_assemble.proofs.Units.{round_does, both_map}

module _ {V : Type 0} (R : Source → V → Type 0) where
  pub both_any : (f : Source → Bool) (g : V → Bool) → ((s : Source) (v : V) → R s v → f s ≡ g v)
      → (ss : List Source) (vs : List V) → Both R ss vs → list_any f ss ≡ list_any g vs
  both_any f g e (s ∷ ss) (v ∷ vs) h = rw (e s v h.0, both_any f g e ss vs h.1) refl
  both_any f g h ss vs k = grind (arith, nat_tests)

  pub both_missing : (f : Source → Bool) (g : V → Bool)
      → ((s : Source) (v : V) → R s v → f s ≡ not (g v))
      → (ss : List Source) (vs : List V) → Both R ss vs → list_any f ss ≡ not (list_all g vs)
  both_missing f g e (s ∷ ss) (v ∷ vs) h = grind (arith, nat_tests, both_missing f g e ss vs h.1)
  both_missing f g h ss vs k = grind (arith, nat_tests)

  pub both_all : (P : Source → Type 0) → ((s : Source) (v : V) → R s v → P s)
      → (ss : List Source) (vs : List V) → Both R ss vs → AllByRecursion P ss
  both_all P e (s ∷ ss) (v ∷ vs) h = (e s v h.0, both_all P e ss vs h.1)
  both_all P h ss vs k = grind (arith, nat_tests)

  pub both_known : (test : V → Bool) (ss : List Source) (vs : List V) → Both R ss vs
      → list_all test vs ≡ true → Both (λ s v. R s v × (test v ≡ true)) ss vs
  both_known test (s ∷ ss) (v ∷ vs) h k = grind (arith, nat_tests, both_known test ss vs h.1)
  both_known test ss vs h k = grind (arith, nat_tests)

  pub both_none : (test : V → Bool) (ss : List Source) (vs : List V) → Both R ss vs
      → list_any test vs ≡ false → Both (λ s v. R s v × (test v ≡ false)) ss vs
  both_none test (s ∷ ss) (v ∷ vs) h k = grind (arith, nat_tests, both_none test ss vs h.1)
  both_none test ss vs h k = grind (arith, nat_tests)

  pub both_moved : (f : Source → Source) (Q : Source → V → Type 0)
      → ((s : Source) (v : V) → R s v → Q (f s) v)
      → (ss : List Source) (vs : List V) → Both R ss vs → Both Q (map f ss) vs
  both_moved f Q e (s ∷ ss) (v ∷ vs) h = (e s v h.0, both_moved f Q e ss vs h.1)
  both_moved f Q h ss vs k = grind (arith, nat_tests)

  pub both_due : ((s : Source) (v : V) → R s v → s.due ≡ false)
      → (ss : List Source) (vs : List V) → Both R ss vs → any_due ss ≡ false
  both_due e (s ∷ ss) (v ∷ vs) h = rw (e s v h.0, both_due e ss vs h.1) refl
  both_due h ss vs k = grind (arith, nat_tests)

  -- where it isn't known of one what it has
  pub both_stuck : (test : V → Bool) → ((s : Source) (v : V) → R s v → s.due ≡ false)
      → ((s : Source) (v : V) → R s v → is_missing false s ≡ not (test v))
      → (ss : List Source) (vs : List V) → Both R ss vs → list_all test vs ≡ false → Meets ss []
  both_stuck test d e ss vs h k =
      meets_missing ss (rw (both_due d ss vs h) (both_missing (is_missing false) test e ss vs h ∙ rw k refl))

pub both_under : {V W : Type 0} (R : Source → W → Type 0) (f : V → W) (ss : List Source) (vs : List V)
    → Both R ss (map f vs) → Both (λ s v. R s (f v)) ss vs
both_under R f (s ∷ ss) (v ∷ vs) h = (h.0, both_under R f ss vs h.1)
both_under R f ss vs h = grind (arith, nat_tests)

pub both_over : {V W : Type 0} (R : Source → W → Type 0) (f : V → W) (ss : List Source) (vs : List V)
    → Both (λ s v. R s (f v)) ss vs → Both R ss (map f vs)
both_over R f (s ∷ ss) (v ∷ vs) h = (h.0, both_over R f ss vs h.1)
both_over R f ss vs h = grind (arith, nat_tests)

-- Each list is shorter than so much.
abbrev pub AllShort : {V : Type 0} → (V → ℕ) → ℕ → List V → Type 0
AllShort size n = AllByRecursion (λ v. size v < n)

pub most_short : {V : Type 0} (size : V → ℕ) (m : ℕ) (vs : List V) → most (map size vs) ≤ m
    → AllShort size (m + 1) vs
most_short size m [] h = tt
most_short size m (v ∷ vs) h = grind (arith, nat_tests, most_short size m vs)

pub none_short : {V : Type 0} (size : V → ℕ) (R Q : Source → V → Type 0) (ss : List Source)
    (vs : List V) → AllShort size 0 vs → Both R ss vs → Both Q ss vs
none_short size R Q [] [] l h = tt
none_short size R Q [] (v ∷ vs) l h = absurd h
none_short size R Q (s ∷ ss) [] l h = absurd h
none_short size R Q (s ∷ ss) (v ∷ vs) l h = let a = l.0 in absurd (omega (arith, a))

pub shorter : {X : Type 0} (n : ℕ) (xs : List X) → 1 ≤ n → length xs < suc n
    → length (behind_first xs) < n
shorter = grind (arith, nat_tests)

pub some_one : {V : Type 0} (size : V → ℕ) (test : V → Bool) (n : ℕ) (vs : List V)
    → ((v : V) → test v ≡ true → 1 ≤ size v) → AllShort size (suc n) vs → list_any test vs ≡ true
    → 1 ≤ n
some_one size test n [] e l h = cc
some_one size test n (v ∷ vs) e l h = grind (arith, nat_tests, some_one size test n vs e l.1)

pub all_shorter : {V : Type 0} (size : V → ℕ) (next : V → V) (n : ℕ) (vs : List V)
    → ((v : V) → size v < suc n → size (next v) < n) → AllShort size (suc n) vs
    → AllShort size n (map next vs)
all_shorter size next n [] e l = tt
all_shorter size next n (v ∷ vs) e l = (e v l.0, all_shorter size next n vs e l.1)

-- The units are one step.
four_low : (r : Place) → (step r == 4) ≡ true → rank r ≤ 7
four_low = grind (arith, nat_tests)

four_is : (q : Place) → 4 ≤ rank q → rank q ≤ 7 → (step q ≡ 4) × (is_over q ≡ false)
four_is = grind (arith, nat_tests)

four_spans : Spans 4 4
four_spans = λ q r a l h. let b = four_low r h in four_is q a (omega (arith, l, b))

-- A round of a group begins.
pub body_due : (s : Source) (b : Body) → InBody s b → s.due ≡ false
body_due s b h = h.idle

pub body_missing : (s : Source) (b : Body) → InBody s b → is_missing false s ≡ not (shows_unit b)
body_missing s b h = (looks s b (view s b h)).missing

pub body_idle : (s : Source) (b : Body) → InBody s b × (shows_unit b ≡ true) → Idle 4 s
body_idle s b h = grind (arith, nat_tests, looks s b (view s b h.0), view s b h.0)

unit_none : (b : Body) → b.units ≡ [] → behind_unit b ≡ b
unit_none = grind (arith, nat_tests)

pub begun_calm : (st : ℕ) (s : Source) → s.due ≡ false → takes_part st s ≡ false → begun_at st s ≡ s
begun_calm st s d t = ap (λ (b : Bool). record s { due = b }) (t ∙ sym d)

begin_row : (path : Path) (row : Row) (rows : List Row) (ended : Option end.End)
    → takes_part 4 (calm path (row ∷ rows) ended) ≡ true
    → begun_at 4 (calm path (row ∷ rows) ended) ≡ waiting path row rows ended
begin_row = grind (arith, nat_tests)

pub clash : (b : Bool) → b ≡ true → b ≡ false → ⊥
clash = grind (arith, nat_tests)

pub built : (row : Row) (rows : List Row) (whole : Bool) (b : Body) (sort : Sort)
    → body whole false (row ∷ rows) ≡ b → sort_of row ≡ sort
    → b ≡ with_row sort row rows (body whole (adds row) rows)
built = grind (arith, nat_tests)

begin_sorted : (n : List ℕ) (ns : List (List ℕ)) (row : Row) (rows : List Row)
    (ended : Option end.End) (b : Body) → is_inside (Spines (n ∷ ns)) ≡ false
    → Follow (Spines (n ∷ ns)) (row ∷ rows) → body (is_closed_end ended) false (row ∷ rows) ≡ b
    → has_some b.units ≡ true → takes_part 4 (calm (Spines (n ∷ ns)) (row ∷ rows) ended) ≡ true
    → Sorted (Spines (n ∷ ns)) row
    → InRound 4 (begun_at 4 (calm (Spines (n ∷ ns)) (row ∷ rows) ended)) b
begin_sorted n ns row rows ended b o f w u t (AsClosing s p a) = grind (arith, nat_tests)
begin_sorted n ns row rows ended b o f w u t (AsData s ad p a) = grind (arith, nat_tests)
begin_sorted n ns row rows ended b o f w u t (AsAdds s ad p at st i) =
    rw (begin_row (Spines (n ∷ ns)) row rows ended t)
    (Waits n ns row rows ended refl o f w (rw at (omega arith)) (rw at (omega arith)))
begin_sorted n ns row rows ended b o f w u t (AsSingle s ad p x y st i) =
    rw (begin_row (Spines (n ∷ ns)) row rows ended t)
    (Waits n ns row rows ended refl o f w (rw p x) (rw p y))

begin_some : (s : Source) (b : Body) → View s b → has_some b.units ≡ true → takes_part 4 s ≡ true
    → InRound 4 (begun_at 4 s) b
begin_some s b (Nothing path ended e w) u t = grind (arith, nat_tests)
begin_some s b (InTail text rows ended e f w) u t = grind (arith, nat_tests)
begin_some s b (AtRow n ns row rows ended e o f w) u t =
    rw e (begin_sorted n ns row rows ended b o f w u (rw e at t) (sorted n ns o row f.0))

no_units : (us : List (List Row)) → has_some us ≡ false → us ≡ []
no_units = grind (arith, nat_tests)

begin_unit : (s : Source) (b : Body) → InBody s b → InRound 4 (begun_at 4 s) b
begin_unit s b h =
    let l = looks s b (view s b h) in
    (elim (has_some b.units) as (λ u. has_some b.units ≡ u → InRound 4 (begun_at 4 s) b) [
      | true ↦ λ u. begin_some s b (view s b h) u (l.part ∙ u)
      | false ↦ grind (arith, nat_tests, no_units, begun_calm, unit_none)
    ]) refl

-- The rounds of a group.
abbrev pub Ready : Source → Body → Type 0
Ready s b = InBody s (record b { units = [] })

ready_none : (s : Source) (b : Body) → InBody s b × (has_some b.units ≡ false) → Ready s b
ready_none = grind (arith, nat_tests)

one_unit : (b : Body) → has_some b.units ≡ true → 1 ≤ length b.units
one_unit = grind (arith, nat_tests)

abbrev pub units_size : Body → ℕ
units_size b = length b.units

pub rounds_does : (n : ℕ) (ss : List Source) (bs : List Body) → AllShort units_size n bs
    → Both InBody ss bs → Does (rounds n bs) ss (λ x. Both Ready x bs)
rounds_does zero ss bs l h = grind (arith, nat_tests, does_nothing, none_short)
rounds_does (suc n) ss bs l h =
    does_known (list_all shows_unit bs) _ ss (λ x. Both Ready x bs)
    (both_stuck InBody shows_unit body_due body_missing ss bs h)
    (λ known.
    does_any (list_any (λ b. has_some b.units) bs) _ ss (λ x. Both Ready x bs)
    (λ none.
    both_map (λ s b. InBody s b × (has_some b.units ≡ false)) Ready ss bs ready_none
    (both_none InBody (λ b. has_some b.units) ss bs h none))
    (λ some.
    does_begin 4 4 (then_on (unit_round bs) (rounds n (map behind_unit bs))) ss (λ x. Both Ready x bs) (omega arith) four_spans
    (both_all (λ s b. InBody s b × (shows_unit b ≡ true)) (Idle 4) body_idle ss bs
    (both_known InBody shows_unit ss bs h known))
    (both_any InBody (takes_part 4) (λ b. has_some b.units) (λ s b h. (looks s b (view s b h)).part) ss bs h
    ∙ some)
    (does_then (unit_round bs) (rounds n (map behind_unit bs)) (map (begun_at 4) ss)
    (λ x. Both (λ s b. InBody s (behind_unit b)) x bs) (λ x. Both Ready x bs)
    (round_does (map (begun_at 4) ss) bs
    (both_moved InBody (begun_at 4) (InRound 4) begin_unit ss bs h))
    (λ x r.
    let o = some_one units_size (λ b. has_some b.units) n bs one_unit l some in
    does_weaken (rounds n (map behind_unit bs)) x (λ y. Both Ready y (map behind_unit bs))
    (λ x. Both Ready x bs)
    (rounds_does n x (map behind_unit bs)
    (all_shorter units_size behind_unit n bs (λ b k. shorter n b.units o k) l)
    (both_over InBody behind_unit x bs r))
    (λ y q. both_under Ready behind_unit y bs q)))))

-- One record of the data, or of the closing records.
pub quiet_shares : {V : Type 0} (p : Place) (f : V → Option Row) (Q : Source → V → Type 0)
    (s : Source) (v : V) → Sees false (rank p) s → s.due ≡ false → is_at false p s ≡ false
    → in_round false p s ≡ false → f v ≡ None → Q s v → Shares false p f Q s v
quiet_shares = grind (arith, nat_tests)

abbrev pub GroupOn : Source → Body → Type 0
GroupOn s c = InBody s (next_group c)

data_sorted : (n : List ℕ) (ns : List (List ℕ)) (row : Row) (rows : List Row)
    (ended : Option end.End) (c : Body) → is_inside (Spines (n ∷ ns)) ≡ false
    → Follow (Spines (n ∷ ns)) (row ∷ rows) → body (is_closed_end ended) false (row ∷ rows) ≡ c
    → has_some c.units ≡ false → Sorted (Spines (n ∷ ns)) row
    → Shares false Note next_data GroupOn (calm (Spines (n ∷ ns)) (row ∷ rows) ended) c
data_sorted n ns row rows ended c o f w u (AsClosing s p a) =
    let e : c ≡ with_row Closes row rows (body (is_closed_end ended) (adds row) rows) = sym w ∙ rw s refl in
    rw e
    (quiet_shares Note next_data GroupOn (calm (Spines (n ∷ ns)) (row ∷ rows) ended)
    (with_row Closes row rows (body (is_closed_end ended) (adds row) rows))
    (record { known = refl; later = rw p (omega arith); follow = f }) refl (rw p refl) (rw p refl) refl
    (record { idle = refl; follow = f; fits = o; is = w ∙ e }))
data_sorted n ns row rows ended c o f w u (AsData s ad p a) =
    let e : c ≡ with_row IsData row rows (body (is_closed_end ended) false rows) = sym w ∙ rw (s, ad) refl in
    let at : is_at false Note (calm (Spines (n ∷ ns)) (row ∷ rows) ended) ≡ true = rw p refl in
    let same : gone (Spines (n ∷ ns)) row rows ended ≡ calm (Spines (n ∷ ns)) rows ended =
    rw (a, o) refl in
    rw e (record {
      sees = record { known = refl; later = rw p (omega arith); follow = f };
      part = rw at refl;
      at = at;
      on = rw (at, same) (body_stands (Spines (n ∷ ns)) rows ended (body (is_closed_end ended) false rows) refl o (rw a at f.1) refl);
      stays = λ z. absurd (let v = sym at ∙ z in cc);
    })
data_sorted n ns row rows ended c o f w u (AsAdds s ad p at st i) = grind (arith, nat_tests)
data_sorted n ns row rows ended c o f w u (AsSingle s ad p x y st i) = grind (arith, nat_tests)

data_shares : (s : Source) (c : Body) → is_missing false s ≡ false → has_some c.units ≡ false
    → View s c → Shares false Note next_data GroupOn s c
data_shares s c k u (Nothing path ended e w) = grind (arith, nat_tests)
data_shares s c k u (InTail text rows ended e f w) = grind (arith, nat_tests)
data_shares s c k u (AtRow n ns row rows ended e o f w) =
    rw e (data_sorted n ns row rows ended c o f w u (sorted n ns o row f.0))

-- Group after group.
abbrev pub Spent : Source → Body → Type 0
Spent s b = InBody s (record b { units = []; further = [] })

abbrev pub further_size : Body → ℕ
further_size b = length b.further

pub any_map : {X Y : Type 0} (f : Y → Bool) (g : X → Y) (xs : List X)
    → list_any f (map g xs) ≡ list_any (λ x. f (g x)) xs
any_map f g [] = refl
any_map f g (x ∷ xs) = ap (λ (b : Bool). f (g x) || b) (any_map f g xs)

one_further : (b : Body) → is_some (next_data b) ≡ true → 1 ≤ length b.further
one_further = grind (arith, nat_tests)

ready_spent : (s : Source) (b : Body) → Ready s b × (is_some (next_data b) ≡ false) → Spent s b
ready_spent = grind (arith, nat_tests)

ready_due : (s : Source) (b : Body) → Ready s b → s.due ≡ false
ready_due s b h = h.idle

ready_missing : (s : Source) (b : Body) → Ready s b → is_missing false s ≡ not (shows_data b)
ready_missing s b h = body_missing s (record b { units = [] }) h

abbrev pub NextGroup : Source → Body → Type 0
NextGroup s b = InBody s (next_group b)

ready_shares : (s : Source) (b : Body) → Ready s b × (shows_data b ≡ true)
    → Shares false Note next_data NextGroup s b
ready_shares s b h =
    let d = data_shares s (record b { units = [] }) (ready_missing s b h.0 ∙ ap not h.1) refl
    (view s (record b { units = [] }) h.0) in
    record { sees = d.sees; part = d.part; at = d.at; on = d.on; stays = d.stays }

pub groups_does : (n : ℕ) (ss : List Source) (bs : List Body) → AllShort further_size n bs
    → Both InBody ss bs → Does (groups n bs) ss (λ x. Both Spent x bs)
groups_does zero ss bs l h = grind (arith, nat_tests, does_nothing, none_short)
groups_does (suc n) ss bs l h =
    does_then (rounds (most (map units_size bs) + 1) bs)
    (where_known (list_all shows_data bs)
    (where_any (list_any is_some (map next_data bs))
    (then_on (together (map next_data bs)) (groups n (map next_group bs))))) ss
    (λ x. Both Ready x bs) (λ x. Both Spent x bs)
    (rounds_does (most (map units_size bs) + 1) ss bs
    (most_short units_size (most (map units_size bs)) bs (omega arith)) h)
    (λ x r.
    does_known (list_all shows_data bs)
    (where_any (list_any is_some (map next_data bs))
    (then_on (together (map next_data bs)) (groups n (map next_group bs)))) x (λ x. Both Spent x bs)
    (both_stuck Ready shows_data ready_due ready_missing x bs r)
    (λ known.
    does_any (list_any is_some (map next_data bs))
    (then_on (together (map next_data bs)) (groups n (map next_group bs))) x (λ x. Both Spent x bs)
    (λ none.
    both_map (λ s b. Ready s b × (is_some (next_data b) ≡ false)) Spent x bs ready_spent
    (both_none Ready (λ b. is_some (next_data b)) x bs r (sym (any_map is_some next_data bs) ∙ none)))
    (λ some.
    does_then (together (map next_data bs)) (groups n (map next_group bs)) x
    (λ x. Both NextGroup x bs) (λ x. Both Spent x bs)
    (does_together false Note next_data NextGroup x bs refl refl
    (λ a. both_due Ready ready_due x bs r)
    (both_map (λ s b. Ready s b × (shows_data b ≡ true)) (Shares false Note next_data NextGroup) x bs
    ready_shares (both_known Ready shows_data x bs r known)))
    (λ y q.
    let o = some_one further_size (λ b. is_some (next_data b)) n bs one_further l
    (sym (any_map is_some next_data bs) ∙ some) in
    does_weaken (groups n (map next_group bs)) y (λ z. Both Spent z (map next_group bs))
    (λ z. Both Spent z bs)
    (groups_does n y (map next_group bs)
    (all_shorter further_size next_group n bs (λ b k. shorter n b.further o k) l)
    (both_over InBody next_group y bs q))
    (λ z w. both_under Spent next_group z bs w)))))

body_whole : (whole inside : Bool) (rows : List Row) → (body whole inside rows).whole ≡ whole
body_whole whole inside [] = refl
body_whole whole true (row ∷ rows) = body_whole whole (is_comment row) rows
body_whole whole false (row ∷ rows) = grind (arith, nat_tests, body_whole whole (adds row) rows)

tail_fits : (rows : List Row) → Fits (Spines []) rows
tail_fits = grind (arith, nat_tests)

pub tail_body : (rows : List Row) (ended : Option end.End) → Follow (Spines []) rows
    → InBody (calm (Spines []) rows ended) (record (nothing (is_closed_end ended)) { tail = rows })
tail_body rows ended f = record { idle = refl; follow = f; fits = tail_fits rows; is = refl }

abbrev pub closing_of : Body → Option Row
closing_of b = b.closing

abbrev pub Behind : Source → Body → Type 0
Behind s c = InBody s (record c { closing = None })

closing_sorted : (n : List ℕ) (ns : List (List ℕ)) (row : Row) (rows : List Row)
    (ended : Option end.End) (c : Body) → is_inside (Spines (n ∷ ns)) ≡ false
    → Follow (Spines (n ∷ ns)) (row ∷ rows) → body (is_closed_end ended) false (row ∷ rows) ≡ c
    → has_some c.units ≡ false → has_some c.further ≡ false → Sorted (Spines (n ∷ ns)) row
    → Shares false Closing closing_of Behind (calm (Spines (n ∷ ns)) (row ∷ rows) ended) c
closing_sorted n ns row rows ended c o f w u d (AsClosing s p a) =
    let e : c ≡ record (nothing (is_closed_end ended)) { closing = Some row; tail = rows } =
    grind (arith, nat_tests, built, body_whole) in
    let at : is_at false Closing (calm (Spines (n ∷ ns)) (row ∷ rows) ended) ≡ true = rw p refl in
    let same : gone (Spines (n ∷ ns)) row rows ended ≡ calm (Spines []) rows ended = rw a refl in
    rw e (record {
      sees = record { known = refl; later = rw p (omega arith); follow = f };
      part = rw at refl;
      at = at;
      on = rw (at, same) (tail_body rows ended (rw a at f.1));
      stays = λ z. absurd (clash (is_at false Closing (calm (Spines (n ∷ ns)) (row ∷ rows) ended)) at z);
    })
closing_sorted n ns row rows ended c o f w u d (AsData s ad p a) = grind (arith, nat_tests)
closing_sorted n ns row rows ended c o f w u d (AsAdds s ad p at st i) = grind (arith, nat_tests)
closing_sorted n ns row rows ended c o f w u d (AsSingle s ad p x y st i) = grind (arith, nat_tests)

closing_shares : (s : Source) (c : Body) → is_missing false s ≡ false → has_some c.units ≡ false
    → has_some c.further ≡ false → View s c → Shares false Closing closing_of Behind s c
closing_shares s c k u d (Nothing path ended e w) = grind (arith, nat_tests)
closing_shares s c k u d (InTail text rows ended e f w) = grind (arith, nat_tests)
closing_shares s c k u d (AtRow n ns row rows ended e o f w) =
    rw e (closing_sorted n ns row rows ended c o f w u d (sorted n ns o row f.0))

abbrev pub Ended : Source → Body → Type 0
Ended s b = InBody s (record b { units = []; further = []; closing = None })

spent_due : (s : Source) (b : Body) → Spent s b → s.due ≡ false
spent_due s b h = h.idle

spent_missing : (s : Source) (b : Body) → Spent s b → is_missing false s ≡ not (shows_closing b)
spent_missing s b h = body_missing s (record b { units = []; further = [] }) h

spent_shares : (s : Source) (b : Body) → Spent s b × (shows_closing b ≡ true)
    → Shares false Closing closing_of Ended s b
spent_shares s b h =
    let d = closing_shares s (record b { units = []; further = [] })
    (spent_missing s b h.0 ∙ ap not h.1) refl refl
    (view s (record b { units = []; further = [] }) h.0) in
    record { sees = d.sees; part = d.part; at = d.at; on = d.on; stays = d.stays }

pub closings_does : (ss : List Source) (bs : List Body) → Both Spent ss bs
    → Does (closings bs) ss (λ x. Both Ended x bs)
closings_does ss bs h =
    does_known (list_all shows_closing bs) (together (map closing_of bs)) ss (λ x. Both Ended x bs)
    (both_stuck Spent shows_closing spent_due spent_missing ss bs h)
    (λ known.
    does_together false Closing closing_of Ended ss bs refl refl
    (λ a. both_due Spent spent_due ss bs h)
    (both_map (λ s b. Spent s b × (shows_closing b ≡ true)) (Shares false Closing closing_of Ended) ss bs
    spent_shares (both_known Spent shows_closing ss bs h known)))

-- The front, the opening records, the tail, and all together.
use Rattle.std.proofs.lemmas.Bool.Decides.{nat_tests}
use Rattle.std.proofs.Common.{◌≡◌, ◌∙◌, refl, ap, ℕ, ◌+◌, ◌≤◌, Bool, true}
use Rattle.std.proofs.Common.{false, not, cond, List, [], ◌∷◌, length, arith}
use Rattle.std.proofs.Common.{map}
use Rattle.std.specs.Prelude.{Option, None, is_some, ◌==◌, nat_lt, slice_get}
use Rattle.std.specs.List.{list_all}
use Rattle.hum_score.specs.Row.{Row, Comment, Spined}
use Rattle.hum_score.specs.Spines.{Path, Unopened, Spines}
use Rattle.hum_score.specs.InOrder.{Follow}
use Rattle.hum_stage.specs.Meaning.{resting_state}
use Rattle.hum_stage.specs.declared.faults.Fault.{Fault}
use Rattle.hum_stage.specs.declared.faults.State.TheVariants.{Gives}
use Rattle.hum_assemble.specs.Meaning.{inputs_end, ends}
use Rattle.hum_assemble.specs.Groups.{fault_by_groups}
use Rattle.hum_stage.specs.declared.faults.End as end
use Rattle.hum_assemble.specs.declared.places.Place.{Place}
use Rattle.hum_assemble.specs.declared.places.Place.TheVariants.{Front, Opening, Tail}
use Rattle.hum_assemble.specs.Source.{Source, is_inside}
use Rattle.hum_assemble.specs.Change.{Input}
use Rattle.hum_assemble.specs.Places.{rank, step, is_over}
use Rattle.hum_assemble.specs.Round.{is_missing, place_at}
use Rattle.hum_assemble.specs.Meaning.{begun, AreScores, output, own_fault, Moment, all_of}
use Rattle.hum_assemble.specs.Groups.{Body, nothing, body, is_closed_end}
use Rattle.hum_assemble.specs.Groups.{opened}
use Rattle.hum_assemble.specs.Groups.{has_some, behind_first, most, then_on}
use Rattle.hum_assemble.specs.Groups.{shows_comment, next_comment}
use Rattle.hum_assemble.specs.Groups.{all_comments, tail_of, groups, closings}
use Rattle.hum_assemble.specs.Groups.{Cut, cut, cut_of, front_of, shows_opening, openings, merged}
use Rattle.hum_assemble.specs.Groups.{behind_openings, unopened}
use Rattle.hum_assemble.specs.Groups.{GivesByGroups, together, by_groups}
use Rattle.hum_assemble.proofs.Alone.{paths_of}
use Rattle.hum_assemble.proofs.Written.{Meets, Sees, meets_over}
use Rattle.hum_assemble.proofs.Does.{Does, does_weaken, does_then, does_known, does_finish}
use Rattle.hum_assemble.proofs.Does.{Both, Shares, does_together}
use Rattle.hum_assemble.proofs.Apart.{gone, MayGive, single_unit}
use Rattle.hum_assemble.proofs.Beginning.{Spans, takes_part, begun_at}
use Rattle.hum_assemble.proofs.Sorting.{Sorted, sorted}
use Rattle.hum_assemble.proofs.Sorting.{opened_row}
use Rattle.hum_assemble.proofs.Bodies.{InBody, View, Nothing, InTail, AtRow, view, looks, calm}
use Rattle.hum_assemble.proofs.Units.{both_map}
use Rattle.hum_assemble.proofs.Grouping.{both_all, both_known, both_due, both_stuck}
use Rattle.hum_assemble.proofs.Grouping.{both_over, Ended, Spent, tail_body}
use Rattle.hum_assemble.proofs.Grouping.{body_missing}
use Rattle.hum_assemble.proofs.Grouping.{most_short, further_size, groups_does}
use Rattle.hum_assemble.proofs.Grouping.{closings_does}
use Rattle.hum_assemble.proofs.Remarks.{Remarks, all_comments_does}

-- Front and tail are steps of their own.
two_low : (r : Place) → (step r == 2) ≡ true → rank r ≤ 2
two_low = grind (arith, nat_tests)

two_is : (q : Place) → 2 ≤ rank q → rank q ≤ 2 → (step q ≡ 2) × (is_over q ≡ false)
two_is = grind (arith, nat_tests)

two_spans : Spans 2 2
two_spans = λ q r a l h. let b = two_low r h in two_is q a (omega (arith, l, b))

ten_low : (r : Place) → (step r == 10) ≡ true → rank r ≤ 10
ten_low = grind (arith, nat_tests)

ten_is : (q : Place) → 10 ≤ rank q → rank q ≤ 10 → (step q ≡ 10) × (is_over q ≡ false)
ten_is = grind (arith, nat_tests)

ten_spans : Spans 10 10
ten_spans = λ q r a l h. let b = ten_low r h in ten_is q a (omega (arith, l, b))

-- The front.
pub record InFront (s : Source) (c : Cut) : Type 0 where
  pub rows : List Row
  pub ended : Option end.End
  pub is : s ≡ calm Unopened rows ended
  pub follow : Follow Unopened rows
  pub cut_is : cut (is_closed_end ended) rows ≡ c

abbrev pub next_front : Cut → Cut
next_front c = record c { front = behind_first c.front }

abbrev pub Opens : Source → Cut → Type 0
Opens s c = InFront s (record c { front = [] })

front_due : (s : Source) (c : Cut) → InFront s c → s.due ≡ false
front_due s c h = ap (λ (x : Source). x.due) h.is

front_follow : (s : Source) (c : Cut) → InFront s c → Follow s.path s.coming
front_follow s c h = rw h.is h.follow

missing_rows : (rows : List Row) (ended : Option end.End)
    → is_missing false (calm Unopened rows ended) ≡ not (shows_comment (front_of (cut (is_closed_end ended) rows)))
missing_rows = grind (arith, nat_tests)

front_missing : (s : Source) (c : Cut) → InFront s c
    → is_missing false s ≡ not (shows_comment (front_of c))
front_missing s c h = rw (h.is, ← h.cut_is) (missing_rows h.rows h.ended)

later_rows : (rows : List Row) (ended : Option end.End)
    → 2 ≤ rank (place_at false (calm Unopened rows ended))
later_rows = grind (arith, nat_tests)

front_later : (s : Source) (c : Cut) → InFront s c → 2 ≤ rank (place_at false s)
front_later s c h = rw h.is (later_rows h.rows h.ended)

part_rows : (rows : List Row) (ended : Option end.End)
    → takes_part 2 (calm Unopened rows ended)
    ≡ is_some (next_comment (front_of (cut (is_closed_end ended) rows)))
part_rows = grind (arith, nat_tests)

front_part : (s : Source) (c : Cut) → InFront s c
    → takes_part 2 s ≡ is_some (next_comment (front_of c))
front_part s c h = rw (h.is, ← h.cut_is) (part_rows h.rows h.ended)

abbrev pub FrontOn : Source → Cut → Type 0
FrontOn s c = InFront s (next_front c)

may_rows : (rows : List Row) (ended : Option end.End) → Follow Unopened rows
    → MayGive 2 FrontOn (next_comment (front_of (cut (is_closed_end ended) rows)))
    (begun_at 2 (calm Unopened rows ended)) (cut (is_closed_end ended) rows)
may_rows [] ended f = grind (arith, nat_tests)
may_rows (Comment text ∷ rows) ended f =
    single_unit FrontOn (cut (is_closed_end ended) (Comment text ∷ rows)) Front Unopened (Comment text)
    rows ended refl refl refl f refl
    (record { rows = rows; ended = ended; is = refl; follow = f.1; cut_is = refl })
may_rows (Spined kind tokens ∷ rows) ended f = grind (arith, nat_tests)

front_may : (s : Source) (c : Cut) → InFront s c
    → MayGive 2 FrontOn (next_comment (front_of c)) (begun_at 2 s) c
front_may s c h = rw (h.is, ← h.cut_is) (may_rows h.rows h.ended h.follow)

front_ends : (s : Source) (c : Cut) → InFront s c → is_some (next_comment (front_of c)) ≡ false
    → Opens s c
front_ends = grind (arith, nat_tests)

front_remarks : Remarks 2 front_of next_front InFront Opens
front_remarks = record {
  few = omega arith;
  spans = two_spans;
  due = front_due;
  follow = front_follow;
  missing = front_missing;
  later = front_later;
  part = front_part;
  may = front_may;
  looks_on = λ c. refl;
  ends = front_ends;
  on = λ s c h. h;
}

-- The opening records.
abbrev pub opening_row : Cut → Option Row
opening_row c = c.opening

abbrev pub OpenedAt : Source → Cut → Type 0
OpenedAt s c = InBody s c.body

opened_body : (tokens : List (List ℕ)) (rows : List Row) (ended : Option end.End)
    → is_inside (Spines tokens) ≡ false → Follow (Spines tokens) rows
    → InBody (calm (Spines tokens) rows ended) (opened tokens (is_closed_end ended) rows)
opened_body = grind (arith, nat_tests)

opening_missing : (s : Source) (c : Cut) → Opens s c → is_missing false s ≡ not (shows_opening c)
opening_missing = grind (arith, nat_tests)

opening_due : (s : Source) (c : Cut) → Opens s c → s.due ≡ false
opening_due s c h = ap (λ (x : Source). x.due) h.is

opening_rows : (rows : List Row) (ended : Option end.End) (d : Cut)
    → cut (is_closed_end ended) rows ≡ d → has_some d.front ≡ false → Follow Unopened rows
    → is_missing false (calm Unopened rows ended) ≡ false
    → Shares false Opening opening_row OpenedAt (calm Unopened rows ended) d
opening_rows [] ended d e n f k = grind (arith, nat_tests)
opening_rows (Comment text ∷ rows) ended d e n f k = grind (arith, nat_tests)
opening_rows (Spined kind tokens ∷ rows) ended d e n f k =
    let o = opened_row (Spined kind tokens) refl f.0 in
    let same : gone Unopened (Spined kind tokens) rows ended ≡ calm (Spines tokens) rows ended =
    rw (o.after_is, o.out) refl in
    rw (← e) (record {
      sees = record { known = refl; later = omega arith; follow = f };
      part = refl;
      at = refl;
      on = rw same (opened_body tokens rows ended o.out (rw o.after_is at f.1));
      stays = λ z. cc;
    })

opening_shares : (s : Source) (c : Cut) → Opens s c × (shows_opening c ≡ true)
    → Shares false Opening opening_row OpenedAt s c
opening_shares s c h =
    let k = opening_missing s c h.0 ∙ ap not h.1 in
    let d : Shares false Opening opening_row OpenedAt s (record c { front = [] }) =
    grind (arith, nat_tests, opening_rows) in
    record { sees = d.sees; part = d.part; at = d.at; on = d.on; stays = d.stays }

openings_does : (ss : List Source) (cs : List Cut) → Both Opens ss cs
    → Does (openings cs) ss (λ x. Both OpenedAt x cs)
openings_does ss cs h =
    does_known (list_all shows_opening cs) (together (map opening_row cs)) ss (λ x. Both OpenedAt x cs)
    (both_stuck Opens shows_opening opening_due opening_missing ss cs h)
    (λ known.
    does_together false Opening opening_row OpenedAt ss cs refl refl
    (λ a. both_due Opens opening_due ss cs h)
    (both_map (λ s c. Opens s c × (shows_opening c ≡ true)) (Shares false Opening opening_row OpenedAt) ss cs
    opening_shares (both_known Opens shows_opening ss cs h known)))

-- The tail.
abbrev pub next_tail : Body → Body
next_tail b = record b { tail = behind_first b.tail }

abbrev pub Over : Source → Body → Type 0
Over s b = Ended s (record b { tail = [] })

abbrev pub bare : Body → Body
bare b = record b { units = []; further = []; closing = None }

ended_due : (s : Source) (b : Body) → Ended s b → s.due ≡ false
ended_due s b h = h.idle

ended_follow : (s : Source) (b : Body) → Ended s b → Follow s.path s.coming
ended_follow s b h = h.follow

ended_missing : (s : Source) (b : Body) → Ended s b
    → is_missing false s ≡ not (shows_comment (tail_of b))
ended_missing s b h = body_missing s (bare b) h

record InTails (s : Source) (c : Body) : Type 0 where
  later : 10 ≤ rank (place_at false s)
  part : takes_part 10 s ≡ is_some (next_comment (tail_of c))
  may : MayGive 10 (λ s c. InBody s (next_tail c)) (next_comment (tail_of c)) (begun_at 10 s) c

none_row : (n : List ℕ) (ns : List (List ℕ)) (row : Row) (rows : List Row)
    (whole : Bool) (c : Body) → body whole false (row ∷ rows) ≡ c
    → has_some c.units ≡ false → has_some c.further ≡ false → is_some c.closing ≡ false
    → Sorted (Spines (n ∷ ns)) row → ⊥
none_row = grind (arith, nat_tests)

in_tails : (s : Source) (c : Body) → has_some c.units ≡ false → has_some c.further ≡ false
    → is_some c.closing ≡ false → View s c → InTails s c
in_tails s c u d o (Nothing path ended e w) = grind (arith, nat_tests)
in_tails s c u d o (InTail text rows ended e f w) =
    rw (e, ← w) (record {
      later = omega arith;
      part = refl;
      may = single_unit (λ s c. InBody s (next_tail c))
          (record (nothing (is_closed_end ended)) { tail = Comment text ∷ rows }) Tail (Spines []) (Comment text)
          rows ended refl refl refl (refl, f) refl (tail_body rows ended f);
    })
in_tails s c u d o (AtRow n ns row rows ended e out f w) = grind (arith, nat_tests, none_row, sorted)

tails_of : (s : Source) (b : Body) → Ended s b → InTails s (bare b)
tails_of s b h = in_tails s (bare b) refl refl refl (view s (bare b) h)

tail_may : (s : Source) (b : Body) (o : Option (List Row))
    → MayGive 10 (λ s c. InBody s (next_tail c)) o (begun_at 10 s) (bare b)
    → MayGive 10 (λ s b. Ended s (next_tail b)) o (begun_at 10 s) b
tail_may = grind (arith, nat_tests)

tail_ends : (s : Source) (b : Body) → Ended s b → is_some (next_comment (tail_of b)) ≡ false
    → Over s b
tail_ends = grind (arith, nat_tests)

tail_remarks : Remarks 10 tail_of next_tail Ended Over
tail_remarks = record {
  few = omega arith;
  spans = ten_spans;
  due = ended_due;
  follow = ended_follow;
  missing = ended_missing;
  later = λ s b h. (tails_of s b h).later;
  part = λ s b h. (tails_of s b h).part;
  may = λ s b h. tail_may s b (next_comment (tail_of b)) (tails_of s b h).may;
  looks_on = λ b. refl;
  ends = tail_ends;
  on = λ s b h. h;
}

-- Nothing is left.
over_missing : (s : Source) (b : Body) → Over s b → is_missing false s ≡ not b.whole
over_missing s b h = body_missing s (record (bare b) { tail = [] }) h

over_sees : (s : Source) (b : Body) → Over s b × (b.whole ≡ true) → Sees false 11 s
over_sees s b h =
    let l = (looks s (record (bare b) { tail = [] }) (view s (record (bare b) { tail = [] }) h.0)).rank_is in
    record {
      known = over_missing s b h.0 ∙ ap not h.1;
      later = rw l (omega arith);
      follow = h.0.follow;
    }

over_due : (s : Source) (b : Body) → Over s b → s.due ≡ false
over_due s b h = h.idle

over_meets : (ss : List Source) (bs : List Body) → Both Over ss bs → Meets ss []
over_meets ss bs h =
    (elim (list_all (λ (b : Body). b.whole) bs) as (λ w. list_all (λ (b : Body). b.whole) bs ≡ w → Meets ss []) [
      | true ↦ λ w.
          meets_over ss (rw (both_due Over over_due ss bs h)
          (both_all (λ s b. Over s b × (b.whole ≡ true)) (Sees false 11) over_sees ss bs
          (both_known Over (λ b. b.whole) ss bs h w)))
      | false ↦ λ w. both_stuck Over (λ b. b.whole) over_due over_missing ss bs h w
    ]) refl

-- All together.
behind_does : (ss : List Source) (bs : List Body) → Both InBody ss bs
    → Does (behind_openings bs) ss (λ x. Both Over x bs)
behind_does ss bs h =
    does_then (groups (most (map further_size bs) + 1) bs)
    (then_on (closings bs) (all_comments (map tail_of bs))) ss (λ x. Both Spent x bs)
    (λ x. Both Over x bs)
    (groups_does (most (map further_size bs) + 1) ss bs
    (most_short further_size (most (map further_size bs)) bs (omega arith)) h)
    (λ x r.
    does_then (closings bs) (all_comments (map tail_of bs)) x (λ x. Both Ended x bs)
    (λ x. Both Over x bs) (closings_does x bs r)
    (λ y q. all_comments_does 10 tail_of next_tail Ended Over tail_remarks y bs q))

merged_does : (ss : List Source) (cs : List Cut) → Both InFront ss cs
    → Does (merged cs) ss (λ x. Meets x [])
merged_does ss cs h =
    does_then (all_comments (map front_of cs)) (then_on (openings cs) (behind_openings (map (λ c. c.body) cs))) ss
    (λ x. Both Opens x cs) (λ x. Meets x [])
    (all_comments_does 2 front_of next_front InFront Opens front_remarks ss cs h)
    (λ x r.
    does_then (openings cs) (behind_openings (map (λ c. c.body) cs)) x (λ x. Both OpenedAt x cs)
    (λ x. Meets x []) (openings_does x cs r)
    (λ y q.
    does_weaken (behind_openings (map (λ c. c.body) cs)) y
    (λ z. Both Over z (map (λ c. c.body) cs)) (λ z. Meets z [])
    (behind_does y (map (λ c. c.body) cs) (both_over InBody (λ c. c.body) y cs q))
    (λ z w. over_meets z (map (λ c. c.body) cs) w)))

begun_front : (xs : List Input) → AreScores xs → Both InFront (map begun xs) (map cut_of xs)
begun_front [] h = tt
begun_front (x ∷ xs) h = grind (arith, nat_tests, begun_front xs h.1)

begun_paths : (xs : List Input) → paths_of (map begun xs) ≡ unopened xs
begun_paths [] = refl
begun_paths (x ∷ xs) = ap (λ (paths : List Path). Unopened ∷ paths) (begun_paths xs)

-- What is given is what the groups give.
pub gives_by_groups : GivesByGroups
gives_by_groups stage xs h =
    let m = does_finish (merged (map cut_of xs)) (map begun xs)
    (merged_does (map begun xs) (map cut_of xs) (begun_front xs h)) in
    let rows : output xs ≡ by_groups xs = grind (arith, nat_tests, begun_paths) in
    let fault : own_fault stage xs ≡ fault_by_groups stage xs = grind (arith, nat_tests, begun_paths) in
    record {
      rows = rows;
      fault = fault;
      state = λ given.
          ap (λ (given_rows : List Row). cond (nat_lt given (length given_rows)) Gives
          (resting_state (own_fault stage xs) (inputs_end (ends xs)))) rows
          ∙ ap (λ (o : Option Fault). cond (nat_lt given (length (by_groups xs))) Gives
          (resting_state o (inputs_end (ends xs)))) fault;
    }

-- The next of what is given is the next of what the groups give.
pub next_by_groups : (t : Moment) (taken : Option Row) → taken ≡ slice_get (all_of t) t.given
    → AreScores t.inputs → taken ≡ slice_get (by_groups t.inputs) t.given
next_by_groups t taken e h = grind (arith, nat_tests, gives_by_groups t.stage t.inputs h)

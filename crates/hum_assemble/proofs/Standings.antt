-- What an assembler does, and what it stands for then.
use Rattle.std.proofs.lemmas.Bool.Decides.{nat_tests}
use Rattle.std.proofs.lemmas.Bool.{lt-ltb, le-ltb}
use Rattle.std.proofs.Common.{◌≡◌, ◌∙◌, refl, sym, ap, add-one, ℕ, zero, suc, ◌+◌, ◌<◌}
use Rattle.std.proofs.Common.{inl, inr, Bool, true, false, ◌||◌, cond, List, [], ◌∷◌}
use Rattle.std.proofs.Common.{length, arith, map}
use Rattle.std.proofs.lemmas.List.{length-map}
use Rattle.std.specs.Prelude.{Option, None, Some, is_none, nat_lt}
use Rattle.std.specs.Prelude.{slice_get}
use Rattle.std.specs.List.{list_any, position_from}
use Rattle.std.proofs.lemmas.Option.{slice_get_past}
use Rattle.hum_score.specs.Row.{Row, text_of}
use Rattle.hum_words.specs.declared.commands.Command.TheVariants.{Assemble}
use Rattle.hum_stage.specs.declared.faults.End as end
use Rattle.hum_assemble.specs.declared.places.Place.{Place}
use Rattle.hum_assemble.specs.declared.places.Next as next
use Rattle.hum_assemble.specs.declared.places.Next.TheVariants.{Gives, Refused, Wants}
use Rattle.hum_assemble.specs.declared.places.Next.TheVariants.{Over as NothingMore}
use Rattle.hum_assemble.specs.Source.{Source}
use Rattle.hum_assemble.specs.Change.{Change, More, Ends, changed_at, IsOpenAt, Input}
use Rattle.hum_assemble.specs.Change.{had_at}
use Rattle.hum_assemble.specs.Merge.{Merge, unless_missing, ahead_at, unless_broken}
use Rattle.hum_assemble.specs.Merge.{rule_broken, spines, all_moved, made, ahead, given_row}
use Rattle.hum_assemble.specs.Merge.{given_on}
use Rattle.hum_assemble.specs.Round.{is_lost, is_missing, earliest}
use Rattle.hum_assemble.specs.Round.{any_due}
use Rattle.hum_assemble.specs.Places.{is_over}
use Rattle.hum_assemble.specs.Meaning.{goes_on, opening, begun}
use Rattle.hum_assemble.specs.Meaning.{ends, Moment, all_of, after, after_take, state_of, wants_of}
use Rattle.hum_assemble.specs.Meaning.{wanted, own_fault, refusal, inputs_end, with_end, is_stopped}
use Rattle.hum_assemble.specs.Meaning.{held_in, held_at, waiting_in, waiting_at}
use Rattle.hum_stage.specs.Meaning.{resting_state, fault_at}
use Rattle.hum_assemble.specs.Standing.{Reaches, Standing, ends_in, state_by, wants_by}
use Rattle.hum_assemble.proofs.Growing.{changed_in, ahead_kept, is_waiting}
use Rattle.hum_assemble.proofs.Steps.{is_giving, on_going}
use Rattle.hum_assemble.proofs.Reaching.{at, reaches_kept, reaches_ended}
use Rattle.hum_assemble.proofs.Reaching.{reaches_given, reaches_more, opening_had}

-- Ends, source by source.
abbrev pub OpenIn : ℕ → List (Option end.End) → Type 0
OpenIn j [] = ⊥
OpenIn zero (e ∷ es) = e ≡ None
OpenIn (suc j) (e ∷ es) = OpenIn j es

pub open_in : (j : ℕ) (ss : List Source) → IsOpenAt j ss → OpenIn j (map (λ s. s.ended) ss)
open_in j [] i = absurd i
open_in zero (s ∷ ss) i = i
open_in (suc j) (s ∷ ss) i = open_in j ss i

pub open_at : (j : ℕ) (ss : List Source) → OpenIn j (map (λ s. s.ended) ss) → IsOpenAt j ss
open_at j [] i = absurd i
open_at zero (s ∷ ss) i = i
open_at (suc j) (s ∷ ss) i = open_at j ss i

pub begun_ends : (xs : List Input) → map (λ s. s.ended) (map begun xs) ≡ ends xs
begun_ends [] = refl
begun_ends (x ∷ xs) = ap (λ (es : List (Option end.End)). x.ended ∷ es) (begun_ends xs)

-- the leftmost that hasn't ended hasn't ended
record First (i k : ℕ) (es : List (Option end.End)) : Type 0 where
  place : ℕ
  is : k ≡ i + place
  opens : OpenIn place es

first_open : (i k : ℕ) (es : List (Option end.End)) → position_from is_none i es ≡ Some k
    → First i k es
first_open i k (Some e ∷ es) h = let f = first_open (i + 1) k es h in record { place = suc f.place; is = (let w = f.is in omega (arith, w)); opens = f.opens }
first_open i k es h = grind (arith, nat_tests)

pub leftmost : (k : ℕ) (es : List (Option end.End)) → position_from is_none 0 es ≡ Some k → OpenIn k es
leftmost k es h = let f = first_open 0 k es h in let e : k ≡ f.place = (let w = f.is in omega (arith, w)) in rw e f.opens

-- where one hasn't ended there is no end of all
with_none : (e : Option end.End) → with_end e None ≡ None
with_none = grind (arith, nat_tests)

pub no_end : (j : ℕ) (es : List (Option end.End)) → OpenIn j es → inputs_end es ≡ None
no_end j [] i = absurd i
no_end zero (e ∷ es) i = rw i refl
no_end (suc j) (e ∷ es) i = rw (no_end j es i) (with_none e)

or_left : (a b : Bool) → (a || b) ≡ false → a ≡ false
or_left = grind (arith, nat_tests)

or_right : (a b : Bool) → (a || b) ≡ false → b ≡ false
or_right = grind (arith, nat_tests)

-- What is waited for: a source without a record, that hasn't ended.
abbrev pub WaitsAt : ℕ → List Source → Type 0
WaitsAt j [] = ⊥
WaitsAt zero (s ∷ ss) = (s.coming ≡ []) × (s.ended ≡ None)
WaitsAt (suc j) (s ∷ ss) = WaitsAt j ss

record Waiting (i k : ℕ) (ss : List Source) : Type 0 where
  place : ℕ
  is : k ≡ i + place
  waits : WaitsAt place ss

missing_waits : (going : Bool) (s : Source) → is_missing going s ≡ true → is_lost going s ≡ false
    → (s.coming ≡ []) × (s.ended ≡ None)
missing_waits = grind (arith, nat_tests)

first_waits : (going : Bool) (i k : ℕ) (ss : List Source)
    → position_from (is_missing going) i ss ≡ Some k → list_any (is_lost going) ss ≡ false
    → Waiting i k ss
first_waits going i k [] h l = cc
first_waits going i k (s ∷ ss) h l =
    (elim (is_missing going s) as (λ b. is_missing going s ≡ b
    → cond b (Some i) (position_from (is_missing going) (i + 1) ss) ≡ Some k → Waiting i k (s ∷ ss)) [
      | true ↦ λ e w. record { place = 0; is = (let v : i ≡ k = cc in omega (arith, v)); waits = missing_waits going s e (or_left (is_lost going s) _ l) }
      | false ↦ λ e w. let f = first_waits going (i + 1) k ss w (or_right (is_lost going s) _ l) in
          record { place = suc f.place; is = (let v = f.is in omega (arith, v)); waits = f.waits }
    ]) refl h

pub at_waits : (going : Bool) (p : Place) (ss : List Source) (given k : ℕ) (b : Bool)
    → cond b NothingMore (unless_broken p (rule_broken (spines (all_moved true going p ss))
    (length (text_of (made going p ss))) given)) ≡ Wants k
    → ⊥
at_waits = grind (arith, nat_tests)

pub missing_is : (k : ℕ) (o : Option ℕ) (known : next.Next) → (known ≡ Wants k → ⊥)
    → unless_missing o known ≡ Wants k → o ≡ Some k
missing_is = grind (arith, nat_tests)

ahead_waits : (going : Bool) (ss : List Source) (given k : ℕ) (b : Bool)
    → list_any (is_lost going) ss ≡ b
    → cond b NothingMore (unless_missing (position_from (is_missing going) 0 ss)
    (ahead_at going (earliest going ss) ss given)) ≡ Wants k
    → Waiting 0 k ss
ahead_waits going ss given k true e h = cc
ahead_waits going ss given k false e h = first_waits going 0 k ss
    (missing_is k _ (ahead_at going (earliest going ss) ss given)
    (at_waits going (earliest going ss) ss given k (is_over (earliest going ss))) h) e

-- The source that is wanted has no record, and hasn't ended.
pub waits_at : (m : Merge) (k : ℕ) → ahead m ≡ Wants k → WaitsAt k m.sources
waits_at m k h =
    let w = ahead_waits (any_due m.sources) m.sources m.given k (list_any (is_lost (any_due m.sources)) m.sources) refl h in
    let e : k ≡ w.place = (let v = w.is in omega (arith, v)) in
    rw e w.waits

pub waiting_open : (k : ℕ) (ss : List Source) → WaitsAt k ss → IsOpenAt k ss
waiting_open k [] w = absurd w
waiting_open zero (s ∷ ss) w = w.1
waiting_open (suc k) (s ∷ ss) w = waiting_open k ss w

-- At the merge that is reached.
pub reached_on : (n : ℕ) (m s : Merge) → Reaches n m s → goes_on n m ≡ s
reached_on zero m s r = r
reached_on (suc n) m s r = on_going n m r.0 r.1 ∙ reached_on n (given_on r.0 m) s r.2

pub stopped_rests : (a : next.Next) → is_stopped a ≡ true
    → (is_giving a ≡ false) × (is_waiting a ≡ false)
stopped_rests = grind (arith, nat_tests)

-- the same can be done next
pub same_next : (stage : ℕ) (kept : Merge) (spent : Bool) (t : Moment)
    (h : Standing stage kept spent t)
    → ahead kept ≡ ahead h.at
same_next stage kept spent t h = elim h.keeps [ inl e ↦ ap ahead e | inr d ↦ d.same ]

same_given : (stage : ℕ) (kept : Merge) (spent : Bool) (t : Moment)
    (h : Standing stage kept spent t)
    → kept.given ≡ t.given
same_given = grind (arith, nat_tests, reaches_given)

pub same_ends : (stage : ℕ) (kept : Merge) (spent : Bool) (t : Moment)
    (h : Standing stage kept spent t)
    → ends_in kept ≡ ends t.inputs
same_ends = grind (arith, nat_tests, reaches_ended, begun_ends)

-- a source for each input
pub as_many : (stage : ℕ) (kept : Merge) (spent : Bool) (t : Moment)
    → Standing stage kept spent t → length kept.sources ≡ length t.inputs
as_many stage kept spent t h =
    sym (length-map kept.sources (λ s. s.ended))
    ∙ (ap length (same_ends stage kept spent t h) ∙ length-map t.inputs (λ x. x.ended))

lt_true : (a b : ℕ) → a < b → nat_lt a b ≡ true
lt_true a b h = lt-ltb a b h

lt_false : (a b : ℕ) → b ≡ a → nat_lt a b ≡ false
lt_false a b h = le-ltb a b (omega (arith, h))

-- the state where no record is given
resting_own : (stage : ℕ) (kept : Merge) (spent : Bool) (t : Moment)
    (h : Standing stage kept spent t)
    → is_giving (ahead kept) ≡ false
    → own_fault t.stage t.inputs ≡ fault_at stage Assemble (refusal (kept.given + 1) (ahead kept))
resting_own stage kept spent t h r =
    let n = same_next stage kept spent t h in
    let a = (at t.given (opening t.inputs) h.at h.reached).resting (ap is_giving (sym n) ∙ r) in
    let g = same_given stage kept spent t h in
    let g' = reaches_given t.given (opening t.inputs) h.at h.reached in
    let e : h.at.given ≡ kept.given = omega (arith, g, g') in
    ap (λ (m : Merge). fault_at t.stage Assemble (refusal (m.given + 1) (ahead m))) a.1
    ∙ (ap (λ (k : ℕ). fault_at t.stage Assemble (refusal (k + 1) (ahead h.at))) e
    ∙ (ap (λ (x : next.Next). fault_at t.stage Assemble (refusal (kept.given + 1) x)) (sym n)
    ∙ ap (λ (k : ℕ). fault_at k Assemble (refusal (kept.given + 1) (ahead kept))) h.stage_is))

resting_is : (stage : ℕ) (kept : Merge) (spent : Bool) (t : Moment)
    (h : Standing stage kept spent t)
    → is_giving (ahead kept) ≡ false
    → state_of t ≡ resting_state (fault_at stage Assemble (refusal (kept.given + 1)
    (ahead kept))) (inputs_end (ends_in kept))
resting_is stage kept spent t h r =
    let n = same_next stage kept spent t h in
    let a = (at t.given (opening t.inputs) h.at h.reached).resting (ap is_giving (sym n) ∙ r) in
    rw (lt_false t.given (length (all_of t)) a.0, resting_own stage kept spent t h r, same_ends stage kept spent t h) refl

resting_wants : (stage : ℕ) (kept : Merge) (spent : Bool) (t : Moment)
    (h : Standing stage kept spent t)
    → is_giving (ahead kept) ≡ false → wants_of t ≡ wanted (ahead kept) (ends_in kept)
resting_wants stage kept spent t h r =
    let n = same_next stage kept spent t h in
    let a = (at t.given (opening t.inputs) h.at h.reached).resting (ap is_giving (sym n) ∙ r) in
    rw (lt_false t.given (length (all_of t)) a.0) (ap (λ (m : Merge). wanted (ahead m) (ends t.inputs)) a.1
    ∙ (ap (λ (x : next.Next). wanted x (ends t.inputs)) (sym n)
    ∙ ap (wanted (ahead kept)) (sym (same_ends stage kept spent t h))))

giving_at : (stage : ℕ) (kept : Merge) (spent : Bool) (t : Moment)
    (h : Standing stage kept spent t) (p : Place)
    → ahead kept ≡ Gives p → kept ≡ h.at
giving_at = grind (arith, nat_tests)

giving_now : (stage : ℕ) (kept : Merge) (spent : Bool) (t : Moment)
    (h : Standing stage kept spent t) (p : Place)
    → ahead kept ≡ Gives p → nat_lt t.given (length (all_of t)) ≡ true
giving_now stage kept spent t h p g =
    let n = same_next stage kept spent t h in
    lt_true t.given (length (all_of t)) ((at t.given (opening t.inputs) h.at h.reached).going p (sym n ∙ g)).1

state_cases : (stage : ℕ) (kept : Merge) (spent : Bool) (t : Moment)
    (h : Standing stage kept spent t) (a : next.Next)
    → ahead kept ≡ a → state_by stage kept a ≡ state_of t
state_cases stage kept spent t h (Gives p) e = rw (giving_now stage kept spent t h p e) refl
state_cases stage kept spent t h (Wants j) e =
    let r = resting_is stage kept spent t h (ap is_giving e) in
    let n = no_end j (ends_in kept) (open_in j kept.sources (waiting_open j kept.sources (waits_at kept j e))) in
    sym (r ∙ (ap (λ (x : Option end.End). resting_state (fault_at stage Assemble (refusal (kept.given + 1) (ahead kept))) x) n))
state_cases stage kept spent t h (Refused rule) e = sym (resting_is stage kept spent t h (ap is_giving e)
    ∙ ap (λ (x : next.Next). resting_state (fault_at stage Assemble (refusal (kept.given + 1) x))
    (inputs_end (ends_in kept))) e)
state_cases stage kept spent t h NothingMore e = sym (resting_is stage kept spent t h (ap is_giving e)
    ∙ ap (λ (x : next.Next). resting_state (fault_at stage Assemble (refusal (kept.given + 1) x))
    (inputs_end (ends_in kept))) e)

pub state_stands : (stage : ℕ) (kept : Merge) (spent : Bool) (t : Moment)
    → Standing stage kept spent t → state_by stage kept (ahead kept) ≡ state_of t
state_stands stage kept spent t h = state_cases stage kept spent t h (ahead kept) refl

wants_cases : (stage : ℕ) (kept : Merge) (spent : Bool) (t : Moment)
    (h : Standing stage kept spent t) (a : next.Next)
    → ahead kept ≡ a → wants_by kept a ≡ wants_of t
wants_cases stage kept spent t h (Gives p) e = rw (giving_now stage kept spent t h p e) refl
wants_cases stage kept spent t h (Wants j) e = sym (resting_wants stage kept spent t h (ap is_giving e) ∙ ap (λ (x : next.Next). wanted x (ends_in kept)) e)
wants_cases stage kept spent t h (Refused rule) e = sym (resting_wants stage kept spent t h (ap is_giving e)
    ∙ ap (λ (x : next.Next). wanted x (ends_in kept)) e)
wants_cases stage kept spent t h NothingMore e = sym (resting_wants stage kept spent t h (ap is_giving e) ∙ ap (λ (x : next.Next). wanted x (ends_in kept)) e)

pub wants_stands : (stage : ℕ) (kept : Merge) (spent : Bool) (t : Moment)
    → Standing stage kept spent t → wants_by kept (ahead kept) ≡ wants_of t
wants_stands stage kept spent t h = wants_cases stage kept spent t h (ahead kept) refl

pub held_stands : (stage : ℕ) (kept : Merge) (spent : Bool) (t : Moment)
    → Standing stage kept spent t → held_in kept ≡ held_at t
held_stands stage kept spent t h =
    let g = reached_on t.given (opening t.inputs) h.at h.reached in
    (elim h.keeps [
      | inl e ↦ ap held_in (e ∙ sym g)
      | inr d ↦ let s = d.stopped in let s' : is_stopped (ahead kept) ≡ true = ap is_stopped d.same ∙ s in rw (g, s, s') refl
    ])

pub waiting_stands : (stage : ℕ) (kept : Merge) (spent : Bool) (t : Moment)
    → Standing stage kept spent t → waiting_in kept ≡ waiting_at t
waiting_stands stage kept spent t h =
    let g = reached_on t.given (opening t.inputs) h.at h.reached in
    (elim h.keeps [
      | inl e ↦ ap waiting_in (e ∙ sym g)
      | inr d ↦ let s = d.stopped in let s' : is_stopped (ahead kept) ≡ true = ap is_stopped d.same ∙ s in rw (g, s, s') refl
    ])

-- One record is given.
pub take_gives : (stage : ℕ) (kept : Merge) (t : Moment) (p : Place) → Standing stage kept false t
    → ahead kept ≡ Gives p
    → (slice_get (all_of t) t.given ≡ Some (given_row p kept)) × Standing stage (given_on p kept) false (after_take t)
take_gives stage kept t p h g =
    let e = giving_at stage kept false t h p g in
    let n = sym (ap ahead e) ∙ g in
    let w = (at t.given (opening t.inputs) h.at h.reached).going p n in (
      w.0 ∙ ap (λ (m : Merge). Some (given_row p m)) (sym e),
      record {
        stage_is = h.stage_is;
        alive = refl;
        at = given_on p h.at;
        reached = rw (add-one t.given) (reaches_more t.given (opening t.inputs) h.at p h.reached n);
        keeps = inl (ap (given_on p) e);
      },
    )

pub take_none : (stage : ℕ) (kept : Merge) (spent : Bool) (t : Moment) → Standing stage kept spent t
    → is_giving (ahead kept) ≡ false → slice_get (all_of t) t.given ≡ None
take_none stage kept spent t h r =
    let n = same_next stage kept spent t h in
    let a = (at t.given (opening t.inputs) h.at h.reached).resting (ap is_giving (sym n) ∙ r) in
    slice_get_past (all_of t) t.given (let e = a.0 in omega (arith, e))

-- A change of the source that is wanted.
reached_after : (j : ℕ) (change : Change) (t : Moment) (s : Merge) → OpenIn j (ends t.inputs)
    → Reaches t.given (opening t.inputs) s
    → Reaches t.given (opening (had_at j change t.inputs)) (changed_in j change s)
reached_after j change t s i r =
    let o = open_at j (opening t.inputs).sources (rw (begun_ends t.inputs) i) in
    rw (opening_had j change t.inputs) (reaches_kept t.given j change (opening t.inputs) s o r)

wants_open : (stage : ℕ) (kept : Merge) (spent : Bool) (t : Moment)
    (h : Standing stage kept spent t) (j : ℕ) (a : next.Next)
    → ahead kept ≡ a → wants_by kept a ≡ Some j → OpenIn j (ends_in kept)
wants_open = grind (arith, nat_tests, open_in, waiting_open, waits_at, leftmost)

pub open_wanted : (stage : ℕ) (kept : Merge) (spent : Bool) (t : Moment)
    (h : Standing stage kept spent t) (j : ℕ)
    → wants_of t ≡ Some j → OpenIn j (ends_in kept)
open_wanted stage kept spent t h j w = wants_open stage kept spent t h j (ahead kept) refl (wants_stands stage kept spent t h ∙ w)

put_end : ℕ → end.End → List (Option end.End) → List (Option end.End)
put_end j e [] = []
put_end zero e (x ∷ xs) = Some e ∷ xs
put_end (suc j) e (x ∷ xs) = x ∷ put_end j e xs

end_put : (j : ℕ) (e : end.End) (ss : List Source)
    → map (λ s. s.ended) (changed_at j (Ends e) ss) ≡ put_end j e (map (λ s. s.ended) ss)
unfolding put_end
end_put j e [] = refl
end_put zero e (s ∷ ss) = refl
end_put (suc j) e (s ∷ ss) = ap (λ (es : List (Option end.End)). s.ended ∷ es) (end_put j e ss)

changed_ends : (j : ℕ) (e : end.End) (ss ss' : List Source)
    → map (λ s. s.ended) ss ≡ map (λ s. s.ended) ss'
    → map (λ s. s.ended) (changed_at j (Ends e) ss) ≡ map (λ s. s.ended) (changed_at j (Ends e) ss')
changed_ends j e ss ss' h = end_put j e ss ∙ (ap (put_end j e) h ∙ sym (end_put j e ss'))

pub wanted_is : (stage : ℕ) (kept : Merge) (spent : Bool) (t : Moment) (j k : ℕ)
    → Standing stage kept spent t → ahead kept ≡ Wants k → wants_of t ≡ Some j → k ≡ j
wanted_is stage kept spent t j k h e w = grind (arith, nat_tests, wants_stands stage kept spent t h)

-- One record more is put, where it is kept.
pub put_kept : (stage : ℕ) (kept : Merge) (t : Moment) (j k : ℕ) (change : Change)
    → Standing stage kept false t → ahead kept ≡ Wants k → wants_of t ≡ Some j
    → Standing stage (changed_in j change kept) false (after j change t)
put_kept stage kept t j k change h e w =
    let n = same_next stage kept false t h in
    let i = rw (same_ends stage kept false t h) at (open_wanted stage kept false t h j w) in
    let live : kept ≡ h.at = elim h.keeps [
      | inl x ↦ x
      | inr d ↦ grind (arith, nat_tests, stopped_rests, is_waiting)
    ] in
    record {
      stage_is = h.stage_is;
      alive = refl;
      at = changed_in j change h.at;
      reached = reached_after j change t h.at i h.reached;
      keeps = inl (ap (changed_in j change) live);
    }

more_ends : (j : ℕ) (row : Row) (ss : List Source)
    → map (λ s. s.ended) (changed_at j (More row) ss) ≡ map (λ s. s.ended) ss
more_ends j row [] = refl
more_ends zero row (s ∷ ss) = refl
more_ends (suc j) row (s ∷ ss) = ap (λ (es : List (Option end.End)). s.ended ∷ es) (more_ends j row ss)

-- Or it is dropped.
pub put_dropped : (stage : ℕ) (kept : Merge) (t : Moment) (j : ℕ) (row : Row)
    → Standing stage kept false t → is_stopped (ahead kept) ≡ true → wants_of t ≡ Some j
    → Standing stage kept false (after j (More row) t)
put_dropped stage kept t j row h st w =
    let n = same_next stage kept false t h in
    let o = open_wanted stage kept false t h j w in
    let i = rw (same_ends stage kept false t h) at o in
    let r = stopped_rests (ahead h.at) (ap is_stopped (sym n) ∙ st) in
    let at_open = open_at j h.at.sources (rw (reaches_ended t.given (opening t.inputs) h.at h.reached ∙ begun_ends t.inputs) i) in
    let g = same_given stage kept false t h in
    let g' = reaches_given t.given (opening t.inputs) h.at h.reached in
    let same = ahead_kept j (More row) h.at at_open r.1 in
    record {
      stage_is = h.stage_is;
      alive = refl;
      at = changed_in j (More row) h.at;
      reached = reached_after j (More row) t h.at i h.reached;
      keeps = inr (record {
        stopped = ap is_stopped (same ∙ sym n) ∙ st;
        same = n ∙ sym same;
        ended = (same_ends stage kept false t h ∙ sym (reaches_ended t.given (opening t.inputs) h.at h.reached
            ∙ begun_ends t.inputs)) ∙ sym (more_ends j row h.at.sources);
        given = omega (arith, g, g');
      });
    }

-- An end comes.
pub end_stands : (stage : ℕ) (kept : Merge) (t : Moment) (j : ℕ) (e : end.End)
    → Standing stage kept false t → wants_of t ≡ Some j
    → Standing stage (changed_in j (Ends e) kept) false (after j (Ends e) t)
end_stands stage kept t j e h w =
    let o = open_wanted stage kept false t h j w in
    let i = rw (same_ends stage kept false t h) at o in
    let same_end = same_ends stage kept false t h ∙ sym (reaches_ended t.given (opening t.inputs) h.at h.reached ∙ begun_ends t.inputs) in
    let at_open = open_at j h.at.sources (rw (reaches_ended t.given (opening t.inputs) h.at h.reached ∙ begun_ends t.inputs) i) in
    let kept_open = open_at j kept.sources o in
    record {
      stage_is = h.stage_is;
      alive = refl;
      at = changed_in j (Ends e) h.at;
      reached = reached_after j (Ends e) t h.at i h.reached;
      keeps = elim h.keeps [
        | inl x ↦ inl (ap (changed_in j (Ends e)) x)
        | inr d ↦ let r = stopped_rests (ahead h.at) d.stopped in
            let a = ahead_kept j (Ends e) h.at at_open r.1 in
            let b = ahead_kept j (Ends e) kept kept_open (ap is_waiting d.same ∙ r.1) in
            inr (record {
              stopped = ap is_stopped a ∙ d.stopped;
              same = b
                  ∙ (d.same ∙ sym a);
              ended = changed_ends j e kept.sources h.at.sources same_end;
              given =
                  d.given;
            })
      ];
    }

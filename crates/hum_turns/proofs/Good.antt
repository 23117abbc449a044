-- One link: what holds of it, and what keeps that.
use Rattle.std.proofs.lemmas.Grind.{common_steps}
use Rattle.std.proofs.lemmas.Bool.Decides.{nat_tests}
use Rattle.std.proofs.Common.{◌≡◌, ℕ, ◌<◌, ◌≤◌, Bool, true, if◌then◌else◌, nat_lt, List, []}
use Rattle.std.proofs.Common.{◌∷◌, length, slice_get, Option, Some, None, is_none, refl, sym}
use Rattle.std.proofs.Common.{ap, ◌∙◌, subst, arith, append_assoc, length-append}
use Rattle.std.proofs.Common.{ltb-true}
use Rattle.std.proofs.lemmas.Bool.{and_parts}
use Rattle.std.proofs.lemmas.Option.{same_Some, slice_get_within}
use Rattle.hum_stage.specs.declared.faults.End.{End}
use Rattle.hum_turns.specs.Flow.{Flow, Begins, Later}
use Rattle.hum_turns.specs.Plan.{Stage, end_of}
use Rattle.hum_turns.specs.Plan.{AreInputs, Onward, IsAtRest, IsLawful, KeepsFine}
use Rattle.hum_turns.specs.Links.{Link, given, view, has_room, has_some}
use Rattle.hum_turns.specs.Turns.{State, Gives, Ends, by_want, stage_state, pushed}
use Rattle.hum_turns.specs.Turns.{popped}
use Rattle.hum_turns.proofs.Fronts.{begins_trans, begins_append, begins_next}
use Rattle.hum_turns.proofs.Fronts.{all_same, same_over, has_none}

-- How the link of a stage stands to what the stage has had: what was given is a prefix of what is
-- settled, the end is set only where nothing is left to give, and heard only where none waits.
pub record GoodAt {R : Type 0} (st : Stage R) (size : ℕ) (l : Link R) (a : List (Flow R))
    : Type 0 where
  pub sent : Begins (given l) (st.output l.read a)
  pub marked : (e : End) → l.mark ≡ Some e
      → (stage_state st l a ≡ Ends) × (e ≡ end_of st l.read a)
  pub heard : (e : End) → l.heard ≡ Some e → (l.waiting ≡ []) × (l.mark ≡ Some e)
  pub room : length l.waiting ≤ size
  pub within : l.read ≤ st.bytes

-- Where a stage is about to set its end, all is given and each input is over.
pub record AtEnd {R : Type 0} (st : Stage R) (l : Link R) (a : List (Flow R)) : Type 0 where
  pub all : length (st.output l.read a) ≤ length (given l)
  pub rest : IsAtRest st l.read a

-- a link that was given so much, against what is settled
abbrev by_length : {R : Type 0} → Stage R → ℕ → List (Flow R) → List R → State
by_length st r a gs =
    if nat_lt (length gs) (length (st.output r a)) then Gives else by_want st.sources (st.wants r a)

flow_of : {R : Type 0} → List R → Option End → Flow R
flow_of xs o = record { items = xs; end = o }

later_popped : {R : Type 0} (l : Link R) (ws : List R) → is_none l.heard ≡ true
    → Later (view l) (view (popped l ws))
later_popped l [] new = grind (arith, common_steps)
later_popped l (x ∷ rest) new = grind (arith, nat_tests)

pub later_taken : {R : Type 0} (l : Link R) → has_some l ≡ true
    → Later (view l) (view (popped l l.waiting))
later_taken l some = later_popped l l.waiting (and_parts _ _ some).0

module _ {R : Type 0} {fine : Flow R → Bool} {st : Stage R} (law : IsLawful fine st) where
  pub at_end : (l : Link R) (a : List (Flow R)) → AreInputs fine st a → stage_state st l a ≡ Ends
      → AtEnd st l a
  at_end = grind (arith, nat_tests)

  pub grown : (r s : ℕ) (a b : List (Flow R)) → r ≤ s → s ≤ st.bytes → Onward fine st a b
      → Begins (st.output r a) (st.output s b)
  grown = grind (arith, nat_tests)

  -- its inputs go on
  pub kept_good : (size : ℕ) (l : Link R) (a b : List (Flow R)) → Onward fine st a b
      → GoodAt st size l a → GoodAt st size l b
  kept_good size l a b on g =
      record {
        sent = begins_trans _ _ _ g.sent (grown l.read l.read a b (omega arith) g.within on);
        marked = λ e m.
            let k = g.marked e m in
            let same = same_over a b on.later (at_end l a on.before k.0).rest.over in
            (ap (stage_state st l) same ∙ k.0, k.1 ∙ ap (end_of st l.read) (sym same));
        heard = g.heard;
        room = g.room;
        within = g.within;
      }

  -- no end is set where something is left to give
  not_marked : (size : ℕ) (l : Link R) (a : List (Flow R)) (x : R) → AreInputs fine st a
      → GoodAt st size l a → slice_get (st.output l.read a) (length (given l)) ≡ Some x
      → (e : End) → l.mark ≡ Some e → ⊥
  not_marked = grind (arith, nat_tests, at_end, slice_get_within)

  -- it gives
  pub gives_good : (size : ℕ) (l : Link R) (a b : List (Flow R)) (x : R) → Onward fine st a b
      → GoodAt st size l a → slice_get (st.output l.read a) (length (given l)) ≡ Some x
      → has_room size l ≡ true → GoodAt st size (pushed l x) b
  gives_good size l a b x on g n room =
      record {
        sent = subst (λ s. Begins s (st.output l.read b)) (append_assoc l.taken l.waiting (x ∷ []))
            (begins_trans _ _ _ (begins_next (given l) (st.output l.read a) x g.sent n)
            (grown l.read l.read a b (omega arith) g.within on));
        marked = λ e m. absurd (not_marked size l a x on.before g n e m);
        heard = λ e m. absurd (not_marked size l a x on.before g n e (g.heard e m).1);
        room = let r = ltb-true _ _ room in omega (arith, length-append l.waiting (x ∷ []));
        within = g.within;
      }

  -- what is taken was given before
  takes_at : (size : ℕ) (l : Link R) (a b : List (Flow R)) (ws : List R) → l.waiting ≡ ws
      → Onward fine st a b → GoodAt st size l a → is_none l.heard ≡ true
      → GoodAt st size (popped l ws) b
  takes_at size l a b [] w on g new = grind (arith, nat_tests, kept_good size l a b on g)
  takes_at size l a b (x ∷ rest) w on g new =
      grind (arith, nat_tests, kept_good size l a b on g, append_assoc l.taken (x ∷ []) rest)

  -- its reader takes
  pub takes_good : (size : ℕ) (l : Link R) (a b : List (Flow R)) → Onward fine st a b
      → GoodAt st size l a → has_some l ≡ true → GoodAt st size (popped l l.waiting) b
  takes_good size l a b on g some = takes_at size l a b l.waiting refl on g (and_parts _ _ some).0

  -- it sets its end
  pub ends_good : (size : ℕ) (l : Link R) (a b : List (Flow R)) → Onward fine st a b
      → GoodAt st size l a → is_none l.mark ≡ true → stage_state st l a ≡ Ends
      → GoodAt st size (record l { mark = Some (end_of st l.read a) }) b
  ends_good size l a b on g unset s =
      let same = same_over a b on.later (at_end l a on.before s).rest.over in
      record {
        sent = subst (λ c. Begins (given l) (st.output l.read c)) (sym same) g.sent;
        marked = grind (arith, nat_tests, same_Some);
        heard = λ e m. absurd (has_none l.mark e unset (g.heard e m).1);
        room = g.room;
        within = g.within;
      }

  -- it reads
  pub reads_good : (size : ℕ) (l : Link R) (a b : List (Flow R)) (n : ℕ) → Onward fine st a b
      → GoodAt st size l a → is_none l.mark ≡ true → l.read < n → n ≤ st.bytes
      → GoodAt st size (record l { read = n }) b
  reads_good size l a b n on g unset less within =
      record {
        sent = begins_trans _ _ _ g.sent (grown l.read n a b (omega arith) within on);
        marked = λ e m. absurd (has_none l.mark e unset m);
        heard = λ e m. absurd (has_none l.mark e unset (g.heard e m).1);
        room = g.room;
        within = within;
      }

  -- What its reader has had is fine.
  module _ (keep : KeepsFine fine st) where
    fine_at : (size : ℕ) (l : Link R) (a : List (Flow R)) (o : Option End) → l.heard ≡ o
        → AreInputs fine st a → GoodAt st size l a
        → fine (view l) ≡ true
    unfolding flow_of
    fine_at size l a None e fa g =
        ap (λ o. fine (flow_of l.taken o)) e
        ∙ keep.front l.read a l.taken g.within fa
        (begins_trans _ _ _ (begins_append l.taken l.waiting) g.sent)
    fine_at size l a (Some f) e fa g = grind (arith, common_steps)

    pub fine_view : (size : ℕ) (l : Link R) (a : List (Flow R)) → AreInputs fine st a
        → GoodAt st size l a → fine (view l) ≡ true
    fine_view size l a fa g = fine_at size l a l.heard refl fa g

    -- and what it takes next
    pub fine_popped : (size : ℕ) (l : Link R) (a : List (Flow R)) → is_none l.heard ≡ true
        → AreInputs fine st a → GoodAt st size l a
        → fine (view (popped l l.waiting)) ≡ true
    fine_popped size l a new fa g =
        let on : Onward fine st a a = record { before = fa; after = fa; later = all_same a } in
        fine_view size (popped l l.waiting) a fa (takes_at size l a a l.waiting refl on g new)

-- What is given is a prefix of the meaning, and at the end all of it.
use Rattle.std.proofs.lemmas.Grind.{common_steps}
use Rattle.std.proofs.lemmas.Bool.Decides.{nat_tests}
use Rattle.std.proofs.Common.{◌≡◌, ℕ, zero, suc, ◌+◌, ◌<◌, ◌≤◌, Bool, true, if◌then◌else◌, nat_lt}
use Rattle.std.proofs.Common.{List, [], map, length, Option, Some, refl, sym, ap, ◌∙◌, subst}
use Rattle.std.proofs.Common.{⊎_elim, arith, eq-eqb, ne_eqb}
use Rattle.std.proofs.lemmas.Bool.{cases_eq, cond-true, cond-false}
use Rattle.std.proofs.lemmas.List.{length-map}
use Rattle.hum_stage.specs.declared.faults.End.{End}
use Rattle.hum_turns.specs.Flow.{Flow, Begins, IsOver, Later}
use Rattle.hum_turns.specs.Plan.{Want, Stage, inputs_end, or_own, end_of, AreInputs, Onward, whole, KeepsFine}
use Rattle.hum_turns.specs.Plan.{IsLawful, Plan, last, IsPlan}
use Rattle.hum_turns.specs.Meaning.{meanings, meaning, plan_meaning, EveryMeaningIsFine}
use Rattle.hum_turns.specs.Links.{Link, given, view, Moment, inputs, is_over, Agrees}
use Rattle.hum_turns.specs.Turns.{State, Gives, by_want, stage_state}
use Rattle.hum_turns.proofs.Fronts.{begins_trans, begins_append, same_over, map_same}
use Rattle.hum_turns.proofs.Fronts.{later_map, fine_map, over_map, is_set}
use Rattle.hum_turns.proofs.Good.{GoodAt, at_end, grown}
use Rattle.hum_turns.proofs.States.{last_less}
use Rattle.hum_turns.proofs.Keeping.{Inv, fine_inputs}

-- The meaning by its equation.

meanings_at : {R : Type 0} (plan : Plan R) (n i : ℕ) → i < n → meanings plan n i ≡ meaning plan i
meanings_at plan zero i h = absurd (omega arith)
meanings_at plan (suc n) i h =
    ⊎_elim
    (λ same. subst (λ j. meanings plan (suc j) i ≡ meaning plan i) same refl)
    (λ other. cond-false _ _ _ (ne_eqb i n other) ∙ meanings_at plan n i (omega arith))
    (cases_eq i n)

-- the meanings of a stage's sources
abbrev pub finals : {R : Type 0} → Plan R → ℕ → List (Flow R)
finals plan k = map (meaning plan) (plan.stage k).sources

pub meaning_is : {R : Type 0} (plan : Plan R) (k : ℕ) → IsPlan plan → k < plan.count
    → meaning plan k ≡ whole (plan.stage k) (finals plan k)
meaning_is = grind (arith, nat_tests, cond-true, eq-eqb, map_same, meanings_at)

-- A link against the meaning.

flow_of : {R : Type 0} → List R → Option End → Flow R
flow_of xs o = record { items = xs; end = o }

all_taken : {R : Type 0} (l : Link R) (s : List R) → Begins (given l) s
    → length s ≤ length (given l) → l.waiting ≡ [] → s ≡ l.taken
all_taken = grind (arith, common_steps)

module _ {R : Type 0} {fine : Flow R → Bool} {st : Stage R} (law : IsLawful fine st) where
  -- when the end was heard, all was taken
  over_whole : (size : ℕ) (l : Link R) (a fs : List (Flow R)) → Onward fine st a fs
      → GoodAt st size l a → (e : End) → l.heard ≡ Some e → whole st fs ≡ view l
  unfolding flow_of
  over_whole size l a fs on g e m =
      let k = g.heard e m in
      let mark = g.marked e k.1 in
      let end = at_end law l a on.before mark.0 in
      let same = same_over a fs on.later end.rest.over in
      let items = sym end.rest.output ∙ all_taken l (st.output l.read a) g.sent end.all k.0 in
      let own : end_of st l.read a ≡ end_of st st.bytes a =
      ap (or_own (inputs_end a)) end.rest.own in
      let ended : Some (end_of st st.bytes a) ≡ l.heard = ap Some (sym own ∙ sym mark.1) ∙ sym m in
      ap (whole st) same
      ∙ (ap (λ xs. flow_of xs (Some (end_of st st.bytes a))) items ∙ ap (λ o. flow_of l.taken o) ended)

  pub against : (size : ℕ) (l : Link R) (a fs : List (Flow R)) → Onward fine st a fs
      → GoodAt st size l a → Begins (given l) (whole st fs).items × Later (view l) (whole st fs)
  against size l a fs on g =
      let front = begins_trans (given l) (st.output l.read a) (st.output st.bytes fs) g.sent
      (grown law l.read st.bytes a fs g.within (omega arith) on) in (
        front,
        record {
          items = begins_trans l.taken (given l) (st.output st.bytes fs)
              (begins_append l.taken l.waiting) front;
          over = over_whole size l a fs on g;
        },
      )

module _ {R : Type 0} (plan : Plan R) (ok : IsPlan plan) where
  -- A meaning is over, and fine where a stage reads it.
  meanings_over : (n k : ℕ) → k < n → k < plan.count
      → IsOver (meaning plan k) × (k + 1 < plan.count → plan.fine (meaning plan k) ≡ true)
  meanings_over zero k h less = absurd (omega arith)
  meanings_over (suc n) k h less =
      let ss = (plan.stage k).sources in
      let below : (s : ℕ) → s < k
      → IsOver (meaning plan s) × (s + 1 < plan.count → plan.fine (meaning plan s) ≡ true)
      = λ s b. meanings_over n s (omega arith) (omega arith) in
      let over = over_map (meaning plan) (λ s. s < k) (λ s b. (below s b).0) ss (ok.below k less) in
      let fines = fine_map (meaning plan) (λ s. s < k) plan.fine
      (λ s b. (below s b).1 (omega arith)) ss (ok.below k less) in
      let is = meaning_is plan k ok less in (
        (_, ap (λ (f : Flow R). f.end) is),
        λ more. ap plan.fine is
            ∙ (ok.keeps k more).done (finals plan k)
            (record { count = length-map ss (meaning plan); each = fines }) over,
      )

  fine_finals : (k : ℕ) → k < plan.count → AreInputs plan.fine (plan.stage k) (finals plan k)
  fine_finals k less = record {
    count = length-map (plan.stage k).sources (meaning plan);
    each = fine_map (meaning plan) (λ s. s < k) plan.fine
        (λ s b. (meanings_over plan.count s (omega arith) (omega arith)).1 (omega arith))
        (plan.stage k).sources (ok.below k less);
  }

  -- The plan's meaning, where its last stage makes what may lie on a link.
  pub meaning_fine : KeepsFine plan.fine (plan.stage (last plan))
      → plan.fine (plan_meaning plan) ≡ true
  meaning_fine keeps =
      let k = last plan in
      let less = last_less plan.count ok.some in
      let ss = (plan.stage k).sources in
      let over = over_map (meaning plan) (λ s. s < k)
      (λ s b. (meanings_over plan.count s (omega arith) (omega arith)).0) ss (ok.below k less) in
      ap plan.fine (meaning_is plan k ok less) ∙ keeps.done (finals plan k) (fine_finals k less) over

  -- by induction over the stages, in order
  fronts : (size : ℕ) (m : Moment R) → Inv plan size m → (n k : ℕ) → k < n → k < plan.count
      → Begins (given (m k)) (meaning plan k).items × Later (view (m k)) (meaning plan k)
  fronts size m inv zero k h less = absurd (omega arith)
  fronts size m inv (suc n) k h less =
      let on : Onward plan.fine (plan.stage k) (inputs plan m k) (finals plan k) = record {
        before = fine_inputs plan size ok m k inv less;
        after = fine_finals k less;
        later = later_map (λ s. view (m s)) (λ s. s < k) (meaning plan)
            (λ s lower. (fronts size m inv n s (omega arith) (omega arith)).1)
            (plan.stage k).sources (ok.below k less);
      } in
      subst (λ f. Begins (given (m k)) f.items × Later (view (m k)) f)
      (sym (meaning_is plan k ok less))
      (against (ok.lawful k less) size (m k) (inputs plan m k) (finals plan k) on (inv k less))

  pub front : (size : ℕ) (m : Moment R) (k : ℕ) → Inv plan size m → k < plan.count
      → Begins (given (m k)) (meaning plan k).items × Later (view (m k)) (meaning plan k)
  front size m k inv less = fronts size m inv (suc k) k (omega arith) less

  pub at_the_end : (size : ℕ) (m : Moment R) → Inv plan size m → is_over plan m ≡ true
      → view (m (last plan)) ≡ plan_meaning plan
  at_the_end size m inv h =
      let e = is_set (m (last plan)).heard h in
      let f = front size m (last plan) inv (last_less plan.count ok.some) in
      sym (f.1.over e.0 e.1)

-- Another plan that agrees so far.

-- a stage's state, by what it settles, wants and reads from
abbrev by_parts : {R : Type 0} → ℕ → List R → Want → List ℕ → State
by_parts n output want sources = if nat_lt n (length output) then Gives else by_want sources want

pub agrees_good : {R : Type 0} (plan other : Plan R) (size : ℕ) (m : Moment R)
    → Agrees plan other m → Inv plan size m → Inv other size m
agrees_good {R} plan other size m agree inv k lesso =
    let n = agree.count in
    let less : k < plan.count = omega arith in
    let g = inv k less in
    let st = plan.stage k in
    let ot = other.stage k in
    let l = m k in
    let a = inputs plan m k in
    let ins : inputs other m k ≡ a = ap (map (λ s. view (m s))) (agree.sources k less) in
    let out = agree.output k a less in
    let states : stage_state ot l a ≡ stage_state st l a =
    ap (λ o. by_parts (length (given l)) o (ot.wants l.read a) ot.sources) out
    ∙ ap (λ w. by_parts (length (given l)) (st.output l.read a) w ot.sources)
    (agree.wants k a less)
    ∙ ap (by_parts (length (given l)) (st.output l.read a) (st.wants l.read a))
    (agree.sources k less) in
    let own = ap (or_own (inputs_end a)) (sym (agree.own k a less)) in
    let good : GoodAt ot size l a = record {
      sent = subst (Begins (given l)) (sym out) g.sent;
      marked = λ e h. (states ∙ (g.marked e h).0, (g.marked e h).1 ∙ own);
      heard = g.heard;
      room = g.room;
      within = agree.read k less;
    } in
    subst (GoodAt ot size l) (sym ins) good

pub agrees_self : {R : Type 0} (plan : Plan R) (size : ℕ) (m : Moment R) → Inv plan size m
    → Agrees plan plan m
agrees_self = grind (arith, nat_tests)

pub every_meaning_is_fine : {R : Type 0} → EveryMeaningIsFine R
every_meaning_is_fine plan ok keeps = meaning_fine plan ok keeps

-- Who is known not to be ready once an actor was asked.
use Rattle.std.proofs.lemmas.Bool.Decides.{nat_tests}
use Rattle.std.proofs.Common.{◌≡◌, ◌≢◌, ◌∙◌, ◌⊎◌, ℕ, zero, suc, ◌+◌, ◌-◌, ◌<◌, ◌≤◌, true, false, List, [], ◌∷◌, Some, None}
use Rattle.std.proofs.Common.{is_none, ◌&&◌, refl, sym, ap, subst, arith, inl, inr, ⊎_elim, slice_get}
use Rattle.std.specs.List.{AllByRecursion}
use Rattle.std.proofs.lemmas.Bool.{false≢true, false_from_ne_true, cases_eq, cases_lt}
use Rattle.std.proofs.lemmas.Option.{none-some}
use Rattle.hum_score.specs.Row.{Row, text_of}
use Rattle.hum_turns.specs.Turns.{State, Gives, Reads, Takes, Ends, state, ready, Step}
use Rattle.hum_turns.specs.Failures.{Now, Turn, is_ready, result}
use Rattle.hum_turns.specs.Near.{touched, LooksAt, IsOneOf}
use Rattle.hum_turns.proofs.Near.{ready_untouched}
use Rattle.hum_turns.proofs.States.{taker, last_next}
use Rattle.hum_engine.specs.Looks.{Sees, FromLeft, Beside, Along, FromRight, Reaches}
use Rattle.hum_engine.specs.Looks.Reaches.{Itself, Through}
use Rattle.hum_engine.specs.Scene.{Scene, plan_of, TakesFrom, IsNetPlan}

-- Who takes from a link, and which links there are.

pub index_all : (P : ℕ → Type 0) (ss : List ℕ) (place t : ℕ) → AllByRecursion P ss
    → slice_get ss place ≡ Some t → P t
index_all P (x ∷ ss) (suc place) t h e = index_all P ss place t h.1 e
index_all P ss place t h k = grind (arith, nat_tests)

one_of : (ss : List ℕ) (t : ℕ) → IsOneOf ss t ⊎ (IsOneOf ss t → ⊥)
one_of [] t = inr (λ one. none-some t one.1)
one_of (x ∷ ss) t = elim (cases_eq x t) [
  | inl here ↦ inl (zero, ap Some here)
  | inr apart ↦ ⊎_elim (λ one. inl (suc one.0, one.1)) (λ none. inr (λ one. behind one.0 apart none one.1)) (one_of ss t)
]
  where
    behind : (place : ℕ) → x ≢ t → (IsOneOf ss t → ⊥) → slice_get (x ∷ ss) place ≡ Some t → ⊥
    behind = grind (arith, nat_tests)

-- Who takes from a link is told.
takes_or : (s : Scene) (r t : ℕ) → TakesFrom s.count s.kinds r t ⊎ (TakesFrom s.count s.kinds r t → ⊥)
takes_or s r t = elim (cases_lt r s.count) [
  | inl less ↦ ⊎_elim (λ one. inl (inl (less, one)))
      (λ none. inr (⊎_elim (λ w. none w.1) (λ w. omega (arith, less, w.0))))
      (one_of (s.kinds r).stage.sources t)
  | inr more ↦ grind (arith, nat_tests, cases_eq, ⊎_elim)
]

-- It stands behind that, and so does each actor that a stage reaches.
takes_above : (s : Scene) → IsNetPlan s.count s.kinds s.size → (r t : ℕ) → TakesFrom s.count s.kinds r t → t < r
takes_above = grind (arith, nat_tests, ⊎_elim, index_all, last_next)

reaches_up : (s : Scene) → IsNetPlan s.count s.kinds s.size → {k j : ℕ} → Reaches s.count s.kinds k j → k ≤ j
reaches_up s plan Itself = omega arith
reaches_up s plan (Through takes on) = omega (arith, takes_above s plan _ _ takes, reaches_up s plan on)

-- A turn of an actor, which changes this link and doesn't end the run.
pub record IsTurn (s : Scene) (k link : ℕ) (old new : Now Row) : Type 0 where
  pub plan : IsNetPlan s.count s.kinds s.size
  pub turn : Turn (plan_of s) s.size text_of k old new
  pub going : result (plan_of s) old ≡ None
  pub none : result (plan_of s) new ≡ None
  pub within : k ≤ s.count
  pub link_is : link ≡ touched k (state (plan_of s) old.links k)

module _ {s : Scene} {k link : ℕ} {old new : Now Row} (t : IsTurn s k link old new) where
  by_state : (st : State) → state (plan_of s) old.links k ≡ st → link ≡ touched k st → k ≢ link
      → TakesFrom s.count s.kinds k link
  by_state Gives e is apart = absurd (apart (sym is))
  by_state Reads e is apart = absurd (apart (sym is))
  by_state Ends e is apart = absurd (apart (sym is))
  by_state (Takes i) e is apart = grind (arith, nat_tests, taker (plan_of s) t.plan.ok old.links k i e)

  pub took : k ≢ link → TakesFrom s.count s.kinds k link
  took = by_state (state (plan_of s) old.links k) refl t.link_is

  pub touched_below : link ≤ k
  touched_below = ⊎_elim
      (λ (is : k ≡ link). omega (arith, is))
      (λ (apart : k ≢ link). omega (arith, takes_above s t.plan k link (took apart)))
      (cases_eq k link)

  pub moves : Step (plan_of s) s.size k old.links new.links
  moves = ⊎_elim (λ m. m.step) (λ f. absurd (grind (arith, f.failure, t.none))) t.turn.turns

-- some actor that is ready
pub record AnyReady (s : Scene) (now : Now Row) : Type 0 where
  pub actor : ℕ
  pub within : actor ≤ s.count
  pub is_ready : is_ready (plan_of s) s.size now actor ≡ true

-- who alone takes from a link
pub record IsTaker (s : Scene) (link taker : ℕ) : Type 0 where
  pub alone : (j : ℕ) → TakesFrom s.count s.kinds j link → j ≡ taker
  pub behind : link < taker
  pub most : taker ≤ s.count

module _ {s : Scene} {k link taker : ℕ} {old new : Now Row} (t : IsTurn s k link old new) (u : IsTaker s link taker) where
  -- Who neither gives onto the link nor takes from it is as ready as before,
  apart_as_ready : (j : ℕ) → j ≤ s.count → j ≢ link → (TakesFrom s.count s.kinds j link → ⊥)
      → is_ready (plan_of s) s.size new j ≡ is_ready (plan_of s) s.size old j
  apart_as_ready j less apart other =
      let far : LooksAt (plan_of s) j link → ⊥ = grind (arith, nat_tests, ⊎_elim) in
      ap (λ o. is_none o && ready (plan_of s) s.size new.links j) t.none
      ∙ ready_untouched (plan_of s) t.plan.ok s.size k old.links new.links (moves t) j
      (subst (λ i. LooksAt (plan_of s) j i → ⊥) t.link_is far)
      ∙ sym (ap (λ o. is_none o && ready (plan_of s) s.size old.links j) t.going)

  -- and so is who isn't the link's taker.
  pub others_as_ready : (j : ℕ) → j ≤ s.count → j ≢ link → j ≢ taker
      → is_ready (plan_of s) s.size new j ≡ is_ready (plan_of s) s.size old j
  others_as_ready j less apart other = apart_as_ready j less apart (λ takes. other (u.alone j takes))

  before : (j : ℕ) → j ≤ s.count → (j ≢ link) × (j ≢ taker) → is_ready (plan_of s) s.size old j ≡ false
      → is_ready (plan_of s) s.size new j ≡ false
  before j less apart isnt = others_as_ready j less apart.0 apart.1 ∙ isnt

  one : (k ≡ link) ⊎ (k ≡ taker)
  one = ⊎_elim inl (λ apart. inr (u.alone k (took t apart))) (cases_eq k link)

  -- From the left: nobody who stands to the left of that link is ready.
  pub left_moved : Sees (FromLeft k) s old → Sees (FromLeft link) s new
  left_moved sees = (
    omega (arith, touched_below t, sees.0),
    λ j less.
        let below = touched_below t in
        before j (omega (arith, less, below, sees.0))
        ((λ e. absurd (omega (arith, less, e))), (λ e. absurd (omega (arith, less, e, u.behind))))
        (sees.1 j (omega (arith, less, below))),
  )

  -- Behind a record that was taken from it that actor alone is asked before the taker,
  pub took_beside : link < k → Sees (FromLeft k) s old → Sees (Beside link k) s new
  took_beside less sees =
      let takes = took t (λ e. omega (arith, less, e)) in (
        less,
        sees.0,
        takes,
        λ j below apart. before j (omega (arith, below, sees.0))
            (apart, λ e. absurd (omega (arith, below, e, u.alone k takes)))
            (sees.1 j below),
      )

  -- and nobody once it isn't ready.
  pub filled_beside : {by : ℕ} → k ≡ link → is_ready (plan_of s) s.size new link ≡ false → Sees (Beside k by) s old
      → Sees (FromLeft by) s new
  filled_beside {by} own isnt sees =
      let is : by ≡ taker = u.alone by (subst (TakesFrom s.count s.kinds by) own sees.2) in (
        sees.1,
        λ j less. ⊎_elim
            (λ (here : j ≡ link). ap (is_ready (plan_of s) s.size new) here ∙ isnt)
            (λ apart. before j (omega (arith, less, sees.1)) (apart, λ e. absurd (omega (arith, less, e, is)))
            (sees.3 j less (λ e. apart (e ∙ own))))
            (cases_eq j link),
      )

  -- Where those alone may be ready whom a stage reaches, those may be whom the owner of that link reaches.
  pub along_moved : {by : ℕ} → Sees (Along k by) s old → Sees (Along link by) s new
  along_moved sees = (
    omega (arith, touched_below t, sees.0),
    sees.1,
    λ j less ready. ⊎_elim
        (λ (here : j ≡ link). subst (Reaches s.count s.kinds link) (sym here) Itself)
        (λ apart. ⊎_elim
        (λ takes. Through takes Itself)
        (λ other. from (sees.2 j less (sym (apart_as_ready j (omega (arith, less, sees.1)) apart other) ∙ ready)))
        (takes_or s j link))
        (cases_eq j link),
  )
    where
      from : {j : ℕ} → Reaches s.count s.kinds k j → Reaches s.count s.kinds link j
      from {j} on = ⊎_elim
          (λ (is : k ≡ link). subst (λ i. Reaches s.count s.kinds i j) is on)
          (λ apart. Through (took t apart) on)
          (cases_eq k link)

  -- From the right: nobody who stands to the right of who takes from it.
  pub right_moved : Sees (FromRight k) s old → Sees (FromRight taker) s new
  right_moved sees = (
    u.most,
    λ j more less. before j less
        ((λ e. absurd (omega (arith, more, e, u.behind))), (λ e. absurd (omega (arith, more, e))))
        (sees.1 j (omega (arith, more, u.behind, one)) less),
  )

-- Those whom a stage reaches stand behind it; and where it isn't ready its taker reaches them.
pub along_left : (s : Scene) (now : Now Row) {k by m : ℕ} → IsNetPlan s.count s.kinds s.size → m ≤ k → m ≤ by
    → Sees (Along k by) s now → Sees (FromLeft m) s now
along_left s now plan below within sees = (
  omega (arith, within, sees.1),
  λ j less. false_from_ne_true _ (λ set.
      omega (arith, less, below, reaches_up s plan (sees.2 j (omega (arith, less, within)) set))),
)

pub along_passed : (s : Scene) (now : Now Row) {k by next : ℕ} → is_ready (plan_of s) s.size now k ≡ false → IsTaker s k next
    → Sees (Along k by) s now → Sees (Along next by) s now
along_passed s now {k} {next = next} isnt u sees = (
  u.most,
  sees.1,
  λ j less is. passed (sees.2 j less is) is,
)
  where
    passed : {j : ℕ} → Reaches s.count s.kinds k j → is_ready (plan_of s) s.size now j ≡ true → Reaches s.count s.kinds next j
    passed Itself is = absurd (false≢true (sym isnt ∙ is))
    passed {j} (Through {taker = r} takes on) is = subst (λ i. Reaches s.count s.kinds i j) (u.alone r takes) on

pub beside_along : (s : Scene) (now : Now Row) {k by : ℕ} → Sees (Beside k by) s now → Sees (Along k by) s now
beside_along s now {k} sees = (
  omega (arith, sees.0, sees.1),
  sees.1,
  λ j less ready. ⊎_elim
      (λ (here : j ≡ k). subst (Reaches s.count s.kinds k) (sym here) Itself)
      (λ apart. absurd (false≢true (sym (sees.3 j less apart) ∙ ready)))
      (cases_eq j k),
)

-- Who is ready is no actor of which it is known that it isn't.
not_it : {s : Scene} {now : Now Row} (some : AnyReady s now) → is_ready (plan_of s) s.size now some.actor ≡ false → ⊥
not_it some unready = false≢true (sym unready ∙ some.is_ready)

-- Behind an actor that isn't ready, where someone else is.
module _ {s : Scene} {now : Now Row} {k : ℕ} (isnt : is_ready (plan_of s) s.size now k ≡ false) (some : AnyReady s now) where
  pub left_passed : Sees (FromLeft k) s now → Sees (FromLeft (k + 1)) s now
  left_passed sees =
      let isnt_below : (j : ℕ) → j < k + 1 → is_ready (plan_of s) s.size now j ≡ false = λ j less. ⊎_elim
      (λ (here : j ≡ k). ap (is_ready (plan_of s) s.size now) here ∙ isnt)
      (λ apart. sees.1 j (omega (arith, less, apart)))
      (cases_eq j k) in (
        ⊎_elim (λ (more : k < some.actor). omega (arith, more, some.within))
            (λ (less : some.actor ≤ k). absurd (not_it some (isnt_below some.actor (omega (arith, less)))))
            (cases_lt k some.actor),
        isnt_below,
      )

  pub right_more : Sees (FromRight k) s now → 0 < k
  right_more sees = ⊎_elim
      (λ (more : 0 < k). more)
      (λ (none : k ≤ 0). ⊎_elim
      (λ (here : some.actor ≡ k). absurd (not_it some (ap (is_ready (plan_of s) s.size now) here ∙ isnt)))
      (λ apart. absurd (not_it some (sees.1 some.actor (omega (arith, none, apart)) some.within)))
      (cases_eq some.actor k))
      (cases_lt 0 k)

  pub right_passed : Sees (FromRight k) s now → Sees (FromRight (k - 1)) s now
  right_passed sees = (
    omega (arith, sees.0),
    λ j more less. ⊎_elim
        (λ (here : j ≡ k). ap (is_ready (plan_of s) s.size now) here ∙ isnt)
        (λ apart. sees.1 j (omega (arith, more, apart, right_more sees)) less)
        (cases_eq j k),
  )

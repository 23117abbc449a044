-- What an actor's state says of it, and what it needs to be ready.
use Rattle.std.proofs.lemmas.Bool.Decides.{nat_tests}
use Rattle.std.proofs.Common.{◌≡◌, ℕ, pred, ◌+◌, ◌<◌, ◌≤◌, ◌⊎◌, Bool, true}
use Rattle.std.proofs.Common.{false, if◌then◌else◌, nat_lt, List, length, slice_get, slice_index}
use Rattle.std.proofs.Common.{Some, None, is_none, sym, ap, ◌∙◌, subst, ⊎_elim, arith}
use Rattle.std.proofs.Common.{le-ltb, lt-ltb}
use Rattle.std.proofs.lemmas.Bool.{cases_lt, cases_Bool, and_parts, and_from, cond-true, cond-false}
use Rattle.std.proofs.lemmas.Option.{none-some, slice_get_within, slice_get-get_or}
use Rattle.std.proofs.lemmas.List.{length-map}
use Rattle.hum_turns.specs.Flow.{Flow}
use Rattle.hum_turns.specs.Plan.{Want, Source, Plan, last, IsPlan}
use Rattle.hum_turns.specs.Links.{given, view, has_room, has_some, Moment, inputs, settled}
use Rattle.hum_turns.specs.Turns.{State, Gives, Reads, Takes, Ends, by_want, stage_state, state}
use Rattle.hum_turns.specs.Turns.{can, is_source, ready, HasRead}
use Rattle.hum_turns.proofs.Fronts.{source_at}

-- The causes of each state.

pub takes_same : {a b : ℕ} → Takes a ≡ Takes b → a ≡ b
takes_same h = cc

takes_cases : (ss : List ℕ) (s : ℕ) (b : Bool) (w : Want)
    → (if b then Gives else by_want ss w) ≡ Takes s
    → (j : ℕ) × (w ≡ Source j) × (slice_index ss j ≡ s)
takes_cases = grind (arith, nat_tests)

-- The link that a stage wants from: of a source of its own, whose end it hasn't heard.
pub record Wanted {R : Type 0} (plan : Plan R) (m : Moment R) (k s : ℕ) : Type 0 where
  pub place : ℕ
  pub is_there : slice_get (plan.stage k).sources place ≡ Some s
  pub below : s < k
  pub unheard : (m s).heard ≡ None

-- who takes from a link: a stage that wants it, or the sink from the last one
abbrev pub Taker : {R : Type 0} → Plan R → Moment R → ℕ → ℕ → Type 0
Taker plan m k s = ((k < plan.count) × Wanted plan m k s) ⊎ ((plan.count ≤ k) × (s ≡ last plan))

-- What an actor needs for a turn in its state.
abbrev pub Allowed : {R : Type 0} → ℕ → Moment R → ℕ → State → Type 0
Allowed size m k Gives = has_room size (m k) ≡ true
Allowed size m k Reads = Unit {0}
Allowed size m k (Takes s) = has_some (m s) ≡ true
Allowed size m k Ends = is_none (m k).mark ≡ true

can_allowed : {R : Type 0} (size : ℕ) (m : Moment R) (k : ℕ) (s : State) → can size m k s ≡ true
    → Allowed size m k s
can_allowed = grind (arith, nat_tests)

pub last_less : (n : ℕ) → 0 < n → pred n < n
last_less = grind (arith, nat_tests)

pub last_next : (n : ℕ) → 0 < n → pred n + 1 ≡ n
last_next = grind (arith, nat_tests)

-- Of any plan.
module _ {R : Type 0} (plan : Plan R) where
  pub state_is : (m : Moment R) (k : ℕ) → k < plan.count
      → state plan m k ≡ stage_state (plan.stage k) (m k) (inputs plan m k)
  state_is m k less = cond-true _ _ _ (lt-ltb k plan.count less)

  pub sink_state : (m : Moment R) (k : ℕ) → plan.count ≤ k → state plan m k ≡ Takes (last plan)
  sink_state m k h = cond-false _ _ _ (le-ltb k plan.count h)

  -- an actor that doesn't take is a stage
  not_sink : (m : Moment R) (k : ℕ) (s : State) → state plan m k ≡ s
      → (Takes (last plan) ≡ s → ⊥) → k < plan.count
  not_sink = grind (arith, nat_tests)

  pub gives_less : (m : Moment R) (k : ℕ) → state plan m k ≡ Gives → k < plan.count
  gives_less m k h = not_sink m k Gives h (λ e. cc)

  pub reads_less : (m : Moment R) (k : ℕ) → state plan m k ≡ Reads → k < plan.count
  reads_less m k h = not_sink m k Reads h (λ e. cc)

  pub ends_less : (m : Moment R) (k : ℕ) → state plan m k ≡ Ends → k < plan.count
  ends_less m k h = not_sink m k Ends h (λ e. cc)

  -- a stage that gives has something left to give
  pub gives_more : (m : Moment R) (k : ℕ) → state plan m k ≡ Gives
      → length (given (m k)) < length (settled plan m k)
  gives_more = grind (arith, nat_tests)

  -- Sources.

  pub source_is : (k : ℕ) → k < plan.count → 0 < (plan.stage k).bytes → is_source plan k ≡ true
  source_is k less some = and_from _ _ (lt-ltb k plan.count less) (lt-ltb 0 (plan.stage k).bytes some)

  pub source_less : (k : ℕ) → is_source plan k ≡ true
      → (k < plan.count) × (0 < (plan.stage k).bytes)
  source_less = grind (arith, nat_tests)

  pub source_ready : (size : ℕ) (m : Moment R) (k : ℕ) → is_source plan k ≡ true
      → ready plan size m k ≡ true → (is_none (m k).mark ≡ true) × (has_room size (m k) ≡ true)
  source_ready size m k s h = and_parts _ _ (sym (cond-true _ _ _ s) ∙ h)

  pub ready_source : (size : ℕ) (m : Moment R) (k : ℕ) → is_source plan k ≡ true
      → is_none (m k).mark ≡ true → has_room size (m k) ≡ true → ready plan size m k ≡ true
  ready_source size m k s unset room = cond-true _ _ _ s ∙ and_from _ _ unset room

  pub ready_other : (size : ℕ) (m : Moment R) (k : ℕ) (s : State) → is_source plan k ≡ false
      → state plan m k ≡ s → can size m k s ≡ true → ready plan size m k ≡ true
  ready_other size m k s other e h = cond-false _ _ _ other ∙ ap (can size m k) e ∙ h

-- Of a plan whose stages keep to what is asked of them.
module _ {R : Type 0} (plan : Plan R) (ok : IsPlan plan) where
  pub wanted : (m : Moment R) (k s : ℕ) → k < plan.count → state plan m k ≡ Takes s
      → Wanted plan m k s
  wanted m k s less h =
      let st = plan.stage k in
      let a = inputs plan m k in
      let c = takes_cases st.sources s
      (nat_lt (length (given (m k))) (length (st.output (m k).read a)))
      (st.wants (m k).read a) (sym (state_is plan m k less) ∙ h) in
      let n : length a ≡ length st.sources = length-map st.sources (λ i. view (m i)) in
      let x = (ok.lawful k less).asks (m k).read a c.0 n c.1 in
      let w = slice_get_within a c.0 x.input x.is_there in
      let f = source_at (λ i. view (m i)) (λ i. i < k) st.sources c.0 x.input (ok.below k less)
      x.is_there in
      record {
        place = c.0;
        is_there = slice_get-get_or st.sources c.0 0 (omega arith) ∙ ap Some c.2;
        below = subst (λ i. i < k) c.2 f.0;
        unheard = subst (λ i. (m i).heard ≡ None) c.2 (ap (λ (v : Flow R). v.end) f.1 ∙ x.is_open);
      }

  pub taker : (m : Moment R) (k s : ℕ) → state plan m k ≡ Takes s → Taker plan m k s
  taker = grind (arith, nat_tests, ⊎_elim, wanted, takes_same, sink_state, cases_lt)

  pub reads_bytes : (m : Moment R) (k : ℕ) → k < plan.count → state plan m k ≡ Reads
      → (m k).read < (plan.stage k).bytes
  reads_bytes = grind (arith, nat_tests)

  -- who reads is a source, and a source takes from no link
  pub reads_source : (m : Moment R) (k : ℕ) → state plan m k ≡ Reads → is_source plan k ≡ true
  reads_source = grind (arith, nat_tests)

  pub source_takes : (m : Moment R) (k s : ℕ) → is_source plan k ≡ true → state plan m k ≡ Takes s → ⊥
  source_takes m k s src h =
      let p = source_less plan k src in
      let w = wanted m k s p.0 h in
      none-some s (ap (λ ss. slice_get ss w.place) (sym ((ok.lawful k p.0).apart p.1)) ∙ w.is_there)

  source_allowed : (size : ℕ) (m : Moment R) (k : ℕ) (s : State) → is_source plan k ≡ true
      → state plan m k ≡ s → is_none (m k).mark ≡ true → has_room size (m k) ≡ true
      → Allowed size m k s
  source_allowed size m k Gives src e unset room = room
  source_allowed size m k Reads src e unset room = tt
  source_allowed size m k (Takes s) src e unset room = absurd (source_takes m k s src e)
  source_allowed size m k Ends src e unset room = unset

  -- a ready actor has what it needs
  pub ready_allows : (size : ℕ) (m : Moment R) (k : ℕ) (s : State) → ready plan size m k ≡ true
      → state plan m k ≡ s → Allowed size m k s
  ready_allows =
      grind (arith, nat_tests, ⊎_elim, source_ready, source_allowed, can_allowed, cond-false, cases_Bool)

  -- also once it has read
  pub read_allowed : (size : ℕ) (old between : Moment R) (k : ℕ) → is_source plan k ≡ true
      → ready plan size old k ≡ true → HasRead plan k old between
      → Allowed size between k (state plan between k)
  read_allowed = grind (arith, nat_tests, source_ready, source_allowed, is_none)

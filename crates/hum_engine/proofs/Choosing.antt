-- One step of a run: the actor that is asked, and what its turn leaves known of who is ready.
use Rattle.std.proofs.lemmas.Bool.Decides.{nat_tests}
use Rattle.std.proofs.Common.{◌≡◌, ◌∙◌, ℕ, ◌+◌, ◌-◌, ◌<◌, ◌≤◌, Bool, true, false, List, [], ◌∷◌, length, Option, Some, None, refl}
use Rattle.std.proofs.Common.{sym, ap, subst, arith, ⊎_elim, slice_get, get_or, is_none, ◌&&◌}
use Rattle.std.proofs.Math.Bool.{and-false}
use Rattle.std.proofs.lemmas.Bool.{cases_lt}
use Rattle.std.proofs.lemmas.Option.{slice_get-get_or, slice_get_within}
use Rattle.hum_text.specs.declared.calls.Source.{Ghosts as Source}
use Rattle.hum_text.specs.declared.calls.Sink.{Ghosts as Sink}
use Rattle.hum_stage.specs.declared.contract.Stage.{Ghosts as Stage}
use Rattle.hum_score.specs.Row.{Row}
use Rattle.hum_turns.specs.declared.order.Side.TheVariants as side
use Rattle.hum_turns.specs.Plan.{last}
use Rattle.hum_turns.specs.Near.{touched}
use Rattle.hum_turns.specs.Failures.{Now, is_ready, result}
use Rattle.hum_turns.specs.Orders.{Order, ready_list, chosen, some_true}
use Rattle.hum_turns.proofs.Near.{ready_reader}
use Rattle.hum_turns.proofs.States.{sink_state, last_less}
use Rattle.hum_turns.proofs.Writing.{still}
use Rattle.hum_nodes.proofs.Standing.{source_bytes}
use Rattle.hum_engine.specs.declared.net.Net.{Net}
use Rattle.hum_engine.specs.Looks.{Look, FromLeft, Beside, Along, FromRight, Unseen, Sees, leaning}
use Rattle.hum_engine.specs.Scene.{Scene, plan_of, moved, before_all, IsFull, IsNetPlan}
use Rattle.hum_engine.specs.Nets.{NetAt, AtEach, AreOver, GoesTo, MayAsk, MayGo, MayStep, HasPicked, HasRested}
use Rattle.hum_engine.specs.Nets.{HasGone, HasWorked, HasAdvanced}
use Rattle.hum_engine.proofs.Advancing.{pick_now, rested_on, then_at}
use Rattle.hum_engine.proofs.Feeding.{room_same}
use Rattle.hum_engine.proofs.Leaning.{left_choice, right_choice}
use Rattle.hum_engine.proofs.Looking.{IsTurn, IsTaker, touched_below, took, left_moved, left_passed, took_beside, filled_beside}
use Rattle.hum_engine.proofs.Looking.{along_left, along_moved, along_passed, beside_along}
use Rattle.hum_engine.proofs.Looking.{right_moved, right_passed, right_more}
use Rattle.hum_engine.proofs.Netting.{is_at, not_over, ready_at}
use Rattle.hum_engine.proofs.Running.{any_ready, no_rests, now_unfailed, picked, relisted, seen, some_ready, unfailed_at}

-- A source whose link is full isn't ready.
full_unready : {S R W : Type 0} {stage : Stage S} {writer : Sink W} {k : ℕ} {net : Net S R W} {start : Option (List ℕ)}
    {s : Scene} {now : Now Row} → NetAt stage writer start s net now → result (plan_of s) now ≡ None → IsFull k net.web
    → is_ready (plan_of s) s.size now k ≡ false
full_unready {stage = stage} {k = k} {net = net} {s = s} {now = now} h none f =
    let st = h.going (now_unfailed h none) in
    let less : k < s.count = omega (arith, slice_get_within net.web.nodes.items k f.node f.is, st.count) in
    let some = source_bytes stage.stands f.node _ _ f.source (st.nodes k f.node f.is) in
    sym (ready_at h none k (sym (ready_reader (plan_of s) s.size k now.links less some
    ∙ ap (λ b. is_none (now.links k).mark && b) (sym (room_same k st f.its) ∙ f.full) ∙ and-false _)))

-- The actor k that is asked, which the order picks if it is ready.
pub record Asked {S R W O : Type 0} (stage : Stage S) (writer : Sink W) (order : Order O) (look : Look) (k : ℕ) (p q : O)
    (net : Net S R W) : Type 0 where
  pub may : MayStep stage writer look net
  pub ask : MayAsk stage writer k net
  pub picks : AtEach stage writer net (λ start s now. result (plan_of s) now ≡ None → Sees look s now
      → is_ready (plan_of s) s.size now k ≡ true → HasPicked order (plan_of s) s.size p q now k)

module _ {S R W : Type 0} {stage : Stage S} {writer : Sink W} {k : ℕ} {net : Net S R W} where
  pub left_few : MayStep stage writer (FromLeft k) net → k < 256
  left_few may = let m = pick_now may in omega (arith, m.running.at.plan.few, m.sees.0)

  pub right_few : MayStep stage writer (FromRight k) net → k < 256
  right_few may = let m = pick_now may in omega (arith, m.running.at.plan.few, m.sees.0)

  pub left_asked : MayStep stage writer (FromLeft k) net → Asked stage writer (leaning side.Left) (FromLeft k) k tt tt net
  left_asked may =
      let m = pick_now may in
      record {
        may = may;
        ask = record { running = m.running; going = m.going; within = m.sees.0 };
        picks = λ start s now h none sees ready.
            record { choice = left_choice s now sees.0 ready sees; next = refl };
      }

  pub right_asked : MayStep stage writer (FromRight k) net
      → Asked stage writer (leaning side.Right) (FromRight k) k tt tt net
  right_asked may =
      let m = pick_now may in
      record {
        may = may;
        ask = record { running = m.running; going = m.going; within = m.sees.0 };
        picks = λ start s now h none sees ready.
            record { choice = right_choice s now sees.0 ready sees; next = refl };
      }

-- The flags were set: which of the actors are ready.
module _ {S R W : Type 0} {stage : Stage S} {writer : Sink W} {old net : Net S R W}
    (same : net ≡ record old { actors = net.actors }) (len : length net.actors.items ≡ length old.actors.items) where
  pub flags_set : {reader : Source R} {O : Type 0} {order : Order O} {p : O} → MayStep stage writer Unseen old
      → HasAdvanced stage reader writer order p p Unseen Unseen old net false
  flags_set may = rested_on may same len (λ start s now h none sees. tt)

  pub flags_may : MayStep stage writer Unseen old → MayStep stage writer Unseen net
  flags_may may = subst (MayStep stage writer Unseen) (sym same) (record {
    start = may.start;
    scene = may.scene;
    now = may.now;
    rests = may.rests;
    at = λ rests over. relisted refl len (may.at rests over);
    going = may.going;
    sees = λ rests over. tt;
  })

  pub flags_list : AtEach stage writer old (λ start s now. net.actors.items ≡ ready_list (plan_of s) s.size now)
      → AtEach stage writer net (λ start s now. net.actors.items ≡ ready_list (plan_of s) s.size now)
  flags_list list start s now h = list start s now
      (relisted (ap (λ (n : Net S R W). record n { actors = old.actors }) (sym same)) (sym len) h)

module _ {S R W : Type 0} {stage : Stage S} {writer : Sink W} {net : Net S R W} (may : MayStep stage writer Unseen net)
    (list : AtEach stage writer net (λ start s now. net.actors.items ≡ ready_list (plan_of s) s.size now)) where
  pub flags_pick : {flags : List Bool} → flags ≡ net.actors.items → some_true flags ≡ true
  flags_pick is =
      let m = pick_now may in
      let r = m.running in
      some_ready r.at m.going (is ∙ list r.start r.scene r.now r.at)

  -- The actor that is chosen by them.
  module _ {k : ℕ} (pick : ℕ) {flags : List Bool} (of : flags ≡ net.actors.items) (is : k ≡ chosen flags pick) where
    chosen_ready : AtEach stage writer net (λ start s now. result (plan_of s) now ≡ None
        → (k ≤ s.count) × (is_ready (plan_of s) s.size now k ≡ true))
    chosen_ready start s now h none =
        picked h pick none (is ∙ ap (λ l. chosen l pick) (of ∙ list start s now h))

    pub flags_go : MayGo stage writer k net
    flags_go =
        let m = pick_now may in
        let r = m.running in
        let g = chosen_ready r.start r.scene r.now r.at m.going in
        record { start = r.start; scene = r.scene; now = r.now; at = r.at; within = g.0; ready = g.1 }

    pub flags_ready : AtEach stage writer net (λ start s now. result (plan_of s) now ≡ None → k ≤ s.count
        → is_ready (plan_of s) s.size now k ≡ true)
    flags_ready start s now h none within = (chosen_ready start s now h none).1

    pub flags_asked : {O : Type 0} {order : Order O} {p q : O} {given : List Bool} → given ≡ net.actors.items
        → pick ≡ order.pick p given → q ≡ order.next p given → Asked stage writer order Unseen k p q net
    flags_asked {order = order} {p} {q} {given} from picks after =
        let m = pick_now may in
        let r = m.running in
        record {
          may = may;
          ask = record {
            running = r;
            going = m.going;
            within = (chosen_ready r.start r.scene r.now r.at m.going).0;
          };
          picks = λ start s now h none sees ready.
              let e = list start s now h in
              record {
                choice = is ∙ ap (chosen flags) (picks ∙ ap (order.pick p) (from ∙ e))
                    ∙ ap (λ l. chosen l (order.pick p (ready_list (plan_of s) s.size now))) (of ∙ e);
                next = after ∙ ap (order.next p) (from ∙ e);
              };
        }

module _ {S R W O : Type 0} {stage : Stage S} {writer : Sink W} {order : Order O} {look : Look} {k : ℕ} {p q : O}
    {net : Net S R W} (a : Asked stage writer order look k p q net) where
  within_all : {start : Option (List ℕ)} {s : Scene} {now : Now Row} → NetAt stage writer start s net now → k ≤ s.count
  within_all h = omega (arith, a.ask.within, a.ask.running.at.actors, h.actors)

  -- It was ready, and has had its turn.
  module _ {reader : Source R} {behind : Net S R W} {is_over : Bool}
      (ready : AtEach stage writer net (λ start s now. result (plan_of s) now ≡ None → k ≤ s.count
      → is_ready (plan_of s) s.size now k ≡ true))
      (gone : HasGone stage reader writer k net behind is_over) where
    -- what has come of one moment
    pub record Next (start : Option (List ℕ)) (s : Scene) (now : Now Row) : Type 0 where
      pub going : result (plan_of s) now ≡ None
      pub sees : Sees look s now
      pub picks : HasPicked order (plan_of s) s.size p q now k
      pub within : k ≤ s.count
      pub was : NetAt stage writer start (before_all gone.turned.reads s) net now
      pub able : is_ready (plan_of s) s.size now k ≡ true
      pub goes : GoesTo stage writer start s k now behind is_over

    next_at : (start : Option (List ℕ)) (s : Scene) (now : Now Row) → AreOver behind.web.nodes.items s.rests
        → NetAt stage writer start (before_all gone.turned.reads s) net now
        → result (plan_of s) now ≡ None → Sees look s now → Next start s now
    next_at start s now over h none sees =
        let mid : Scene = before_all gone.turned.reads s in
        let within : k ≤ s.count = within_all h in
        let able : is_ready (plan_of s) s.size now k ≡ true = ready start mid now h none within in
        record {
          going = none;
          sees = sees;
          picks = a.picks start mid now h none (seen look s mid.rests now sees) able;
          within = within;
          was = h;
          able = able;
          goes = gone.turned.turns start s now over h within able;
        }

    pub moved_on : {after : Look}
        → ((start : Option (List ℕ)) (s : Scene) (now : Now Row) (n : Next start s now)
        → result (plan_of s) n.goes.to ≡ None → Sees after s n.goes.to)
        → HasAdvanced stage reader writer order p q look after net behind is_over
    moved_on known = record {
      stepped = record {
        reads = gone.turned.reads;
        read = gone.turned.read;
        goes = λ start s now over h none sees.
            let n = next_at start s now over h none sees in (
              record {
                turns = k ∷ [];
                counted = gone.turns;
                to = n.goes.to;
                driven = (n.goes.to, n.picks.choice, n.goes.turn, (still n.goes.to, n.picks.next));
                at = n.goes.at;
              },
              record { tells = n.goes.tells; sees = λ goes. known start s now n goes },
            );
      };
      marks = gone.marks;
      flushes = gone.flushes;
    }

    -- a moment of it, while the run goes on
    next_now : is_over ≡ false → (start : Option (List ℕ)) × (s : Scene) × (now : Now Row)
        × (n : Next start s now) × (result (plan_of s) n.goes.to ≡ None)
    next_now not_yet =
        let t = then_at a.may reader behind gone.turned.reads (λ i. []) gone.turned.read (no_rests behind) in
        let n = next_at a.may.start (record t.scene { rests = λ i. [] }) t.now (no_rests behind) t.at t.going t.sees in
        (a.may.start, record t.scene { rests = λ i. [] }, t.now, n, not_over _ n.goes.tells not_yet)

  -- It has changed this link.
  module _ {reader : Source R} {link : ℕ} {behind : Net S R W} (w : HasWorked stage reader writer k link net behind false) where
    abbrev Goes : Option (List ℕ) → Scene → Now Row → Type 0
    Goes start s now = Next w.ready w.gone start s now

    module _ {start : Option (List ℕ)} {s : Scene} {now : Now Row} (n : Goes start s now)
        (goes : result (plan_of s) n.goes.to ≡ None) where
      turn_of : IsTurn s k link now n.goes.to
      turn_of =
          let mid : Scene = before_all w.gone.turned.reads s in
          record {
            plan = n.goes.at.plan;
            turn = n.goes.turn;
            going = n.going;
            none = goes;
            within = n.within;
            link_is = ⊎_elim (λ is. is) (λ own. absurd (own.1 (unfailed_at n.goes.at goes)))
                (w.changes (moved mid now.links)
                (record { at = is_at stage writer start mid net now k n.was n.able; within = n.within }));
          }

      link_within : link < s.count
      link_within = ⊎_elim
          (λ (less : k < s.count). omega (arith, touched_below turn_of, less))
          (λ (more : s.count ≤ k).
          let at_last : link ≡ last (plan_of s) = turn_of.link_is ∙ ap (touched k) (sink_state (plan_of s) now.links k more) in
          omega (arith, at_last, last_less s.count n.goes.at.plan.ok.some))
          (cases_lt k s.count)

      taker_of : {taker : ℕ} → slice_get behind.takers.items link ≡ Some taker → IsTaker s link taker
      taker_of {taker} is =
          let at = n.goes.at.takers.behind link taker is in
          record { alone = λ j takes. n.goes.at.takers.alone link taker j is takes; behind = at.0; most = at.1 }

      some_taker : slice_get behind.takers.items link ≡ Some (get_or behind.takers.items link 0)
      some_taker = slice_get-get_or behind.takers.items link 0 (omega (arith, link_within, n.goes.at.takers.many))

    pub link_few : link < length behind.takers.items
    link_few =
        let t = next_now w.ready w.gone refl in omega (arith, link_within t.3 t.4, t.3.goes.at.takers.many)

-- What is known then, from the left:
module _ {S R W : Type 0} {stage : Stage S} {reader : Source R} {writer : Sink W} {k : ℕ} {net behind : Net S R W}
    (may : MayStep stage writer (FromLeft k) net) where
  left_seen : {link : ℕ} (w : HasWorked stage reader writer k link net behind false) {start : Option (List ℕ)} {s : Scene}
      {now : Now Row} (n : Next (left_asked may) w.ready w.gone start s now) (goes : result (plan_of s) n.goes.to ≡ None)
      → Sees (FromLeft link) s n.goes.to
  left_seen w n goes =
      let a = left_asked may in left_moved (turn_of a w n goes) (taker_of a w n goes (some_taker a w n goes)) n.sees

  pub left_on : {link : ℕ} → HasWorked stage reader writer k link net behind false
      → HasAdvanced stage reader writer (leaning side.Left) tt tt (FromLeft k) (FromLeft link) net behind false
  left_on w = moved_on (left_asked may) w.ready w.gone (λ start s now n goes. left_seen w n goes)

  pub left_took : {link : ℕ} → HasWorked stage reader writer k link net behind false → link < k
      → HasAdvanced stage reader writer (leaning side.Left) tt tt (FromLeft k) (Beside link k) net behind false
  left_took w less =
      let a = left_asked may in
      moved_on a w.ready w.gone (λ start s now n goes.
      took_beside (turn_of a w n goes) (taker_of a w n goes (some_taker a w n goes)) less n.sees)

  pub left_filled : HasWorked stage reader writer k k net behind false → IsFull k behind.web
      → HasAdvanced stage reader writer (leaning side.Left) tt tt (FromLeft k) (FromLeft (k + 1)) net behind false
  left_filled w full = moved_on (left_asked may) w.ready w.gone (λ start s now n goes.
      left_passed (full_unready n.goes.at goes full) (any_ready n.goes.at goes) (left_seen w n goes))

  pub left_over : {link : ℕ} → HasWorked stage reader writer k link net behind true
      → HasAdvanced stage reader writer (leaning side.Left) tt tt (FromLeft k) Unseen net behind true
  left_over w = moved_on (left_asked may) w.ready w.gone (λ start s now n goes. tt)

  pub left_rested : HasRested stage writer k net behind
      → HasAdvanced stage reader writer (leaning side.Left) tt tt (FromLeft k) (FromLeft (k + 1)) net behind false
  left_rested h = rested_on may (rw h.same refl) (rw h.same refl) (λ start s now at none sees.
      left_passed (h.idle start s now at none sees.0) (any_ready at none) sees)

-- or of those that may be ready to its right as well,
module _ {S R W : Type 0} {stage : Stage S} {writer : Sink W} {look : Look} {k : ℕ} {net : Net S R W}
    (left : (s : Scene) (now : Now Row) → IsNetPlan s.count s.kinds s.size → Sees look s now → Sees (FromLeft k) s now)
    (may : MayStep stage writer look net) where
  may_left : MayStep stage writer (FromLeft k) net
  may_left = grind (arith, nat_tests)

  next_asked : Asked stage writer (leaning side.Left) look k tt tt net
  next_asked =
      let a = left_asked may_left in record {
        may = may;
        ask = a.ask;
        picks = λ start s now h none sees ready. a.picks start s now h none (left s now h.plan sees) ready;
      }

-- as of a stage from which another has just taken,
beside_left : {k by : ℕ} (s : Scene) (now : Now Row) → IsNetPlan s.count s.kinds s.size → Sees (Beside k by) s now
    → Sees (FromLeft k) s now
beside_left = grind (arith, nat_tests)

module _ {S R W : Type 0} {stage : Stage S} {writer : Sink W} {k by : ℕ} {net : Net S R W}
    (may : MayStep stage writer (Beside k by) net) where
  pub beside_asked : Asked stage writer (leaning side.Left) (Beside k by) k tt tt net
  beside_asked = next_asked beside_left may

  pub beside_less : k < by
  beside_less = (pick_now may).sees.0

module _ {S R W : Type 0} {stage : Stage S} {reader : Source R} {writer : Sink W} {k by : ℕ} {net behind : Net S R W}
    (may : MayStep stage writer (Beside k by) net) where
  pub beside_over : {link : ℕ} → HasWorked stage reader writer k link net behind true
      → HasAdvanced stage reader writer (leaning side.Left) tt tt (Beside k by) Unseen net behind true
  beside_over w = moved_on (beside_asked may) w.ready w.gone (λ start s now n goes. tt)

  pub beside_filled : HasWorked stage reader writer k k net behind false → IsFull k behind.web
      → HasAdvanced stage reader writer (leaning side.Left) tt tt (Beside k by) (FromLeft by) net behind false
  beside_filled w full =
      let a = beside_asked may in
      moved_on a w.ready w.gone (λ start s now n goes.
      filled_beside (turn_of a w n goes) (taker_of a w n goes (some_taker a w n goes)) refl
      (full_unready n.goes.at goes full) n.sees)

  pub beside_gave : HasWorked stage reader writer k k net behind false
      → HasAdvanced stage reader writer (leaning side.Left) tt tt (Beside k by) (Along k by) net behind false
  beside_gave w =
      let a = beside_asked may in
      moved_on a w.ready w.gone (λ start s now n goes.
      along_moved (turn_of a w n goes) (taker_of a w n goes (some_taker a w n goes)) (beside_along s now n.sees))

  pub beside_waits : behind ≡ net
      → HasAdvanced stage reader writer (leaning side.Left) tt tt (Beside k by) (Along k by) net behind false
  beside_waits same = rested_on may (rw same refl) (rw same refl) (λ start s now at none sees. beside_along s now sees)

-- and of those whom a stage reaches.
along_first : {k by : ℕ} → k ≤ by → (s : Scene) (now : Now Row) → IsNetPlan s.count s.kinds s.size → Sees (Along k by) s now
    → Sees (FromLeft k) s now
along_first less s now plan sees = along_left s now plan (omega arith) less sees

module _ {S R W : Type 0} {stage : Stage S} {writer : Sink W} {k by : ℕ} {net : Net S R W}
    (may : MayStep stage writer (Along k by) net) where
  pub along_asked : k ≤ by → Asked stage writer (leaning side.Left) (Along k by) k tt tt net
  along_asked less = next_asked (along_first less) may

  module _ {behind : Net S R W} (h : HasRested stage writer k net behind) where
    pub along_within : k < by → k < length behind.takers.items
    along_within more = grind (arith, nat_tests, pick_now may)

    module _ {taker : ℕ} (is : slice_get behind.takers.items k ≡ Some taker) where
      was_taker : slice_get net.takers.items k ≡ Some taker
      was_taker = ap (λ n. slice_get n.takers.items k) (sym h.same) ∙ is

      pub along_rested : {reader : Source R}
          → HasAdvanced stage reader writer (leaning side.Left) tt tt (Along k by) (Along taker by) net behind false
      along_rested = rested_on may (rw h.same refl) (rw h.same refl) (λ start s now at none sees.
          let most = at.takers.behind k taker was_taker in
          along_passed s now (h.idle start s now at none sees.0)
          (record { alone = λ j takes. at.takers.alone k taker j was_taker takes; behind = most.0; most = most.1 }) sees)

      pub along_closer : 256 - taker < 256 - k
      along_closer = grind (arith, nat_tests, pick_now may)

module _ {S R W : Type 0} {stage : Stage S} {reader : Source R} {writer : Sink W} {k by : ℕ} {net behind : Net S R W}
    (may : MayStep stage writer (Along k by) net) (less : k ≤ by) where
  pub along_few : HasWorked stage reader writer k k net behind false → k < length behind.takers.items
  along_few w = link_few (along_asked may less) w

  pub along_over : {link : ℕ} → HasWorked stage reader writer k link net behind true
      → HasAdvanced stage reader writer (leaning side.Left) tt tt (Along k by) Unseen net behind true
  along_over w = moved_on (along_asked may less) w.ready w.gone (λ start s now n goes. tt)

  pub along_on : {link : ℕ} → HasWorked stage reader writer k link net behind false
      → HasAdvanced stage reader writer (leaning side.Left) tt tt (Along k by) (Along link by) net behind false
  along_on w =
      let a = along_asked may less in
      moved_on a w.ready w.gone (λ start s now n goes.
      along_moved (turn_of a w n goes) (taker_of a w n goes (some_taker a w n goes)) n.sees)

  pub along_filled : {taker : ℕ} → HasWorked stage reader writer k k net behind false → IsFull k behind.web
      → slice_get behind.takers.items k ≡ Some taker
      → HasAdvanced stage reader writer (leaning side.Left) tt tt (Along k by) (Along taker by) net behind false
  along_filled w full is =
      let a = along_asked may less in
      moved_on a w.ready w.gone (λ start s now n goes.
      let u = taker_of a w n goes is in
      along_passed s n.goes.to (full_unready n.goes.at goes full) u (along_moved (turn_of a w n goes) u n.sees))

  pub along_waits : behind ≡ net
      → HasAdvanced stage reader writer (leaning side.Left) tt tt (Along k by) (Along k by) net behind false
  along_waits same = rested_on may (rw same refl) (rw same refl) (λ start s now at none sees. sees)

module _ {S R W : Type 0} {stage : Stage S} {reader : Source R} {writer : Sink W} {k by : ℕ} {net : Net S R W}
    (may : MayStep stage writer (Along k by) net) where
  pub along_here : k ≤ by → HasAdvanced stage reader writer (leaning side.Left) tt tt (Along k by) (FromLeft k) net net false
  along_here less = rested_on may refl refl (λ start s now at none sees. along_first less s now at.plan sees)

  -- nobody is left of these
  pub along_none : by ≤ k
      → HasAdvanced stage reader writer (leaning side.Left) tt tt (Along k by) (FromLeft by) net net false
  along_none more = rested_on may refl refl (λ start s now at none sees. along_left s now at.plan more (omega arith) sees)

-- from the right:
module _ {S R W : Type 0} {stage : Stage S} {reader : Source R} {writer : Sink W} {k : ℕ} {net behind : Net S R W}
    (may : MayStep stage writer (FromRight k) net) where
  pub right_on : {link : ℕ} → HasWorked stage reader writer k link net behind false
      → {taker : ℕ} → slice_get behind.takers.items link ≡ Some taker
      → HasAdvanced stage reader writer (leaning side.Right) tt tt (FromRight k) (FromRight taker) net behind false
  right_on w at =
      let a = right_asked may in
      moved_on a w.ready w.gone (λ start s now n goes. right_moved (turn_of a w n goes) (taker_of a w n goes at) n.sees)

  pub right_took : {link : ℕ} → HasWorked stage reader writer k link net behind false → link < k
      → HasAdvanced stage reader writer (leaning side.Right) tt tt (FromRight k) (FromRight k) net behind false
  right_took {link} w less =
      let a = right_asked may in
      moved_on a w.ready w.gone (λ start s now n goes.
      let t = turn_of a w n goes in
      let u = taker_of a w n goes (some_taker a w n goes) in
      subst (λ i. Sees (FromRight i) s n.goes.to) (sym (u.alone k (took t (λ e. omega (arith, less, e)))))
      (right_moved t u n.sees))

  pub right_over : {link : ℕ} → HasWorked stage reader writer k link net behind true
      → HasAdvanced stage reader writer (leaning side.Right) tt tt (FromRight k) Unseen net behind true
  right_over w = moved_on (right_asked may) w.ready w.gone (λ start s now n goes. tt)

  pub right_rested : HasRested stage writer k net behind
      → HasAdvanced stage reader writer (leaning side.Right) tt tt (FromRight k) (FromRight (k - 1)) net behind false
  right_rested h = rested_on may (rw h.same refl) (rw h.same refl) (λ start s now at none sees.
      right_passed (h.idle start s now at none sees.0) (any_ready at none) sees)

pub right_some : {S R W : Type 0} {stage : Stage S} {writer : Sink W} {k : ℕ} {net behind : Net S R W}
    → MayStep stage writer (FromRight k) net → HasRested stage writer k net behind → 0 < k
right_some may h =
    let m = pick_now may in
    let r = m.running in
    right_more (h.idle r.start r.scene r.now r.at m.going m.sees.0) (any_ready r.at m.going) m.sees

-- or by the flags, nothing.
pub flags_on : {S R W O : Type 0} {stage : Stage S} {reader : Source R} {writer : Sink W} {order : Order O} {k : ℕ} {p q : O}
    {net behind : Net S R W} {is_over : Bool} (a : Asked stage writer order Unseen k p q net)
    → AtEach stage writer net (λ start s now. result (plan_of s) now ≡ None → k ≤ s.count
    → is_ready (plan_of s) s.size now k ≡ true)
    → HasGone stage reader writer k net behind is_over
    → HasAdvanced stage reader writer order p q Unseen Unseen net behind is_over
flags_on a ready gone = moved_on a ready gone (λ start s now n goes. tt)

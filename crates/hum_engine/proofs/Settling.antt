-- A turn of a stage, which a net counts.
use Rattle.std.proofs.Common.{◌≡◌, ◌≢◌, ◌∙◌, ℕ, ◌+◌, ◌<◌, ◌≤◌, ◌||◌, Bool, true, false, length, Option, Some}
use Rattle.std.proofs.Common.{None, Result, Ok, Err, refl, sym, ap, inl, inr, arith, ⊎_elim, eq-eqb, ne_eqb}
use Rattle.std.specs.Prelude.{OnOk, is_some}
use Rattle.std.proofs.lemmas.Bool.{cases_eq}
use Rattle.std.proofs.Math.Bool.{or-false}
use Rattle.std.proofs.lemmas.Option.{none-some, slice_get_within}
use Rattle.hum_text.specs.declared.calls.Source.{Ghosts as Source}
use Rattle.hum_text.specs.declared.calls.Sink.{Ghosts as Sink}
use Rattle.hum_stage.specs.declared.contract.Stage.{Ghosts as Stage}
use Rattle.hum_read.specs.declared.ReadError.{ReadError}
use Rattle.hum_read.specs.declared.ReadError.TheVariants as error
use Rattle.hum_turns.specs.declared.result.RunResult.{RunResult}
use Rattle.hum_turns.specs.declared.result.RunResult.TheVariants as ends
use Rattle.hum_turns.specs.Failures.{is_ready, result}
use Rattle.hum_turns.specs.Links.{has_some}
use Rattle.hum_turns.specs.Plan.{last}
use Rattle.hum_turns.specs.Turns.{ready}
use Rattle.hum_turns.proofs.Near.{ready_sink}
use Rattle.hum_nodes.specs.Polls.{is_failed_read}
use Rattle.hum_nodes.proofs.Standing.{reads_few}
use Rattle.hum_engine.specs.declared.net.Net.{Net}
use Rattle.hum_engine.specs.declared.web.Moved.{Moved}
use Rattle.hum_engine.specs.declared.web.Moved.TheVariants as moves
use Rattle.hum_engine.specs.declared.web.Web.{Web}
use Rattle.hum_engine.specs.Readers.{failed_at, is_read_of, is_write}
use Rattle.hum_engine.specs.Scene.{Scene, plan_of, moved, Somewhere, IsAt, IsActor, HasActor, IsKind, HasRoom, Fed}
use Rattle.hum_engine.specs.Told.{HasTold, HasActed, ComesTo, GivesOn, AsksOne}
use Rattle.hum_engine.specs.Nets.{AtEach, MayAsk, HasTurned, HasWorked, HasCome, HasGivenOn, IsChanged, SinkActed}
use Rattle.hum_engine.specs.Nets.{MarksFailures}
use Rattle.hum_engine.specs.Nets.{failed_by, turns_by, fault_by}
use Rattle.hum_engine.proofs.Bounds.{turns_few}
use Rattle.hum_engine.proofs.Netting.{at_now, ready_at, unfailed_at, unheard_at, ready_result, source_here}
use Rattle.hum_engine.proofs.Netting.{stage_turned, sink_turned, may_write}
use Rattle.hum_engine.proofs.Stepping.{sink_touches}
use Rattle.hum_engine.proofs.Showing.{shows_alike}

-- An actor that may be asked.
module _ {S R W : Type 0} {stage : Stage S} {writer : Sink W} {k : ℕ} {net : Net S R W} (m : MayAsk stage writer k net) where
  pub asked_at : IsAt stage net.web (moved m.running.scene m.running.now.links)
  asked_at = at_now m.running.at m.going

  pub asked_web : Somewhere (IsAt stage net.web)
  asked_web = record { scene = _; holds = asked_at }

  pub asked_stage : k ≢ length net.web.nodes.items → Somewhere (HasActor stage k net.web)
  asked_stage other =
      record { scene = _; holds = record { at = asked_at; less = omega (arith, asked_at.stand.count, m.within, other) } }

  pub asked_unfailed : net.failure ≡ None
  asked_unfailed = m.running.at.failure ∙ unfailed_at m.running.at m.going

  -- a stage whose link has room
  pub asked_room : HasRoom k net.web → k < length net.web.nodes.items
  asked_room r = omega (arith, slice_get_within net.web.links.items k r.link r.its, asked_at.stand.count, asked_at.stand.as_many)

  pub asked_number : length net.web.nodes.items < 256
  asked_number = omega (arith, m.running.at.plan.few, asked_at.stand.count)

  pub asked_few : net.turns < 9223372036854775808
  asked_few =
      let r = m.running in
      let few = turns_few stage writer r.start r.scene net r.now (reads_few stage.stands) r.at
      (unfailed_at r.at m.going) in
      omega (arith, r.at.counted, few)

-- Whether a stage is ready, as its web tells.
pub stage_ready : {S R W : Type 0} {stage : Stage S} {writer : Sink W}
    {k : ℕ} {net : Net S R W} {is : Bool} → k ≢ length net.web.nodes.items
    → ((s : Scene) → HasActor stage k net.web s → ready (plan_of s) s.size s.links k ≡ is)
    → AtEach stage writer net (λ start s now. result (plan_of s) now ≡ None → k ≤ s.count
    → is_ready (plan_of s) s.size now k ≡ is)
stage_ready {k = k} other tells start s now h none within =
    let at = at_now h none in
    let less : k < s.count = omega (arith, at.stand.count, within, other) in
    sym (ready_at h none k (sym (tells (moved s now.links) (record { at = at; less = less }))))

-- Whether the sink is, as what it takes from tells.
pub sink_ready : {S R W : Type 0} {stage : Stage S} {writer : Sink W}
    {k : ℕ} {net : Net S R W} {is : Bool} → k ≡ length net.web.nodes.items
    → ((s : Scene) → IsAt stage net.web s → (s.links (last (plan_of s))).heard ≡ None
    → has_some (s.links (last (plan_of s))) ≡ is)
    → AtEach stage writer net (λ start s now. result (plan_of s) now ≡ None → is_ready (plan_of s) s.size now k ≡ is)
sink_ready {k = k} here tells start s now h none =
    let at = at_now h none in
    sym (ready_at h none k (sym (tells (moved s now.links) at (unheard_at h none))
    ∙ sym (ready_sink (plan_of s) s.size k now.links (omega (arith, here, at.stand.count)))))

-- How a run has failed by what a stage k has told, if it has.
abbrev pub fault_of : {A : Type 0} → ℕ → Result A ReadError → Option RunResult
fault_of k (Ok x) = None
fault_of k (Err e) = Some (fault_by k e)

-- the link that it has changed; where it has failed, its own may stand for it
link_by : ℕ → Result ℕ ReadError → ℕ
link_by k (Ok link) = link
link_by k (Err e) = k

-- The marks of all readers, where it marks its own or none.
told_marks : {S R A : Type 0} {reader : Source R} {k : ℕ} {old new : Web S R}
    (told : Result A ReadError) → AsksOne reader k old new told
    → (i : ℕ) → failed_at reader i new.nodes.items ≡ (failed_at reader i old.nodes.items || is_read_of i (fault_of k told))
told_marks {A = A} {reader = reader} {k} {old} {new} told a i = ⊎_elim
    (λ (is : i ≡ k). rw (is, here told) a.marks)
    (λ (o : i ≢ k). rw (a.others i o, apart told (λ e. o (omega (arith, e))), or-false) refl)
    (cases_eq i k)
  where
    here : (told : Result A ReadError) → is_read_of k (fault_of k told) ≡ is_failed_read told
    here (Ok x) = refl
    here (Err error.Read) = eq-eqb (k + 1) (k + 1) refl
    here (Err error.Memory) = refl

    apart : (told : Result A ReadError) → (k + 1 ≡ i + 1 → ⊥) → is_read_of i (fault_of k told) ≡ false
    apart (Ok x) o = refl
    apart (Err error.Read) o = ne_eqb (k + 1) (i + 1) o
    apart (Err error.Memory) o = refl

unwritten : {A : Type 0} (k : ℕ) (told : Result A ReadError) → is_write (fault_of k told) ≡ false
unwritten k (Ok x) = refl
unwritten k (Err error.Read) = refl
unwritten k (Err error.Memory) = refl

module _ {S R W A : Type 0} {stage : Stage S} {reader : Source R} {writer : Sink W} {k : ℕ} {old : Net S R W} {web : Web S R} where
  pub told_turned : (told : Result A ReadError) → (k ≡ length old.web.nodes.items → ⊥)
      → OnOk told (Fed stage reader k old.web web) → (told ≡ Err error.Read → IsKind true k old.web)
      → AsksOne reader k old.web web told
      → HasTurned stage reader writer k old
      (record old { web = web; turns = old.turns + 1; failure = fault_of k told }) (is_some (fault_of k told))
  told_turned (Ok x) other fed kind a = stage_turned None other a.others fed
  told_turned (Err error.Memory) other fed kind a =
      stage_turned (Some ends.Memory) other a.others ((λ s at less. refl), a.stays)
  told_turned (Err error.Read) other fed kind a = stage_turned (Some (ends.Read (k + 1))) other a.others
      ((λ s at less. (source_here stage k old.web s at less (kind refl), refl, refl)), a.stays)

pub told_marked : {S R W A : Type 0} {reader : Source R} {writer : Sink W}
    {k n : ℕ} {old new : Net S R W} {web : Web S R} {answer told : Result A ReadError} → answer ≡ told
    → AsksOne reader k old.web web answer → new ≡ record old { web = web; turns = n; failure = fault_of k told }
    → MarksFailures reader writer old new
told_marked {k = k} {old = old} {told = told} is a net = rw net (record {
  reads = told_marks told (rw is at a);
  writes = rw (unwritten k told, or-false) refl;
  takers = refl;
})

changes_by : {S R : Type 0} {stage : Stage S} {reader : Source R} {k : ℕ} {old web : Web S R} (told : Result ℕ ReadError)
    → HasTold stage reader k old web told → (s : Scene) → IsActor stage k old s
    → IsChanged k s (fault_of k told) (link_by k told)
unfolding link_by
changes_by (Ok link) h s a = inl (h.link s a)
changes_by (Err e) h s a = inr (refl, λ none. none-some _ (sym none))

-- the net, where the turn hasn't failed
unfailed_on : {S R W : Type 0} {stage : Stage S} {writer : Sink W} {k n : ℕ} {old new : Net S R W} {web : Web S R}
    → MayAsk stage writer k old → new ≡ record old { web = web; turns = n; failure = old.failure }
    → new ≡ record old { web = web; turns = n; failure = None }
unfailed_on {n = n} {old} {web = web} m net =
    net ∙ ap (λ f. record old { web = web; turns = n; failure = f }) (asked_unfailed m)

module _ {S R W : Type 0} {stage : Stage S} (reader : Source R) {writer : Sink W} {k : ℕ} {old : Net S R W} {web : Web S R}
    (other : k ≡ length old.web.nodes.items → ⊥) where
  -- It was ready and has had its turn, in which it asks for no more than it may.
  worked : (told : Result ℕ ReadError) → HasActed stage reader k old.web web told
      → HasWorked stage reader writer k (link_by k told) old
      (record old { web = web; turns = old.turns + 1; failure = fault_of k told }) (is_some (fault_of k told))
  worked told h = record {
    ready = stage_ready other h.was_ready;
    gone = record {
      turned = told_turned told other h.tells.turned h.tells.read h.tells.asked;
      marks = told_marked {told = told} refl h.tells.asked refl;
      flushes = record { none_before = λ on. refl; once = omega arith };
      turns = refl;
      actors = refl;
    };
    changes = changes_by told h.tells;
    little = record {
      once = h.tells.asked.once;
      others = λ i o. shows_alike old.web.nodes.items web.nodes.items i (h.tells.asked.others i o);
      sink = λ start s now n r here. absurd (other (here ∙ sym (at_now n (ready_result n k r)).stand.count));
      unasked = λ apart. refl;
    };
  }

  module _ (m : MayAsk stage writer k old) {new : Net S R W} where
    pub came : (moved : Moved) → ComesTo stage reader k old.web web moved
        → new ≡ record old { web = web; turns = turns_by moved old.turns; failure = failed_by k moved old.failure }
        → HasCome stage reader writer k old new moved
    unfolding link_by
    came moves.Waits h net = record {
      idle = stage_ready other h.idle;
      same = net ∙ ap (λ w. record old { web = w }) h.same;
    }
    came moves.Gave h net = rw (unfailed_on m net) (worked (Ok k) h)
    came moves.Filled h net = rw (unfailed_on m net) (worked (Ok k) h.0, h.1)
    came (moves.Took link) h net = rw (unfailed_on m net) (worked (Ok link) h.0, h.1, h.2)
    came (moves.Heard link) h net = rw (unfailed_on m net) (worked (Ok link) h.0, h.1)
    came (moves.Failed e) h net = (k, rw net (worked (Err e) h))
    came moves.Over h net = absurd h

    pub given_on : (moved : Moved) → GivesOn stage reader k old.web web moved
        → new ≡ record old { web = web; turns = turns_by moved old.turns; failure = failed_by k moved old.failure }
        → HasGivenOn stage reader writer k old new moved
    unfolding link_by
    given_on moves.Waits h net = net ∙ ap (λ w. record old { web = w }) h
    given_on moves.Gave h net = rw (unfailed_on m net) (worked (Ok k) h)
    given_on moves.Filled h net = rw (unfailed_on m net) (worked (Ok k) h.0, h.1)
    given_on (moves.Took link) h net = absurd h
    given_on (moves.Heard link) h net = absurd h
    given_on (moves.Failed e) h net = (k, rw net (worked (Err e) h))
    given_on moves.Over h net = absurd h

-- The sink was ready and has had its turn, which is counted.
pub sunk : {S R W : Type 0} {stage : Stage S} {reader : Source R} {writer : Sink W} {k link : ℕ} {old mid : Net S R W}
    {is_over : Bool} → k ≡ length old.web.nodes.items → SinkActed stage reader writer old mid is_over
    → ((s : Scene) → IsAt stage old.web s → link ≡ last (plan_of s))
    → HasWorked stage reader writer k link old (record mid { turns = mid.turns + 1 }) is_over
sunk {k = k} {link} {mid = mid} here o last_is =
    let turns = ap (λ n. n.turns) o.rest in
    let actors = ap (λ n. n.actors) o.rest in
    let takers = ap (λ n. n.takers) o.rest in
    record {
      ready = λ start s now h none within. sink_ready here o.was_ready start s now h none;
      gone = record {
        turned = rw (turns, actors, takers) (sink_turned mid.failure here o.went o.shows);
        marks = record { reads = λ i. rw (o.unread i, or-false) (o.shows i).mark; writes = o.marked; takers = takers };
        flushes = o.flushed_last;
        turns = ap (λ n. n + 1) turns;
        actors = actors;
      };
      changes = λ s h. inl (sink_touches s k link (here ∙ h.at.stand.count) (last_is s h.at));
      little = record {
        once = inl ((o.shows k).calls_made, (o.shows k).mark);
        others = λ i other. o.shows i;
        sink = λ start s now h ready is.
            let may = may_write h k ready (omega (arith, is)) in
            (o.asked (moved s now.links) may, o.flushes (moved s now.links) may);
        unasked = λ other. absurd (other here);
      };
    }

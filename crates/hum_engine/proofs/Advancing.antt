-- One step behind another.
use Rattle.std.proofs.Common.{◌≡◌, ◌∙◌, ◌≤◌, ℕ, Bool, false, List, [], ◌++◌, Option, None, refl, sym, ap, subst, append_assoc, arith, length-append}
use Rattle.std.proofs.Math.Path.{fun_ext}
use Rattle.std.specs.Prelude.{is_some, length}
use Rattle.hum_text.specs.declared.calls.Source.{Ghosts as Source}
use Rattle.hum_text.specs.declared.calls.Sink.{Ghosts as Sink}
use Rattle.hum_score.specs.Row.{Row}
use Rattle.hum_stage.specs.declared.contract.Stage.{Ghosts as Stage}
use Rattle.hum_turns.specs.Failures.{Now, result}
use Rattle.hum_turns.specs.Orders.{Order}
use Rattle.hum_turns.proofs.Writing.{still}
use Rattle.hum_nodes.proofs.Followed.{read_none, read_more}
use Rattle.hum_engine.specs.declared.net.Net.{Net}
use Rattle.hum_engine.specs.Looks.{Look, Sees}
use Rattle.hum_engine.specs.Scene.{Scene, plan_of, before_all}
use Rattle.hum_engine.specs.Nets.{NetAt, AtEach, IsRunning, AreOver, HasStepped, HasAdvanced, MayStep}
use Rattle.hum_engine.specs.Nets.{Leads, Watches}
use Rattle.hum_engine.proofs.Netting.{not_over}
use Rattle.hum_engine.proofs.Running.{driven_on, no_rests, restated, seen, unfailed_at}
use Rattle.hum_engine.specs.Readers.{HaveRead}

-- It goes on at some moment.
pub record Picking {S R W : Type 0} (stage : Stage S) (writer : Sink W) (look : Look) (net : Net S R W) : Type 0 where
  pub running : IsRunning stage writer net
  pub going : result (plan_of running.scene) running.now ≡ None
  pub sees : Sees look running.scene running.now

-- A run goes on.
module _ {S R W : Type 0} {stage : Stage S} {writer : Sink W}
    {look : Look} {net : Net S R W} (may : MayStep stage writer look net) where
  -- where nothing more is to come
  pub pick_now : Picking stage writer look net
  pick_now = record {
    running = record {
      start = may.start;
      scene = may.scene (λ i. []) (no_rests net);
      now = may.now (λ i. []) (no_rests net);
      at = may.at (λ i. []) (no_rests net);
    };
    going = may.going (λ i. []) (no_rests net);
    sees = may.sees (λ i. []) (no_rests net);
  }

  pub none_yet : net.failure ≡ None
  none_yet = unfailed_at pick_now.running.at pick_now.going

  -- where these bytes are to be read and then those
  pub record Then (reads rests : ℕ → List ℕ) : Type 0 where
    pub scene : Scene
    pub now : Now Row
    pub at : NetAt stage writer may.start (before_all reads (record scene { rests = rests })) net now
    pub going : result (plan_of scene) now ≡ None
    pub sees : Sees look (record scene { rests = rests }) now

  pub then_at : (reader : Source R) (new : Net S R W) (reads rests : ℕ → List ℕ)
      → HaveRead reader net.web.nodes.items new.web.nodes.items reads → AreOver new.web.nodes.items rests → Then reads rests
  then_at reader new reads rests read over =
      let all : ℕ → List ℕ = λ i. reads i ++ rests i in
      let was : AreOver net.web.nodes.items all = λ i e.
      ap (λ l. l ++ rests i) ((read i).still e).0 ∙ over i ((read i).still e).1 in
      record {
        scene = may.scene all was;
        now = may.now all was;
        at = subst (λ f. NetAt stage writer may.start (record (may.scene all was) { rests = f }) net (may.now all was))
            (may.rests all was) (may.at all was);
        going = may.going all was;
        sees = seen look (may.scene all was) rests (may.now all was) (may.sees all was);
      }

-- Where a step leads, if these bytes are still to come then.
module _ {S R W O : Type 0} {stage : Stage S} {reader : Source R} {writer : Sink W} {order : Order O}
    {before look : Look} {o p : O} {old net : Net S R W} {is_over : Bool} (may : MayStep stage writer before old)
    (one : HasStepped stage reader writer order o p before look old net is_over) (rests : ℕ → List ℕ)
    (over : AreOver net.web.nodes.items rests) where
  abbrev pub then_on : Then may one.reads rests
  then_on = then_at may reader net one.reads rests one.read over

  pub led_on : (d : Leads stage writer order o p may.start (record then_on.scene { rests = rests }) then_on.now old.turns net)
      × Watches look is_over (record then_on.scene { rests = rests }) d.to
  led_on = one.goes may.start (record then_on.scene { rests = rests }) then_on.now over then_on.at then_on.going then_on.sees

  pub running_on : IsRunning stage writer net
  running_on = record { start = may.start; scene = record then_on.scene { rests = rests }; now = led_on.0.to; at = led_on.0.at }

module _ {S R W O : Type 0} {stage : Stage S} {reader : Source R}
    {writer : Sink W} {order : Order O} {before look : Look} {o p : O}
    {old net : Net S R W} (one : HasStepped stage reader writer order o p before look old net false) where
  -- Behind a step that doesn't end the run another may follow.
  pub may_on : MayStep stage writer before old → MayStep stage writer look net
  may_on may = record {
    start = may.start;
    scene = λ rests over. record ((then_on may one rests over).scene) { rests = rests };
    now = λ rests over. (led_on may one rests over).0.to;
    rests = λ rests over. refl;
    at = λ rests over. (led_on may one rests over).0.at;
    going = λ rests over. not_over _ (led_on may one rests over).1.tells refl;
    sees = λ rests over. let l = led_on may one rests over in l.1.sees (not_over _ l.1.tells refl);
  }

  -- Two steps are one.
  pub stepped_twice : {after : Look} {is_over : Bool} {q : O} {new : Net S R W}
      → HasStepped stage reader writer order p q look after net new is_over
      → HasStepped stage reader writer order o q before after old new is_over
  stepped_twice {after} {is_over} {q} {new} two = record {
    reads = λ i. one.reads i ++ two.reads i;
    read = λ i. read_more _ _ _ _ _ _ _ _ (one.read i) (two.read i);
    goes = λ start s now over h none sees.
        let mid : Scene = before_all two.reads s in
        let d = one.goes start mid now
        (λ i e. ap (λ l. l ++ s.rests i) ((two.read i).still e).0 ∙ over i ((two.read i).still e).1)
        (subst (λ (f : ℕ → List ℕ). NetAt stage writer start (record s { rests = f }) old now)
        (fun_ext (λ i. append_assoc (one.reads i) (two.reads i) (s.rests i))) h)
        none (seen before s mid.rests now sees) in
        let going = not_over _ d.1.tells refl in
        let g = two.goes start s d.0.to over d.0.at going (seen look mid s.rests d.0.to (d.1.sees going)) in
        let driven = driven_on order s d.0.turns g.0.turns o p q now d.0.to g.0.to d.0.driven g.0.driven in (
          record {
            turns = d.0.turns ++ g.0.turns;
            counted = omega (arith, d.0.counted, g.0.counted, length-append d.0.turns g.0.turns);
            to = g.0.to;
            driven = driven;
            at = g.0.at;
          },
          g.1,
        );
  }

-- It counts no turn less.
pub no_fewer : {S R W O : Type 0} {stage : Stage S} {reader : Source R} {writer : Sink W} {order : Order O} {o p : O}
    {before after : Look} {old new : Net S R W} {is_over : Bool} → MayStep stage writer before old
    → HasAdvanced stage reader writer order o p before after old new is_over → old.turns ≤ new.turns
no_fewer {new = new} may h = omega (arith, (led_on may h.stepped (λ i. []) (no_rests new)).0.counted)

-- A step in which nobody has had a turn; the flags may be others, and more may be known.
module _ {S R W O : Type 0} {stage : Stage S} {reader : Source R} {writer : Sink W} {order : Order O} {o : O}
    {before : Look} {old : Net S R W} (may : MayStep stage writer before old) where
  pub rested_on : {new : Net S R W} {after : Look} → new ≡ record old { actors = new.actors }
      → length new.actors.items ≡ length old.actors.items
      → AtEach stage writer old (λ start s now. result (plan_of s) now ≡ None → Sees before s now → Sees after s now)
      → HasAdvanced stage reader writer order o o before after old new false
  rested_on {new} {after} same len sees = rw same (record {
    stepped = record {
      reads = λ i. [];
      read = λ i. read_none _ _;
      goes = λ start s now over h none saw. (
        record {
          turns = [];
          counted = omega arith;
          to = now;
          driven = (still now, refl);
          at = restated new.actors s.rests len h.going h;
        },
        record { tells = ap is_some (sym none); sees = λ going. seen_in h none saw },
      );
    };
    marks = record {
      reads = λ i. grind (arith, none_yet may);
      writes = grind (arith, none_yet may);
      takers = refl;
    };
    flushes = record { none_before = λ on. refl; once = omega arith };
  })
    where
      seen_in : {start : Option (List ℕ)} {s : Scene} {now : Now Row} → NetAt stage writer start s old now
          → result (plan_of s) now ≡ None → Sees before s now → Sees after s now
      seen_in {start} {s} {now} h none saw = sees start s now h none saw

module _ {S R W O : Type 0} {stage : Stage S} {reader : Source R} {writer : Sink W} {order : Order O}
    {before look : Look} {o p : O} {old net : Net S R W} (may : MayStep stage writer before old)
    (one : HasAdvanced stage reader writer order o p before look old net false) where
  pub may_then : MayStep stage writer look net
  may_then = may_on one.stepped may

  pub advanced_twice : {after : Look} {is_over : Bool} {q : O} {new : Net S R W}
      → HasAdvanced stage reader writer order p q look after net new is_over
      → HasAdvanced stage reader writer order o q before after old new is_over
  advanced_twice {after} {is_over} {q} {new} two =
      let none = none_yet may_then in
      record {
        stepped = stepped_twice one.stepped two.stepped;
        marks = record {
          reads = λ i. grind (arith, one.marks.reads i, two.marks.reads i, none);
          writes = grind (arith, one.marks.writes, two.marks.writes, none);
          takers = two.marks.takers ∙ one.marks.takers;
        };
        flushes = record {
          none_before = λ on. two.flushes.none_before on ∙ one.flushes.none_before refl;
          once = omega (arith, two.flushes.once, one.flushes.none_before refl);
        };
      }

-- What a run has come to, also of sources that tell their bytes.
use Rattle.std.proofs.lemmas.Bool.Decides.{nat_tests}
use Rattle.std.proofs.Common.{◌≡◌, ◌∙◌, ℕ, ◌+◌, ◌-◌, ◌*◌, ◌<◌, ◌≤◌, Bool, true, List, [], ◌∷◌, ◌++◌, length, Option, Some}
use Rattle.std.proofs.Common.{None, false, refl, sym, ap, subst, arith, inl, inr, ⊎_elim, slice_get}
use Rattle.std.specs.Prelude.{is_some}
use Rattle.std.proofs.lemmas.Bool.{cases_Bool, false≢true}
use Rattle.std.proofs.lemmas.Option.{none-some, same_Some}
use Rattle.hum_text.specs.declared.calls.Source.{Ghosts as Source}
use Rattle.hum_text.specs.declared.calls.Sink.{Ghosts as Sink}
use Rattle.hum_score.specs.Row.{Row}
use Rattle.hum_stage.specs.declared.contract.Stage.{Ghosts as Stage}
use Rattle.hum_turns.specs.declared.order.Side.{Side}
use Rattle.hum_turns.specs.declared.result.RunResult.{RunResult}
use Rattle.hum_turns.specs.Plan.{last}
use Rattle.hum_turns.specs.Failures.{Now, ended_by, result}
use Rattle.hum_turns.specs.Orders.{Order, LeansTo}
use Rattle.hum_turns.proofs.Writing.{still}
use Rattle.hum_nodes.specs.declared.node.Node.{Node}
use Rattle.hum_nodes.specs.Nodes.{StandsAs, is_source}
use Rattle.hum_nodes.proofs.Followed.{read_none}
use Rattle.hum_nodes.proofs.Standing.{any_rest, reads_few}
use Rattle.hum_engine.specs.declared.net.Net.{Net}
use Rattle.hum_engine.specs.Looks.{Look, FromLeft, FromRight, Unseen, leaning, still_to_ask}
use Rattle.hum_engine.specs.Readers.{ended_at}
use Rattle.hum_engine.specs.Scene.{Scene, plan_of, at_of, before_all}
use Rattle.hum_engine.specs.Nets.{NetAt, AtEach, IsNet, IsRunning, MayStep, HasAdvanced, MarksFailures, IsCloser}
use Rattle.hum_engine.specs.Nets.{HasRun, Tells, HasRunOn, RunsBy}
use Rattle.hum_engine.proofs.Advancing.{pick_now, led_on, running_on, rested_on, advanced_twice, may_then}
use Rattle.hum_engine.proofs.Leaning.{leans_alike}
use Rattle.hum_engine.proofs.Bounds.{turns_few}
use Rattle.hum_engine.proofs.Netting.{ends_alike, has_told, not_over}
use Rattle.hum_engine.proofs.Running.{first_running, now_unfailed, restated, runs_to}
use Rattle.hum_engine.proofs.Running.{no_rests}

-- few actors are still to be asked
few_still : (look : Look) → still_to_ask look ≤ 256
few_still = grind (arith, nat_tests)

second_nil : (xs ys : List ℕ) → xs ++ ys ≡ [] → ys ≡ []
second_nil [] ys h = h
second_nil (x ∷ xs) ys h = absurd cc

module _ {S R W : Type 0} {stage : Stage S} {writer : Sink W} where
  -- What is still to come of a node that isn't a source is nothing that it stands for.
  rested : {start : Option (List ℕ)} {s : Scene} {net : Net S R W} {now : Now Row} {rests : ℕ → List ℕ}
      → ((i : ℕ) (n : Node S R) → slice_get net.web.nodes.items i ≡ Some n → is_source n ≡ true → s.rests i ≡ rests i)
      → NetAt stage writer start s net now
      → NetAt stage writer start (record s { rests = rests }) net now
  rested {start} {s} {net} {now} {rests} same h = restated net.actors rests refl (λ e.
      let st = h.going e in
      record {
        count = st.count;
        as_many = st.as_many;
        nodes = λ i n at. ⊎_elim
            (λ is. subst (λ r. StandsAs stage.stands n r (at_of s.kinds now.links i)) (same i n at is) (st.nodes i n at))
            (λ isnt. any_rest stage.stands n isnt (s.rests i) (rests i) (at_of s.kinds now.links i) (st.nodes i n at))
            (cases_Bool (is_source n));
        links = st.links;
      }) h

  module _ {O : Type 0} {reader : Source R} {order : Order O} {o p : O} {old new : Net S R W} {by : RunResult}
      (ran : HasRun stage reader writer order o p old new by)
      {rests : ℕ → List ℕ} (tells : Tells reader old.web.nodes.items rests) where
    -- what is left of the bytes of a source
    Left : ℕ → Option (Node S R) → Type 0
    Left i o = (left : List ℕ)
        × ((n : Node S R) → o ≡ Some n → is_source n ≡ true → rests i ≡ ran.reads i ++ left)
        × (ended_at i new.web.nodes.items ≡ true → left ≡ [])

    left_by : (i : ℕ) (o : Option (Node S R)) → slice_get old.web.nodes.items i ≡ o → Left i o
    unfolding Left
    left_by i None e = ([], (λ n is. absurd (none-some _ is)), (λ over. refl))
    left_by i (Some n) e = elim (cases_Bool (is_source n)) [
      | inl src ↦
          let front = (ran.read i).front (rests i) (rw e (tells.tells i n e src)) in
          let none : ended_at i new.web.nodes.items ≡ true → front.rest ≡ [] =
          grind (arith, nat_tests, second_nil) in
          (front.rest, (λ m is src. front.split), none)
      | inr isnt ↦ grind (arith, nat_tests, false≢true, same_Some)
    ]

    abbrev left_at : (i : ℕ) → Left i (slice_get old.web.nodes.items i)
    left_at i = left_by i (slice_get old.web.nodes.items i) refl

    run_on : {start : Option (List ℕ)} {s : Scene} {now : Now Row} → s.rests ≡ rests
        → NetAt stage writer start s old now
        → HasRunOn stage writer order o p start s now old.turns new by
    unfolding Left
    run_on {start} {s} {now} is h = record {
      left = λ i. (left_at i).0;
      runs = ran.runs start (record s { rests = λ i. (left_at i).0 }) now (λ i over. (left_at i).2 over)
          (rested (λ i n at src. ap (λ (r : ℕ → List ℕ). r i) is ∙ (left_at i).1 n at src) h);
    }

-- A run goes on: it has come to this net, and so much was known of who is ready and is known now.
pub record Ran {S R W O : Type 0} (stage : Stage S) (reader : Source R)
    (writer : Sink W) (order : Order O) (o p : O) (first look : Look) (old new : Net S R W) : Type 0 where
  pub may : MayStep stage writer first old
  pub advanced : HasAdvanced stage reader writer order o p first look old new false

module _ {S R W O : Type 0} {stage : Stage S} {reader : Source R} {writer : Sink W} {order : Order O} {o : O}
    {old : Net S R W} where
  pub ran_first : {first : Look} → MayStep stage writer first old → Ran stage reader writer order o o first first old old
  ran_first may = record { may = may; advanced = rested_on may refl refl (λ start s now h none sees. sees) }

  pub ran_left : MayStep stage writer Unseen old → Ran stage reader writer order o o Unseen (FromLeft 0) old old
  ran_left may = record {
    may = may;
    advanced = rested_on may refl refl (λ start s now h none sees. (omega arith, λ j less. absurd (omega (arith, less))));
  }

  pub ran_right : {sink : ℕ} → MayStep stage writer Unseen old → sink ≡ length old.web.nodes.items
      → Ran stage reader writer order o o Unseen (FromRight sink) old old
  ran_right {sink} may is = record {
    may = may;
    advanced = rested_on may refl refl (λ start s now h none sees.
        let at : sink ≡ s.count = is ∙ (h.going (now_unfailed h none)).count in
        (omega (arith, at), λ j more less. absurd (omega (arith, more, less, at))));
  }

  module _ {p : O} {first look : Look} {net : Net S R W} (ran : Ran stage reader writer order o p first look old net) where
    pub may_go : MayStep stage writer look net
    may_go = may_then ran.may ran.advanced

    -- A step more.
    module _ {q : O} {after : Look} {new : Net S R W} {is_over : Bool}
        (more : HasAdvanced stage reader writer order p q look after net new is_over) where
      pub ran_all : HasAdvanced stage reader writer order o q first after old new is_over
      ran_all = advanced_twice ran.may ran.advanced more

      pub ran_on : is_over ≡ false → Ran stage reader writer order o q first after old new
      ran_on = grind (arith, nat_tests, ran_all)

      pub ran_out : is_over ≡ true → HasAdvanced stage reader writer order o q first after old new true
      ran_out over = subst (HasAdvanced stage reader writer order o q first after old new) over ran_all

      -- The turns that are left become fewer.
      pub fewer_left : is_over ≡ false → IsCloser look after net new is_over
          → (18446744073709551616 - new.turns) * 257 + still_to_ask after
          < (18446744073709551616 - net.turns) * 257 + still_to_ask look
      fewer_left on closer =
          let m = pick_now may_go in
          let w = m.running in
          let few = turns_few stage writer w.start w.scene net w.now (reads_few stage.stands) w.at
          (now_unfailed w.at m.going) in
          elim closer [
            | inl over ↦ absurd (false≢true (sym on ∙ over))
            | inr goes ↦ omega (arith, few, w.at.counted, goes, few_still after)
          ]

-- What an order that leans to a side drives.
pub leaned : {S R W O : Type 0} {stage : Stage S} {reader : Source R} {writer : Sink W} (to : Side) {order : Order O} {o : O}
    {old new : Net S R W} → LeansTo to order.pick order.next o
    → HasAdvanced stage reader writer (leaning to) tt tt Unseen Unseen old new true
    → HasAdvanced stage reader writer order o o Unseen Unseen old new true
leaned to {order} {o} leans h = record {
  stepped = record {
    reads = h.stepped.reads;
    read = h.stepped.read;
    goes = λ start s now over at none sees.
        let g = h.stepped.goes start s now over at none sees in
        let d = g.0 in (
          record {
            turns = d.turns;
            counted = d.counted;
            to = d.to;
            driven = leans_alike to order o s leans d.turns now d.to d.driven;
            at = d.at;
          },
          record { tells = g.1.tells; sees = λ going. tt },
        );
  };
  marks = h.marks;
  flushes = h.flushes;
}

module _ {S R W : Type 0} {stage : Stage S} {writer : Sink W} {old : Net S R W} (r : IsNet stage writer old) {over : Bool}
    (tells : AtEach stage writer old (λ start s now. over ≡ is_some (result (plan_of s) now))) (on : over ≡ false) where
  goes_yet : AtEach stage writer old (λ start s now. result (plan_of s) now ≡ None)
  goes_yet start s now h = not_over _ (tells start s now h) on

  pub may_run : MayStep stage writer Unseen old
  may_run = record {
    start = r.start;
    scene = λ rests over. r.scene rests;
    now = λ rests over. r.now rests;
    rests = λ rests over. r.rests rests;
    at = λ rests over. r.at rests over;
    going = λ rests over. goes_yet r.start (r.scene rests) (r.now rests) (r.at rests over);
    sees = λ rests over. tt;
  }

  module _ {O : Type 0} {reader : Source R} {order : Order O} {o q : O} {new : Net S R W}
      (all : HasAdvanced stage reader writer order o q Unseen Unseen old new true) where
    -- Its net stands for a moment still,
    pub runs_on : IsRunning stage writer new
    runs_on = running_on may_run all.stepped (λ i. []) (no_rests new)

    -- and it is over, as told.
    module _ {by : RunResult}
        (told : AtEach stage writer new (λ start s now. (e : RunResult) → result (plan_of s) now ≡ Some e → by ≡ e)) where
      ends : AtEach stage writer new (λ start s now. result (plan_of s) now ≡ Some by)
      ends start s now h =
          let l = led_on may_run all.stepped (λ i. []) (no_rests new) in
          has_told _ by (l.1.tells
          ∙ ap is_some (ends_alike stage writer new may_run.start start _ s l.0.to now l.0.at h))
          refl (told start s now h)

      has_run : HasRun stage reader writer order o q old new by
      has_run = record {
        reads = all.stepped.reads;
        read = all.stepped.read;
        runs = λ start s now over h.
            let then : Scene = before_all all.stepped.reads s in
            let d = (all.stepped.goes start s now over h (goes_yet start then now h) tt).0 in
            runs_to d (ends start s d.to d.at);
      }

module _ {S R W O : Type 0} {stage : Stage S} {reader : Source R}
    {writer : Sink W} {order : Order O} {o : O} {old : Net S R W} where
  -- What is said of a run whose end is told.
  runs_by : {p : O} {new : Net S R W} {by : RunResult} → HasRun stage reader writer order o p old new by
      → IsRunning stage writer new
      → AtEach stage writer new (λ start s now. result (plan_of s) now ≡ Some by)
      → (old.failure ≡ None → MarksFailures reader writer old new)
      → writer.flushes new.sink ≤ writer.flushes old.sink + 1
      → AtEach stage writer old (λ start s now. (e : RunResult) → result (plan_of s) now ≡ Some e
      → (by ≡ e) × (new ≡ old) × (p ≡ o))
      → RunsBy stage reader writer order o p old new by
  runs_by {p} {new} {by} ran w ends marks once again =
      let heard = (w.now.links (last (plan_of w.scene))).heard in
      let is = ap (λ f. ended_by f heard) w.at.failure ∙ ends w.start w.scene w.now w.at in
      record {
        ran = ran;
        whole = λ start s now tells h. run_on ran tells refl h;
        reads = λ none i. grind (arith, (marks none).reads i, is);
        writes = λ none. grind (arith, (marks none).writes, is);
        flushes = once;
        again = again;
      }

  -- It was over already.
  pub ran_already : {over : Bool} {by : RunResult} → IsNet stage writer old
      → AtEach stage writer old (λ start s now. over ≡ is_some (result (plan_of s) now)) → over ≡ true
      → AtEach stage writer old (λ start s now. (e : RunResult) → result (plan_of s) now ≡ Some e → by ≡ e)
      → RunsBy stage reader writer order o o old old by
  ran_already {over} {by} r tells is told =
      let ends : AtEach stage writer old (λ start s now. result (plan_of s) now ≡ Some by) =
      λ start s now h. has_told _ by (tells start s now h) is (told start s now h) in
      runs_by (record {
        reads = λ i. [];
        read = λ i. read_none _ _;
        runs = λ start s now over h.
            runs_to (record { turns = []; counted = omega arith; to = now; driven = (still now, refl); at = h }) (ends start s now h);
      })
      (first_running r) ends (λ none. record { reads = λ i. grind (arith, none); writes = grind (arith, none); takers = refl }) (omega arith) (λ start s now h e is. (told start s now h e is, refl, refl))

  -- It has come to its end.
  pub ran_whole : {q : O} {new : Net S R W} {by : RunResult} {over : Bool} (r : IsNet stage writer old)
      → (tells : AtEach stage writer old (λ start s now. over ≡ is_some (result (plan_of s) now))) → (on : over ≡ false)
      → HasAdvanced stage reader writer order o q Unseen Unseen old new true
      → AtEach stage writer new (λ start s now. (e : RunResult) → result (plan_of s) now ≡ Some e → by ≡ e)
      → RunsBy stage reader writer order o q old new by
  ran_whole r tells on all told =
      runs_by (has_run r tells on all told) (runs_on r tells on all) (ends r tells on all told) (λ none. all.marks)
      all.flushes.once
      (λ start s now h e is. absurd (none-some e (sym (goes_yet r tells on start s now h) ∙ is)))

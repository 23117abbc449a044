-- A turn of a net.
use Rattle.std.proofs.Common.{◌≡◌, ◌≢◌, ◌⊎◌, ◌∙◌, ℕ, ◌+◌, ◌<◌, ◌≤◌, Bool, true, false, ◌&&◌, if◌then◌else◌, nat_eq, pred}
use Rattle.std.proofs.Common.{List, [], ◌∷◌, ◌++◌, length, slice_get, append-nil, length-append, Option, Some, None, is_none}
use Rattle.std.proofs.Common.{refl, sym, ap, subst, inl, inr, arith}
use Rattle.std.proofs.lemmas.Bool.{and_parts, false≢true}
use Rattle.std.proofs.lemmas.Bool.Decides.{nat_tests}
use Rattle.std.proofs.lemmas.Option.{none-some}
use Rattle.std.proofs.Math.Path.{fun_ext}
use Rattle.std.specs.Io.KnownBytes.{Appends}
use Rattle.std.specs.Prelude.{is_some}
use Rattle.hum_text.specs.declared.calls.Source.{Ghosts as Source}
use Rattle.hum_text.specs.declared.calls.Sink.{Ghosts as Sink}
use Rattle.hum_score.specs.Row.{Row, text_of}
use Rattle.hum_stage.specs.declared.faults.End.{End}
use Rattle.hum_stage.specs.declared.contract.Stage.{Ghosts as Stage}
use Rattle.hum_turns.specs.declared.result.RunResult.{RunResult}
use Rattle.hum_turns.specs.Plan.{last}
use Rattle.hum_turns.specs.Links.{Moment}
use Rattle.hum_turns.specs.Turns.{is_source, ready, Step, Takes}
use Rattle.hum_turns.specs.Text.{text}
use Rattle.hum_turns.specs.Failures.{Now, MayFail, Moves, Fails, Turn, is_ready, result, written}
use Rattle.hum_turns.proofs.Writing.{walk_going, walk_more}
use Rattle.hum_turns.proofs.Near.{step_taken, step_heard, step_does, ready_sink}
use Rattle.hum_turns.proofs.States.{sink_state, last_less, source_is}
use Rattle.hum_nodes.specs.Nodes.{ended_of}
use Rattle.hum_nodes.specs.Polls.{HasRead}
use Rattle.hum_nodes.proofs.Followed.{read_once, read_stayed}
use Rattle.hum_nodes.proofs.Standing.{source_bytes}
use Rattle.hum_engine.specs.declared.web.Web.{Web}
use Rattle.hum_engine.specs.declared.net.Net.{Net}
use Rattle.hum_engine.specs.Readers.{ShowsSame, remaining_at, ended_at, or_none, HasReadNone}
use Rattle.hum_engine.specs.Scene.{Scene, plan_of, moved, before, before_all, only, at_of, Stands, IsAt}
use Rattle.hum_engine.specs.Scene.{MayTurn, IsKind, KeepsOthers, Fed}
use Rattle.hum_engine.specs.Nets.{NetAt, GoesTo, HasTurned, SinkWent, MayWrite}
use Rattle.hum_engine.proofs.Appending.{appends_none, appends_trans}
use Rattle.hum_engine.proofs.Feeding.{link_of, node_of}
use Rattle.hum_engine.proofs.Showing.{shows_read}

pub source_here : {S R : Type 0} (stage : Stage S) (k : ℕ) (web : Web S R) (s : Scene)
    → IsAt stage web s → k < s.count → IsKind true k web → is_source (plan_of s) k ≡ true
source_here stage k web s at less kind =
    let node = node_of stage k web s less at.stand in
    source_is (plan_of s) k less (source_bytes stage.stands node.0 (s.rests k) (at_of s.kinds s.links k) (kind node.0 node.1)
    (at.stand.nodes k node.0 node.1))

-- What a result tells that isn't there.

pub none_by : {A : Type 0} (o : Option A) → is_none o ≡ true → o ≡ None
none_by o e = grind (arith, e)

module _ {S R W : Type 0} {stage : Stage S} {writer : Sink W} {start : Option (List ℕ)} {s : Scene} {net : Net S R W}
    {now : Now Row} (h : NetAt stage writer start s net now) where
  -- While no failure has ended the run, as the web sees it.
  pub web_at : now.failure ≡ None → IsAt stage net.web (moved s now.links)
  web_at = grind (arith, nat_tests, walk_going)

  -- While the run goes on.
  module _ (none : result (plan_of s) now ≡ None) where
    pub unfailed_at : now.failure ≡ None
    unfailed_at = grind (arith, none)

    pub unheard_at : (now.links (last (plan_of s))).heard ≡ None
    unheard_at = grind (arith, none)

    pub at_now : IsAt stage net.web (moved s now.links)
    at_now = web_at unfailed_at

    pub ready_at : (k : ℕ) {b : Bool} → b ≡ ready (plan_of s) s.size now.links k → b ≡ is_ready (plan_of s) s.size now k
    ready_at k e = e ∙ ap (λ o. is_none o && ready (plan_of s) s.size now.links k) (sym none)

  -- While some actor is ready.
  module _ (k : ℕ) (r : is_ready (plan_of s) s.size now k ≡ true) where
    pub ready_result : result (plan_of s) now ≡ None
    ready_result = none_by _ (and_parts _ _ r).0

    pub ready_now : ready (plan_of s) s.size now.links k ≡ true
    ready_now = (and_parts _ _ r).1

    -- the sink
    pub may_write : s.count ≤ k → MayWrite stage net.web (moved s now.links)
    may_write = grind (arith, nat_tests, at_now, ready_result, ready_sink, ready_now)

-- The same with all arguments.
module _ {S R W : Type 0} (stage : Stage S) (writer : Sink W) (start : Option (List ℕ)) (s : Scene) (net : Net S R W)
    (now : Now Row) (k : ℕ) (h : NetAt stage writer start s net now) where
  pub is_at : is_ready (plan_of s) s.size now k ≡ true → IsAt stage net.web (moved s now.links)
  is_at r = at_now h (ready_result h k r)

  pub unfailed_now : result (plan_of s) now ≡ None → now.failure ≡ None
  unfailed_now none = unfailed_at h none

-- The bytes of one source alone.

only_else : (k : ℕ) (read : List ℕ) (i : ℕ) → i ≢ k → only k read i ≡ []
only_else k read i o = grind (arith, nat_tests, o)

only_none : (k i : ℕ) → only k [] i ≡ []
only_none k i = grind arith

only_before : (b : Bool) (read rest : List ℕ) → (if b then read else []) ++ rest ≡ (if b then read ++ rest else rest)
only_before b read rest = grind arith

nothing_more : {S R : Type 0} {stage : Stage S} (k : ℕ) {web : Web S R} (s : Scene) (m : Moment Row)
    → Stands stage web (moved (before_all (only k []) s) m) → Stands stage web (moved s m)
nothing_more {stage = stage} k {web} s m = subst (λ (f : ℕ → List ℕ). Stands stage web (record (moved s m) { rests = f }))
    (fun_ext (λ i. ap (λ l. l ++ s.rests i) (only_none k i)))

-- A turn of an actor, once its source has had these bytes.
module _ {S R W : Type 0} {stage : Stage S} {writer : Sink W} {start : Option (List ℕ)} (s : Scene) {old : Net S R W}
    {now : Now Row} (k : ℕ) (read : List ℕ) (h : NetAt stage writer start (before_all (only k read) s) old now)
    (r : is_ready (plan_of s) s.size now k ≡ true) (web : Web S R) (sink : W) where
  -- seen as the web sees it
  may_before : k < s.count → MayTurn stage k old.web (before read k (moved s now.links))
  may_before less =
      subst (λ (f : ℕ → List ℕ). MayTurn stage k old.web (record (moved s now.links) { rests = f }))
      (fun_ext (λ i. only_before (nat_eq i k) read (s.rests i)))
      (record { actor = record { at = at_now h (ready_result h k r); less = less }; ready = ready_now h k r })

  -- one turn more
  turned_to : (to : Now Row) (sent : List ℕ) {is_over : Bool}
      → Moves (plan_of s) s.size k now to ⊎ Fails (plan_of s) text_of k now to
      → (to.failure ≡ None → Stands stage web (moved s to.links)) → Appends (writer.contents old.sink) (writer.contents sink) sent
      → written (plan_of s) text_of to ≡ text text_of (now.links (last (plan_of s))).taken ++ sent
      → ((e : End) → to.failure ≡ None → (to.links (last (plan_of s))).heard ≡ Some e → writer.flushed sink ≡ true)
      → is_over ≡ is_some (result (plan_of s) to)
      → GoesTo stage writer start s k now
      (record old { web = web; sink = sink; turns = old.turns + 1; failure = to.failure }) is_over
  turned_to to sent turns going appends sum over tells =
      let was : List ℕ = text text_of (now.links (last (plan_of s))).taken in
      let part = (walk_going (plan_of s) s.size text_of h.turns h.first now h.begin (unfailed_at h (ready_result h k r)) h.walk).1 in
      let turn : Turn (plan_of s) s.size text_of k now to = record { is_ready = r; turns = turns } in
      record {
        to = to;
        turn = turn;
        at = record {
          plan = h.plan;
          first = h.first;
          turns = h.turns ++ k ∷ [];
          begin = h.begin;
          walk = walk_more (plan_of s) s.size text_of h.turns k h.first now to h.walk turn;
          counted = omega (arith, h.counted, length-append h.turns (k ∷ []));
          actors = h.actors;
          takers = h.takers;
          going = going;
          failure = refl;
          written = grind (arith, nat_tests, append-nil, appends_trans);
          is_flushed = over;
        };
        tells = tells;
      }

  -- which moves
  goes : (to : Moment Row) (sent : List ℕ) {is_over : Bool}
      → Step (plan_of s) s.size k now.links to → Stands stage web (moved s to)
      → Appends (writer.contents old.sink) (writer.contents sink) sent
      → text text_of (to (last (plan_of s))).taken ≡ text text_of (now.links (last (plan_of s))).taken ++ sent
      → ((e : End) → (to (last (plan_of s))).heard ≡ Some e → writer.flushed sink ≡ true)
      → is_over ≡ is_some (to (last (plan_of s))).heard
      → GoesTo stage writer start s k now
      (record old { web = web; sink = sink; turns = old.turns + 1; failure = None }) is_over
  goes to sent step stand appends taken over tells = turned_to (record { links = to; part = []; failure = None }) sent
      (inl (record { step = step; part = refl; failure = refl })) (λ e. stand) appends (append-nil _ ∙ taken) (λ e none. over e)
      (grind (arith, tells))

  -- or fails
  fails : (by : RunResult) (part : List ℕ) → k ≤ s.count → MayFail (plan_of s) k text_of now.links by part
      → Appends (writer.contents old.sink) (writer.contents sink) part
      → GoesTo stage writer start s k now
      (record old { web = web; sink = sink; turns = old.turns + 1; failure = Some by }) true
  fails by part within may appends = turned_to (record { links = now.links; part = part; failure = Some by }) part
      (inr (record { within = within; links = λ i. refl; by = by; failure = refl; may = may }))
      (λ e. absurd (none-some by (sym e))) appends refl (λ e none. absurd (none-some by (sym none))) refl

-- What each source has read, where none but k did.
module _ {S R : Type 0} (reader : Source R) (k : ℕ) (old new : Web S R) (others : KeepsOthers k old new) (read : List ℕ)
    (here : HasRead (ended_at k old.nodes.items) (ended_at k new.nodes.items) (remaining_at reader k old.nodes.items) (remaining_at reader k new.nodes.items) read) where
  read_by : (i : ℕ) → HasRead (ended_at i old.nodes.items) (ended_at i new.nodes.items) (remaining_at reader i old.nodes.items)
      (remaining_at reader i new.nodes.items) (only k read i)
  read_by = grind (arith, nat_tests)

-- What a stage's turn comes to that fails or doesn't.
abbrev pub ComesTo : {S R : Type 0} → Stage S → Source R → ℕ → Web S R → Web S R → Option RunResult → Type 0
ComesTo stage reader k old new None = Fed stage reader k old new
ComesTo stage reader k old new (Some by) =
    ((s : Scene) → IsAt stage old s → k < s.count → MayFail (plan_of s) k text_of s.links by [])
    × HasReadNone reader k old.nodes.items new.nodes.items

module _ {S R W : Type 0} {stage : Stage S} {reader : Source R} {writer : Sink W} {k : ℕ} {old : Net S R W} {web : Web S R} where
  pub stage_turned : (failure : Option RunResult) → (k ≡ length old.web.nodes.items → ⊥) → KeepsOthers k old.web web
      → ComesTo stage reader k old.web web failure
      → HasTurned stage reader writer k old (record old { web = web; turns = old.turns + 1; failure = failure })
      (is_some failure)
  stage_turned None other others f = record {
    reads = only k f.read;
    others = only_else k f.read;
    read = read_by reader k old.web web others f.read (rw (f.was, f.is) (read_once _ _ _ _ f.read f.consumes f.at_end f.still));
    turns = λ start s now over h within r.
        let none = ready_result h k r in
        let less : k < s.count = omega (arith, within, (at_now h none).stand.count, other) in
        let over_here = over k in
        let t = f.turns (moved s now.links) (λ e. over_here (ap (or_none false ended_of) f.is ∙ e))
        (may_before s k f.read h r web old.sink less) in
        let quiet : (t.new (last (plan_of s))).heard ≡ None =
        step_heard (plan_of s) h.plan.ok s.size k less now.links t.new t.step ∙ unheard_at h none in
        goes s k f.read h r web old.sink t.new [] t.step t.stand (appends_none (writer.contents old.sink))
        (ap (text text_of) (step_taken (plan_of s) h.plan.ok s.size k less now.links t.new t.step) ∙ sym (append-nil _))
        (λ e heard. absurd (none-some e (sym quiet ∙ heard))) (sym (ap is_some quiet));
  }
  stage_turned (Some by) other others f = record {
    reads = only k [];
    others = only_else k [];
    read = read_by reader k old.web web others [] (read_stayed _ _ _ _ f.1);
    turns = λ start s now over h within r.
        let at = at_now h (ready_result h k r) in
        fails s k [] h r web old.sink by [] within
        (f.0 (moved (before_all (only k []) s) now.links) at (omega (arith, within, at.stand.count, other)))
        (appends_none (writer.contents old.sink));
  }

  -- and the sink's
  pub sink_turned : {sink : W} {is_over : Bool} (failure : Option RunResult)
      → k ≡ length old.web.nodes.items
      → ((s : Scene) → MayWrite stage old.web s
      → SinkWent stage failure (writer.contents old.sink) (writer.contents sink) (writer.flushed sink) is_over web s)
      → ((i : ℕ) → ShowsSame reader old.web.nodes.items web.nodes.items i)
      → HasTurned stage reader writer k old
      (record old { web = web; sink = sink; turns = old.turns + 1; failure = failure }) is_over
  sink_turned {sink = sink} None here went shows = record {
    reads = only k [];
    others = only_else k [];
    read = λ i. shows_read k i (shows i) (only_none k i);
    turns = λ start s now over h within r.
        let is : k ≡ s.count = here ∙ (at_now h (ready_result h k r)).stand.count in
        let t = went (moved (before_all (only k []) s) now.links) (may_write h k r (omega (arith, is))) in
        goes s k [] h r web sink t.done.new t.sent
        (step_does (plan_of s) s.size k (Takes (last (plan_of s))) now.links t.done.new
        (omega (arith, is)) (ready_now h k r) (sink_state (plan_of s) now.links k (omega (arith, is))) (λ e. cc) t.done.does)
        (nothing_more k s t.done.new t.done.stand) t.appends t.taken t.over t.tells;
  }
  sink_turned {sink = sink} (Some by) here went shows = record {
    reads = only k [];
    others = only_else k [];
    read = λ i. shows_read k i (shows i) (only_none k i);
    turns = λ start s now over h within r.
        let is : k ≡ s.count = here ∙ (at_now h (ready_result h k r)).stand.count in
        let t = went (moved (before_all (only k []) s) now.links) (may_write h k r (omega (arith, is))) in
        rw t.1 (fails s k [] h r web sink by t.0.part (omega (arith, is))
        (subst (λ i. MayFail (plan_of s) i text_of now.links by t.0.part) (sym is) t.0.may) t.0.appends);
  }

-- How a run ended.

pub none_of : {A : Type 0} (o : Option A) → ((x : A) → o ≡ Some x → ⊥) → o ≡ None
none_of = grind (arith, nat_tests)

-- told by a test
pub not_over : {A : Type 0} {b : Bool} (o : Option A) → b ≡ is_some o → b ≡ false → o ≡ None
not_over o e t = grind (arith, e, t)

pub has_told : {A : Type 0} {b : Bool} (o : Option A) (r : A) → b ≡ is_some o → b ≡ true
    → ((by : A) → o ≡ Some by → r ≡ by) → o ≡ Some r
has_told None r e t f = absurd (false≢true (sym e ∙ t))
has_told (Some x) r e t f = ap Some (sym (f x refl))

-- A net tells by itself whether its run is over, whatever it stands for.
module _ {S R W : Type 0} (stage : Stage S) (writer : Sink W) (net : Net S R W) (start other : Option (List ℕ)) (s t : Scene)
    (now one : Now Row) (h : NetAt stage writer start s net now) (i : NetAt stage writer other t net one) where
  heard_alike : net.failure ≡ None
      → (now.links (last (plan_of s))).heard ≡ (one.links (last (plan_of t))).heard
  heard_alike none =
      let a = h.going (sym h.failure ∙ none) in
      let b = i.going (sym i.failure ∙ none) in
      let l = link_of stage (last (plan_of s)) net.web (moved s now.links) (last_less s.count h.plan.ok.some) a in
      let same : last (plan_of s) ≡ last (plan_of t) = ap pred (sym a.count ∙ b.count) in
      sym (a.links (last (plan_of s)) l.0 l.1).heard
      ∙ (b.links (last (plan_of t)) l.0 (ap (slice_get net.web.links.items) (sym same) ∙ l.1)).heard

  pub ends_alike : result (plan_of s) now ≡ result (plan_of t) one
  ends_alike = grind (arith, h.failure, i.failure, heard_alike)

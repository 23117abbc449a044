-- What a net stands for: its web, what was written, and how it failed.
use Rattle.std.specs.Prelude.{◌≡◌, ◌≢◌, ◌⊎◌, ℕ, ◌+◌, ◌-◌, ◌<◌, ◌≤◌}
use Rattle.std.specs.Prelude.{Bool, true, false, ◌||◌, if◌then◌else◌, List, [], ◌∷◌, ◌++◌, length}
use Rattle.std.specs.Prelude.{Option, Some, None, is_some, slice_get}
use Rattle.std.specs.Io.KnownBytes.{Appends}
use Rattle.hum_text.specs.Calls.{counted}
use Rattle.hum_text.specs.declared.calls.Source.{Ghosts as Source}
use Rattle.hum_text.specs.declared.calls.Sink.{Ghosts as Sink}
use Rattle.hum_score.specs.Row.{Row, text_of}
use Rattle.hum_stage.specs.declared.contract.Stage.{Ghosts as Stage}
use Rattle.hum_stage.specs.declared.faults.End.{End}
use Rattle.hum_stage.specs.declared.faults.End.TheVariants.{Closed, Broken}
use Rattle.hum_turns.specs.declared.result.RunResult.{RunResult}
use Rattle.hum_turns.specs.declared.result.RunResult.TheVariants as ends
use Rattle.hum_turns.specs.Flow.{Begins}
use Rattle.hum_turns.specs.Plan.{Plan, KeepsFine, last}
use Rattle.hum_turns.specs.Meaning.{plan_meaning, first_fault, IsNumbered}
use Rattle.hum_turns.specs.Orders.{Order, Driven, ready_list, choice}
use Rattle.hum_turns.specs.Counts.{turns_of, most}
use Rattle.hum_turns.specs.Links.{has_some, linked}
use Rattle.hum_turns.specs.Turns.{Takes, state}
use Rattle.hum_turns.specs.Near.{touched}
use Rattle.hum_turns.specs.Text.{text}
use Rattle.hum_turns.specs.Failures.{Now, MayFail, Turn, Walk, IsFirst, IsFailure}
use Rattle.hum_turns.specs.Failures.{written, is_ready, result, result_of}
use Rattle.hum_nodes.specs.Fine.{fine, IsFine}
use Rattle.hum_nodes.specs.declared.node.Node.{Node}
use Rattle.hum_nodes.specs.Nodes.{is_source, remaining_of}
use Rattle.hum_read.specs.declared.ReadError.{ReadError}
use Rattle.hum_read.specs.declared.ReadError.TheVariants as error
use Rattle.hum_engine.specs.declared.web.Web.{Web}
use Rattle.hum_engine.specs.declared.web.Moved.{Moved}
use Rattle.hum_engine.specs.declared.web.Moved.TheVariants as moves
use Rattle.hum_engine.specs.declared.net.Net.{Net}
use Rattle.hum_engine.specs.Readers.{ended_at, failed_at, is_read_of, is_write, ShowsSame, HaveRead, AsksOnce}
use Rattle.hum_engine.specs.Scene.{Scene, plan_of, moved, before_all, Stands, IsAt, IsNetPlan, IsBegun, Done}
use Rattle.hum_engine.specs.Scene.{IsActor, AreTakers, IsFull, HasRoom}
use Rattle.hum_engine.specs.Writing.{WroteFront as WroteSome}
use Rattle.hum_engine.specs.Looks.{Look, Sees, still_to_ask}

-- A record was written. Where that has failed a prefix of it was, and the run is over.
pub record HasSent {S R W : Type 0} (writer : Sink W) (row : Row) (old new : Net S R W) (is_over : Bool)
    : Type 0 where
  pub net : new ≡ record old {
    sink = new.sink;
    failure = if is_over then Some ends.Write else old.failure;
  }
  pub whole : is_over ≡ false → Appends (writer.contents old.sink) (writer.contents new.sink) (text_of row ++ 10 ∷ [])
  pub part : is_over ≡ true → WroteSome (writer.contents old.sink) (writer.contents new.sink) (text_of row ++ 10 ∷ [])
  pub marked : writer.failed new.sink ≡ (writer.failed old.sink || is_over)
  pub few : writer.calls new.sink ≤ writer.calls old.sink + length (text_of row ++ 10 ∷ [])
  pub unflushed : writer.flushes new.sink ≡ writer.flushes old.sink

-- The sink has taken what came next, and has written the text of that; behind the end it was flushed,
-- and the run is over.
pub record Sent {S R : Type 0} (stage : Stage S) (old new : Option (List ℕ)) (flushed is_over : Bool)
    (web : Web S R) (s : Scene) : Type 0 where
  pub done : Done stage s.count (Takes (last (plan_of s))) web s
  pub sent : List ℕ
  pub appends : Appends old new sent
  pub taken : text text_of (done.new (last (plan_of s))).taken
      ≡ text text_of (s.links (last (plan_of s))).taken ++ sent
  pub over : (e : End) → (done.new (last (plan_of s))).heard ≡ Some e → flushed ≡ true
  pub tells : is_over ≡ is_some (done.new (last (plan_of s))).heard

-- An actor has failed, and has written this much.
pub record Failed (k : ℕ) (by : RunResult) (old new : Option (List ℕ)) (s : Scene) : Type 0 where
  pub part : List ℕ
  pub may : MayFail (plan_of s) k text_of s.links by part
  pub appends : Appends old new part

-- The calls on the sink in its turn: for the record that comes next no more than it has bytes, with its
-- LF; for the end one.
abbrev pub CallsSink : ℕ → ℕ → List Row → Type 0
CallsSink old new (row ∷ rows) = new ≤ old + length (text_of row ++ 10 ∷ [])
CallsSink old new [] = new ≡ counted old

-- The flushes among them: none for a record, and one for the end.
abbrev pub FlushesSink : ℕ → ℕ → List Row → Type 0
FlushesSink old new (row ∷ rows) = new ≡ old
FlushesSink old new [] = new ≡ counted old

-- Nothing is flushed while a run goes on, and it is flushed once at most as the run ends.
pub record FlushesLast (old new : ℕ) (is_over : Bool) : Type 0 where
  pub none_before : is_over ≡ false → new ≡ old
  pub once : new ≤ old + 1

abbrev pub SinkWent : {S R : Type 0} → Stage S → Option RunResult → Option (List ℕ) → Option (List ℕ) → Bool → Bool
    → Web S R → Scene → Type 0
SinkWent stage None old new flushed is_over web s = Sent stage old new flushed is_over web s
SinkWent stage (Some by) old new flushed is_over web s =
    Failed s.count by old new s × (is_over ≡ true)

-- the sink is ready
pub record MayWrite {S R : Type 0} (stage : Stage S) (web : Web S R) (s : Scene) : Type 0 where
  pub at : IsAt stage web s
  pub some : has_some (s.links (last (plan_of s))) ≡ true

-- The sink wasn't ready, and nothing has changed.
pub record SinkWaited {S R W : Type 0} (stage : Stage S) (old new : Net S R W) : Type 0 where
  pub idle : (s : Scene) → IsAt stage old.web s → (s.links (last (plan_of s))).heard ≡ None
      → has_some (s.links (last (plan_of s))) ≡ false
  pub same : new ≡ old

-- It was ready and has had its turn, which isn't counted yet, and tells whether the run is over.
pub record SinkActed {S R W : Type 0} (stage : Stage S) (reader : Source R) (writer : Sink W) (old new : Net S R W)
    (is_over : Bool) : Type 0 where
  pub was_ready : (s : Scene) → IsAt stage old.web s → (s.links (last (plan_of s))).heard ≡ None
      → has_some (s.links (last (plan_of s))) ≡ true
  pub went : (s : Scene) → MayWrite stage old.web s → SinkWent stage new.failure (writer.contents old.sink)
      (writer.contents new.sink) (writer.flushed new.sink) is_over new.web s
  pub asked : (s : Scene) → MayWrite stage old.web s
      → CallsSink (writer.calls old.sink) (writer.calls new.sink) (s.links (last (plan_of s))).waiting
  pub flushes : (s : Scene) → MayWrite stage old.web s
      → FlushesSink (writer.flushes old.sink) (writer.flushes new.sink) (s.links (last (plan_of s))).waiting
  pub flushed_last : FlushesLast (writer.flushes old.sink) (writer.flushes new.sink) is_over
  pub marked : writer.failed new.sink ≡ (writer.failed old.sink || is_write new.failure)
  pub unread : (k : ℕ) → is_read_of k new.failure ≡ false
  pub room : is_over ≡ false → HasRoom (length old.web.links.items - 1) new.web
  pub shows : (k : ℕ) → ShowsSame reader old.web.nodes.items new.web.nodes.items k
  pub rest : new ≡ record old { web = new.web; sink = new.sink; failure = new.failure }

-- What a net stands for: a moment that turns have led to, written behind what the sink held at
-- first, and flushed once the end was heard.
pub record NetAt {S R W : Type 0} (stage : Stage S) (writer : Sink W) (start : Option (List ℕ)) (s : Scene)
    (net : Net S R W) (now : Now Row) : Type 0 where
  pub plan : IsNetPlan s.count s.kinds s.size
  pub first : Now Row
  pub turns : List ℕ
  pub begin : IsFirst first
  pub walk : Walk (plan_of s) s.size text_of first turns now
  pub counted : net.turns ≡ length turns
  pub actors : length net.actors.items ≡ s.count + 1
  pub takers : AreTakers s.count s.kinds net.takers.items
  pub going : now.failure ≡ None → Stands stage net.web (moved s now.links)
  pub failure : net.failure ≡ now.failure
  pub written : Appends start (writer.contents net.sink) (written (plan_of s) text_of now)
  pub is_flushed : (e : End) → now.failure ≡ None → (now.links (last (plan_of s))).heard ≡ Some e
      → writer.flushed net.sink ≡ true

-- This holds of each moment that a net stands for: of what the sink held at first, the scene and the
-- moment.
abbrev pub AtEach : {S R W : Type 0} → Stage S → Sink W → Net S R W
    → (Option (List ℕ) → Scene → Now Row → Type 0) → Type 0
AtEach stage writer net Holds =
    (start : Option (List ℕ)) (s : Scene) (now : Now Row)
    → NetAt stage writer start s net now → Holds start s now

-- Each actor has had no more turns than what it moved allows.
abbrev pub HadFewEach : {S R W : Type 0} → Stage S → Sink W → Net S R W → Type 0
HadFewEach stage writer net =
    (start : Option (List ℕ)) (s : Scene) (now : Now Row) → (at : NetAt stage writer start s net now)
    → now.failure ≡ None → (k : ℕ) → turns_of k at.turns ≤ most (plan_of s) now.links k

-- So many records lie on the link of stage k; on that of the sink, which has none, there are none.
pub record IsLinked (s : Scene) (now : Now Row) (k many : ℕ) : Type 0 where
  pub stage : now.failure ≡ None → k < s.count → (many ≡ linked (now.links k)) × (many ≤ s.size)
  pub sink : now.failure ≡ None → s.count ≤ k → many ≡ 0

-- Nothing comes behind the end of a source that was read.
abbrev pub AreOver : {S R : Type 0} → List (Node S R) → (ℕ → List ℕ) → Type 0
AreOver nodes rests = (k : ℕ) → ended_at k nodes ≡ true → rests k ≡ []

-- an actor that is ready
pub record MayGo {S R W : Type 0} (stage : Stage S) (writer : Sink W) (k : ℕ) (net : Net S R W) : Type 0 where
  pub start : Option (List ℕ)
  pub scene : Scene
  pub now : Now Row
  pub at : NetAt stage writer start scene net now
  pub within : k ≤ scene.count
  pub ready : is_ready (plan_of scene) scene.size now k ≡ true

-- a turn, what the net stands for after it, and whether the run is over then
pub record GoesTo {S R W : Type 0} (stage : Stage S) (writer : Sink W) (start : Option (List ℕ)) (s : Scene)
    (k : ℕ) (now : Now Row) (net : Net S R W) (is_over : Bool) : Type 0 where
  pub to : Now Row
  pub turn : Turn (plan_of s) s.size text_of k now to
  pub at : NetAt stage writer start s net to
  pub tells : is_over ≡ is_some (result (plan_of s) to)

-- The actor has had its turn: a source has read these bytes, no other source any. However they go
-- on, the plan that the net stood for goes on by one turn of this actor, and is over or isn't.
pub record HasTurned {S R W : Type 0} (stage : Stage S) (reader : Source R) (writer : Sink W) (k : ℕ)
    (old new : Net S R W) (is_over : Bool) : Type 0 where
  pub reads : ℕ → List ℕ
  pub others : (i : ℕ) → i ≢ k → reads i ≡ []
  pub read : HaveRead reader old.web.nodes.items new.web.nodes.items reads
  pub turns : (start : Option (List ℕ)) (s : Scene) (now : Now Row)
      → AreOver new.web.nodes.items s.rests
      → NetAt stage writer start (before_all reads s) old now → k ≤ s.count
      → is_ready (plan_of s) s.size now k ≡ true
      → GoesTo stage writer start s k now new is_over

-- it stands for some moment
pub record IsRunning {S R W : Type 0} (stage : Stage S) (writer : Sink W) (net : Net S R W) : Type 0 where
  pub start : Option (List ℕ)
  pub scene : Scene
  pub now : Now Row
  pub at : NetAt stage writer start scene net now

-- and this is one of its actors
pub record IsAmong {S R W : Type 0} (stage : Stage S) (writer : Sink W) (k : ℕ) (net : Net S R W) : Type 0 where
  pub running : IsRunning stage writer net
  pub within : k ≤ running.scene.count

-- While the run goes on, this actor may be asked.
pub record MayAsk {S R W : Type 0} (stage : Stage S) (writer : Sink W) (k : ℕ) (net : Net S R W) : Type 0 where
  pub running : IsRunning stage writer net
  pub going : result (plan_of running.scene) running.now ≡ None
  pub within : k ≤ running.scene.count

-- The actor is the order's choice, and the order has gone on by its pick.
pub record HasPicked {O : Type 0} (order : Order O) (plan : Plan Row) (size : ℕ) (o p : O) (now : Now Row)
    (actor : ℕ) : Type 0 where
  pub choice : actor ≡ choice order plan size o now
  pub next : p ≡ order.next o (ready_list plan size now)

-- how stage k ends a run by this
abbrev pub fault_by : ℕ → ReadError → RunResult
fault_by k error.Read = ends.Read (k + 1)
fault_by k error.Memory = ends.Memory

-- how a net has failed whose stage k has come to this in its turn; as before, where that didn't fail
abbrev pub failed_by : ℕ → Moved → Option RunResult → Option RunResult
failed_by k moves.Waits failure = failure
failed_by k moves.Gave failure = failure
failed_by k moves.Filled failure = failure
failed_by k (moves.Took link) failure = failure
failed_by k (moves.Heard link) failure = failure
failed_by k (moves.Failed error) failure = Some (fault_by k error)
failed_by k moves.Over failure = failure

-- it counts, if it was one
abbrev pub turns_by : Moved → ℕ → ℕ
turns_by moves.Waits turns = turns
turns_by moves.Gave turns = turns + 1
turns_by moves.Filled turns = turns + 1
turns_by (moves.Took link) turns = turns + 1
turns_by (moves.Heard link) turns = turns + 1
turns_by (moves.Failed error) turns = turns + 1
turns_by moves.Over turns = turns + 1

-- The link that a turn of actor k has changed; where it has failed, its own may stand for it.
abbrev pub IsChanged : ℕ → Scene → Option RunResult → ℕ → Type 0
IsChanged k s failure link =
    (link ≡ touched k (state (plan_of s) s.links k)) ⊎ ((link ≡ k) × (failure ≢ None))

-- A failed read or write has ended the run exactly where a call has failed; who takes from whom is as it was.
pub record MarksFailures {S R W : Type 0} (reader : Source R) (writer : Sink W) (old new : Net S R W)
    : Type 0 where
  pub reads : (i : ℕ) → failed_at reader i new.web.nodes.items
      ≡ (failed_at reader i old.web.nodes.items || is_read_of i new.failure)
  pub writes : writer.failed new.sink ≡ (writer.failed old.sink || is_write new.failure)
  pub takers : new.takers ≡ old.takers

-- The actor has had its turn, and the run is over or isn't.
pub record HasGone {S R W : Type 0} (stage : Stage S) (reader : Source R) (writer : Sink W) (k : ℕ)
    (old new : Net S R W) (is_over : Bool) : Type 0 where
  pub turned : HasTurned stage reader writer k old new is_over
  pub marks : MarksFailures reader writer old new
  pub flushes : FlushesLast (writer.flushes old.sink) (writer.flushes new.sink) is_over
  pub turns : new.turns ≡ old.turns + 1
  pub actors : new.actors ≡ old.actors

-- In a turn of an actor its reader is called once at most, and no other. The sink is asked for no write
-- but those of the record that it takes, or for one flush at the end; by a stage for nothing.
pub record AsksLittle {S R W : Type 0} (stage : Stage S) (reader : Source R) (writer : Sink W) (k : ℕ)
    (old new : Net S R W) : Type 0 where
  pub once : AsksOnce reader k old.web.nodes.items new.web.nodes.items
  pub others : (i : ℕ) → i ≢ k
      → ShowsSame reader old.web.nodes.items new.web.nodes.items i
  pub sink : (start : Option (List ℕ)) (s : Scene) (now : Now Row)
      → NetAt stage writer start s old now → is_ready (plan_of s) s.size now k ≡ true
      → k ≡ s.count
      → CallsSink (writer.calls old.sink) (writer.calls new.sink) (now.links (last (plan_of s))).waiting
      × FlushesSink (writer.flushes old.sink) (writer.flushes new.sink) (now.links (last (plan_of s))).waiting
  pub unasked : k ≢ length old.web.nodes.items → new.sink ≡ old.sink

-- While the run goes on the actor isn't ready, and nothing has changed.
pub record HasRested {S R W : Type 0} (stage : Stage S) (writer : Sink W) (k : ℕ) (old new : Net S R W)
    : Type 0 where
  pub idle : AtEach stage writer old (λ start s now. result (plan_of s) now ≡ None → k ≤ s.count
      → is_ready (plan_of s) s.size now k ≡ false)
  pub same : new ≡ old

-- It is ready and has had its turn, in which it has changed this link and asks little.
pub record HasWorked {S R W : Type 0} (stage : Stage S) (reader : Source R) (writer : Sink W) (k link : ℕ)
    (old new : Net S R W) (is_over : Bool) : Type 0 where
  pub ready : AtEach stage writer old (λ start s now. result (plan_of s) now ≡ None → k ≤ s.count
      → is_ready (plan_of s) s.size now k ≡ true)
  pub gone : HasGone stage reader writer k old new is_over
  pub changes : (s : Scene) → IsActor stage k old.web s → IsChanged k s new.failure link
  pub little : AsksLittle stage reader writer k old new

-- What a turn of actor k comes to. Where it has taken a record, that link has room.
abbrev pub HasCome : {S R W : Type 0} → Stage S → Source R → Sink W → ℕ → Net S R W → Net S R W → Moved → Type 0
HasCome stage reader writer k old new moves.Waits = HasRested stage writer k old new
HasCome stage reader writer k old new moves.Gave = HasWorked stage reader writer k k old new false
HasCome stage reader writer k old new moves.Filled =
    HasWorked stage reader writer k k old new false × IsFull k new.web
HasCome stage reader writer k old new (moves.Took link) =
    HasWorked stage reader writer k link old new false × (link < k) × HasRoom link new.web
HasCome stage reader writer k old new (moves.Heard link) =
    HasWorked stage reader writer k link old new false × (link < k)
HasCome stage reader writer k old new (moves.Failed error) =
    (link : ℕ) × HasWorked stage reader writer k link old new true
HasCome stage reader writer k old new moves.Over = (link : ℕ) × HasWorked stage reader writer k link old new true

-- What it comes to where it gives or reads at once.
abbrev pub HasGivenOn : {S R W : Type 0} → Stage S → Source R → Sink W → ℕ → Net S R W → Net S R W → Moved → Type 0
HasGivenOn stage reader writer k old new moves.Waits = new ≡ old
HasGivenOn stage reader writer k old new moves.Gave = HasWorked stage reader writer k k old new false
HasGivenOn stage reader writer k old new moves.Filled =
    HasWorked stage reader writer k k old new false × IsFull k new.web
HasGivenOn stage reader writer k old new (moves.Took link) = ⊥
HasGivenOn stage reader writer k old new (moves.Heard link) = ⊥
HasGivenOn stage reader writer k old new (moves.Failed error) =
    (link : ℕ) × HasWorked stage reader writer k link old new true
HasGivenOn stage reader writer k old new moves.Over = ⊥

-- A prefix of the plan's text was written.
pub record WroteFront (s : Scene) (start held : Option (List ℕ)) : Type 0 where
  pub part : List ℕ
  pub front : Begins part (text text_of (plan_meaning (plan_of s)).items)
  pub appends : Appends start held part

-- The plan's whole text was written, and flushed, and this is how the plan ends.
pub record WroteAll (s : Scene) (start held : Option (List ℕ)) (flushed : Bool) (e : End) : Type 0 where
  pub end : (plan_meaning (plan_of s)).end ≡ Some e
  pub appends : Appends start held (text text_of (plan_meaning (plan_of s)).items)
  pub is_flushed : flushed ≡ true

-- What a run has written that ended so.
abbrev pub Outcome : Scene → Option (List ℕ) → Option (List ℕ) → Bool → RunResult → Type 0
Outcome s start held flushed ends.Finished = WroteAll s start held flushed Closed
Outcome s start held flushed (ends.Fault f) = WroteAll s start held flushed (Broken f)
Outcome s start held flushed (ends.Read k) = WroteFront s start held
Outcome s start held flushed ends.Write = WroteFront s start held
Outcome s start held flushed ends.Memory = WroteFront s start held

-- The order's picks have led a net that had had so many turns to a moment, and each was counted.
pub record Leads {S R W O : Type 0} (stage : Stage S) (writer : Sink W) (order : Order O) (o p : O)
    (start : Option (List ℕ)) (s : Scene) (now : Now Row) (before : ℕ) (net : Net S R W) : Type 0 where
  pub turns : List ℕ
  pub counted : net.turns ≡ before + length turns
  pub to : Now Row
  pub driven : Driven order (plan_of s) s.size text_of o now turns to p
  pub at : NetAt stage writer start s net to

-- It is known whether the run is over and, while it isn't, who is ready.
pub record Watches (look : Look) (is_over : Bool) (s : Scene) (now : Now Row) : Type 0 where
  pub tells : is_over ≡ is_some (result (plan_of s) now)
  pub sees : result (plan_of s) now ≡ None → Sees look s now

-- A step of a run that goes on: the sources have read these bytes. However they go on, the order's
-- picks have led the net on, and so much is known of who is ready.
pub record HasStepped {S R W O : Type 0} (stage : Stage S) (reader : Source R) (writer : Sink W)
    (order : Order O) (o p : O) (before after : Look) (old new : Net S R W) (is_over : Bool) : Type 0 where
  pub reads : ℕ → List ℕ
  pub read : HaveRead reader old.web.nodes.items new.web.nodes.items reads
  pub goes : (start : Option (List ℕ)) (s : Scene) (now : Now Row)
      → AreOver new.web.nodes.items s.rests
      → NetAt stage writer start (before_all reads s) old now
      → result (plan_of s) now ≡ None → Sees before s now
      → (d : Leads stage writer order o p start s now old.turns new) × Watches after is_over s d.to

-- It has gone on by some turns. A failed read or write has ended it exactly where a call has failed.
pub record HasAdvanced {S R W O : Type 0} (stage : Stage S) (reader : Source R) (writer : Sink W)
    (order : Order O) (o p : O) (before after : Look) (old new : Net S R W) (is_over : Bool) : Type 0 where
  pub stepped : HasStepped stage reader writer order o p before after old new is_over
  pub marks : MarksFailures reader writer old new
  pub flushes : FlushesLast (writer.flushes old.sink) (writer.flushes new.sink) is_over

-- Steps that don't end the run are some turns, or leave fewer actors to ask.
abbrev pub IsCloser : {S R W : Type 0} → Look → Look → Net S R W → Net S R W → Bool → Type 0
IsCloser before after old new is_over =
    (is_over ≡ true) ⊎ (old.turns < new.turns)
    ⊎ ((new.turns ≡ old.turns) × (still_to_ask after < still_to_ask before))

-- The order's picks have led it to its end. What the plan means is a score, where the last stage too
-- makes scores of scores; its fault is the lowest-numbered one.
pub record RunsTo {S R W O : Type 0} (stage : Stage S) (writer : Sink W) (order : Order O) (o p : O)
    (start : Option (List ℕ)) (s : Scene) (now : Now Row) (before : ℕ) (net : Net S R W) (by : RunResult) : Type 0 where
  pub leads : Leads stage writer order o p start s now before net
  pub over : result (plan_of s) leads.to ≡ Some by
  pub outcome : Outcome s start (writer.contents net.sink) (writer.flushed net.sink) by
  pub valid : KeepsFine fine (s.kinds (last (plan_of s))).stage
      → IsFine 4294967295 (plan_meaning (plan_of s))
  pub whose : IsNumbered (plan_of s) → IsFailure by
      ⊎ (by ≡ result_of (first_fault (plan_of s) s.count))

-- The sources have read these bytes. However they go on, the plan that the net stood for goes on by
-- the turns that the order picks, to the end of its run.
pub record HasRun {S R W O : Type 0} (stage : Stage S) (reader : Source R) (writer : Sink W) (order : Order O)
    (o p : O) (old new : Net S R W) (by : RunResult) : Type 0 where
  pub reads : ℕ → List ℕ
  pub read : HaveRead reader old.web.nodes.items new.web.nodes.items reads
  pub runs : (start : Option (List ℕ)) (s : Scene) (now : Now Row)
      → AreOver new.web.nodes.items s.rests
      → NetAt stage writer start (before_all reads s) old now
      → RunsTo stage writer order o p start s now old.turns new by

-- However the bytes go on that are still to come, the net stands for a moment of a plan.
pub record IsNet {S R W : Type 0} (stage : Stage S) (writer : Sink W) (net : Net S R W) : Type 0 where
  pub start : Option (List ℕ)
  pub scene : (ℕ → List ℕ) → Scene
  pub now : (ℕ → List ℕ) → Now Row
  pub rests : (rests : ℕ → List ℕ) → (scene rests).rests ≡ rests
  pub at : (rests : ℕ → List ℕ) → AreOver net.web.nodes.items rests
      → NetAt stage writer start (scene rests) net (now rests)

-- However they go on behind what was read, the run goes on too, and so much is known of who is ready.
pub record MayStep {S R W : Type 0} (stage : Stage S) (writer : Sink W) (look : Look) (net : Net S R W)
    : Type 0 where
  pub start : Option (List ℕ)
  pub scene : (rests : ℕ → List ℕ) → AreOver net.web.nodes.items rests → Scene
  pub now : (rests : ℕ → List ℕ) → AreOver net.web.nodes.items rests → Now Row
  pub rests : (rests : ℕ → List ℕ) (over : AreOver net.web.nodes.items rests)
      → (scene rests over).rests ≡ rests
  pub at : (rests : ℕ → List ℕ) (over : AreOver net.web.nodes.items rests)
      → NetAt stage writer start (scene rests over) net (now rests over)
  pub going : (rests : ℕ → List ℕ) (over : AreOver net.web.nodes.items rests)
      → result (plan_of (scene rests over)) (now rests over) ≡ None
  pub sees : (rests : ℕ → List ℕ) (over : AreOver net.web.nodes.items rests)
      → Sees look (scene rests over) (now rests over)

-- Nodes that were asked nothing yet, of a plan by what is still to come of the bytes.
pub record AreBegun {S R : Type 0} (stage : Stage S) (size : ℕ) (nodes : List (Node S R))
    (scene : (ℕ → List ℕ) → Scene) : Type 0 where
  pub rests : (rests : ℕ → List ℕ) → (scene rests).rests ≡ rests
  pub plan : (rests : ℕ → List ℕ)
      → IsNetPlan (scene rests).count (scene rests).kinds (scene rests).size
  pub begun : (rests : ℕ → List ℕ) → IsBegun stage size nodes (scene rests)

-- Each source tells its bytes: these, and none where it has read their end.
pub record Tells {S R : Type 0} (reader : Source R) (nodes : List (Node S R)) (rests : ℕ → List ℕ)
    : Type 0 where
  pub tells : (i : ℕ) (node : Node S R) → slice_get nodes i ≡ Some node → is_source node ≡ true
      → remaining_of reader.remaining node ≡ Some (rests i)
  pub over : AreOver nodes rests

-- Of these bytes some are left, and the plan has gone on to its end.
pub record HasRunOn {S R W O : Type 0} (stage : Stage S) (writer : Sink W) (order : Order O) (o p : O)
    (start : Option (List ℕ)) (s : Scene) (now : Now Row) (before : ℕ) (net : Net S R W) (by : RunResult) : Type 0 where
  pub left : ℕ → List ℕ
  pub runs : RunsTo stage writer order o p start (record s { rests = left }) now before net by

-- What a run by an order has come to.
pub record RunsBy {S R W O : Type 0} (stage : Stage S) (reader : Source R) (writer : Sink W) (order : Order O)
    (o p : O) (old new : Net S R W) (by : RunResult) : Type 0 where
  -- Whatever bytes the sources have, and however they go on: the turns are those that the order picks,
  -- and what was written is what the plan means.
  pub ran : HasRun stage reader writer order o p old new by
  -- Where the sources tell their bytes, it is what the plan means over these.
  pub whole : (start : Option (List ℕ)) (s : Scene) (now : Now Row)
      → Tells reader old.web.nodes.items s.rests → NetAt stage writer start s old now
      → HasRunOn stage writer order o p start s now old.turns new by
  -- It ends by a failed read or write exactly where a call has failed in it.
  pub reads : old.failure ≡ None → (i : ℕ) → failed_at reader i new.web.nodes.items
      ≡ (failed_at reader i old.web.nodes.items || is_read_of i (Some by))
  pub writes : old.failure ≡ None
      → writer.failed new.sink ≡ (writer.failed old.sink || is_write (Some by))
  -- It is flushed once at most, as it ends.
  pub flushes : writer.flushes new.sink ≤ writer.flushes old.sink + 1
  -- A run that is over answers its result again.
  pub again : AtEach stage writer old (λ start s now. (e : RunResult)
      → result (plan_of s) now ≡ Some e → (by ≡ e) × (new ≡ old) × (p ≡ o))

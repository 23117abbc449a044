-- What nodes and links stand for.
use Rattle.std.specs.Prelude.{◌≡◌, ◌≢◌, ◌⊎◌, ℕ, ◌+◌, ◌<◌, ◌≤◌, Bool, true, false}
use Rattle.std.specs.Prelude.{if◌then◌else◌, nat_eq, nat_lt, List, [], ◌++◌}
use Rattle.std.specs.Prelude.{length, map, Some, slice_get}
use Rattle.std.specs.Io.KnownBytes.{Consumes, IsAtEnd}
use Rattle.hum_text.specs.declared.calls.Source.{Ghosts as Source}
use Rattle.hum_score.specs.Row.{Row}
use Rattle.hum_stage.specs.declared.contract.Stage.{Ghosts as Stage}
use Rattle.hum_stage.specs.Lag.{LagsAtMost}
use Rattle.hum_stage.specs.Meaning.{Meaning, IsLawful, IsWithinLag}
use Rattle.hum_turns.specs.Plan.{Plan, IsPlan, last}
use Rattle.hum_turns.specs.Near.{IsOneOf}
use Rattle.hum_record.specs.Room.{rooms_for}
use Rattle.hum_turns.specs.Counts.{total}
use Rattle.hum_turns.specs.Links.{Moment, given, view, IsOpening}
use Rattle.hum_turns.specs.Turns.{State, state, can, ready, Does, Step, Run}
use Rattle.hum_nodes.specs.Fine.{fine}
use Rattle.hum_nodes.specs.At.{Kind, At, HoldsOneEach, IsLimited, doing_of, readiness_of, holds_of, waits_of}
use Rattle.hum_nodes.specs.At.{fresh as fresh_at}
use Rattle.hum_nodes.specs.Single.{single}
use Rattle.hum_nodes.specs.Doing.{Doing}
use Rattle.hum_stage.specs.declared.faults.Readiness.{Readiness}
use Rattle.hum_nodes.specs.declared.node.Node.{Node}
use Rattle.hum_nodes.specs.Nodes.{StandsAs, is_source, gives_ahead, remaining_of, ended_of}
use Rattle.hum_engine.specs.declared.link.Link.{Link}
use Rattle.hum_engine.specs.Links.{IsLink, room}
use Rattle.hum_engine.specs.declared.web.Web.{Web}

-- A moment of a plan, with the bytes that each source has still to read: how many stages, what each
-- is, the size of the links, and what has come of each.
pub record Scene : Type 0 where
  pub rests : ℕ → List ℕ
  pub count : ℕ
  pub kinds : ℕ → Kind
  pub size : ℕ
  pub links : Moment Row

-- so many stages of these kinds
abbrev pub plan_by : ℕ → (ℕ → Kind) → Plan Row
plan_by count kinds = record { count = count; stage = λ k. (kinds k).stage; fine = fine }

abbrev pub plan_of : Scene → Plan Row
plan_of s = plan_by s.count s.kinds

abbrev pub moved : Scene → Moment Row → Scene
moved s m = record s { links = m }

-- where source k has these bytes more to read
abbrev pub before : List ℕ → ℕ → Scene → Scene
before read k s = record s {
  rests = λ i. if nat_eq i k then read ++ s.rests i else s.rests i;
}

-- where each source has these bytes more to read
abbrev pub before_all : (ℕ → List ℕ) → Scene → Scene
before_all reads s = record s { rests = λ i. reads i ++ s.rests i }

-- bytes of source k alone
abbrev pub only : ℕ → List ℕ → ℕ → List ℕ
only k read i = if nat_eq i k then read else []

-- Each stage is read at one place alone.
abbrev pub IsTreeBy : ℕ → (ℕ → Kind) → Type 0
IsTreeBy count kinds =
    (i p j q k : ℕ) → i < count → j < count
    → slice_get (kinds i).stage.sources p ≡ Some k
    → slice_get (kinds j).stage.sources q ≡ Some k → (i ≡ j) × (p ≡ q)

abbrev pub IsTree : Scene → Type 0
IsTree s = IsTreeBy s.count s.kinds

-- What is asked of the stages of a net and of the size of its links: each stage but the last may be
-- read at one place, has at most 15 sources, and gives no more records than a score may have.
pub record IsNetPlan (count : ℕ) (kinds : ℕ → Kind) (size : ℕ) : Type 0 where
  pub ok : IsPlan (plan_by count kinds)
  pub tree : IsTreeBy count kinds
  pub some : 0 < size
  pub few : count < 256
  pub narrow : (k : ℕ) → k < count → length (kinds k).stage.sources ≤ 15
  pub limited : (k : ℕ) → k < count → IsLimited (kinds k).stage

-- A moment that turns of ready actors have led to.
pub record IsReached (s : Scene) : Type 0 where
  pub ok : IsPlan (plan_of s)
  pub tree : IsTree s
  pub some : 0 < s.size
  pub first : Moment Row
  pub turns : List ℕ
  pub start : IsOpening first
  pub run : Run (plan_of s) s.size first turns s.links

-- what stage k has had of its sources, and what its node stands for
abbrev pub at_of : (ℕ → Kind) → Moment Row → ℕ → At
at_of kinds m k = record {
  kind = kinds k;
  inputs = map (λ i. view (m i)) (kinds k).stage.sources;
  read = (m k).read;
  given = length (given (m k));
}

abbrev pub NodesStand : {S R : Type 0} → Stage S → Scene → List (Node S R) → Type 0
NodesStand {S} {R} stage s nodes =
    (k : ℕ) (node : Node S R) → slice_get nodes k ≡ Some node
    → StandsAs stage.stands node (s.rests k) (at_of s.kinds s.links k)

abbrev pub LinksStand : ℕ → Moment Row → List Link → Type 0
LinksStand size m links =
    (k : ℕ) (link : Link) → slice_get links k ≡ Some link → IsLink size link (m k)

-- Nodes that were asked nothing yet, and links of this size.
pub record IsBegun {S R : Type 0} (stage : Stage S) (size : ℕ) (nodes : List (Node S R)) (s : Scene)
    : Type 0 where
  pub of_size : s.size ≡ size
  pub count : length nodes ≡ s.count
  pub stand : (k : ℕ) (node : Node S R) → slice_get nodes k ≡ Some node
      → StandsAs stage.stands node (s.rests k) (fresh_at (s.kinds k))

-- Each node and each link stands for what this moment says of it.
pub record Stands {S R : Type 0} (stage : Stage S) (web : Web S R) (s : Scene) : Type 0 where
  pub count : length web.nodes.items ≡ s.count
  pub as_many : length web.links.items ≡ s.count
  pub nodes : NodesStand stage s web.nodes.items
  pub links : LinksStand s.size s.links web.links.items

-- A moment that was reached.
pub record IsAt {S R : Type 0} (stage : Stage S) (web : Web S R) (s : Scene) : Type 0 where
  pub reached : IsReached s
  pub stand : Stands stage web s

-- It stands for a moment of a plan that has this stage.
pub record HasStage {S R : Type 0} (stage : Stage S) (k : ℕ) (web : Web S R) (s : Scene) : Type 0 where
  pub stand : Stands stage web s
  pub less : k < s.count

-- An actor that is a stage.
pub record HasActor {S R : Type 0} (stage : Stage S) (k : ℕ) (web : Web S R) (s : Scene) : Type 0 where
  pub at : IsAt stage web s
  pub less : k < s.count

-- Stage k is ready.
pub record MayTurn {S R : Type 0} (stage : Stage S) (k : ℕ) (web : Web S R) (s : Scene) : Type 0 where
  pub actor : HasActor stage k web s
  pub ready : ready (plan_of s) s.size s.links k ≡ true

-- Stage k, which isn't a source, is about to do this.
pub record IsAbout {S R : Type 0} (stage : Stage S) (k : ℕ) (doing : Doing) (web : Web S R) (s : Scene)
    : Type 0 where
  pub actor : HasActor stage k web s
  pub bytes : (s.kinds k).stage.bytes ≡ 0
  pub does : doing_of (at_of s.kinds s.links k) ≡ doing

-- Stage k, which isn't a source, does this next, and can.
pub record MayAct {S R : Type 0} (stage : Stage S) (k : ℕ) (doing : Doing) (web : Web S R) (s : Scene)
    : Type 0 where
  pub about : IsAbout stage k doing web s
  pub can : can s.size s.links k (state (plan_of s) s.links k) ≡ true

-- it stands for something of which this holds
pub record Somewhere (Holds : Scene → Type 0) : Type 0 where
  pub scene : Scene
  pub holds : Holds scene

-- node k is of this kind
abbrev pub IsKind : {S R : Type 0} → Bool → ℕ → Web S R → Type 0
IsKind {S} {R} b k web =
    (node : Node S R) → slice_get web.nodes.items k ≡ Some node → is_source node ≡ b

-- The actor has done this.
pub record Done {S R : Type 0} (stage : Stage S) (k : ℕ) (doing : State) (web : Web S R) (s : Scene)
    : Type 0 where
  pub new : Moment Row
  pub does : Does (plan_of s) k doing s.links new
  pub stand : Stands stage web (moved s new)

-- The actor has had a turn.
pub record Stepped {S R : Type 0} (stage : Stage S) (k : ℕ) (web : Web S R) (s : Scene) : Type 0 where
  pub new : Moment Row
  pub step : Step (plan_of s) s.size k s.links new
  pub stand : Stands stage web (moved s new)

-- Actor r takes from the link of stage t.
abbrev pub TakesFrom : ℕ → (ℕ → Kind) → ℕ → ℕ → Type 0
TakesFrom count kinds r t =
    ((r < count) × IsOneOf (kinds r).stage.sources t) ⊎ ((r ≡ count) × (t ≡ last (plan_by count kinds)))

-- These are who takes from each link: an actor behind its stage, and nobody else does.
pub record AreTakers (count : ℕ) (kinds : ℕ → Kind) (takers : List ℕ) : Type 0 where
  pub many : length takers ≡ count
  pub behind : (t r : ℕ) → slice_get takers t ≡ Some r → (t < r) × (r ≤ count)
  pub alone : (t r k : ℕ) → slice_get takers t ≡ Some r → TakesFrom count kinds k t → k ≡ r

-- how many records wait inside a stage that isn't a source
abbrev pub held_of : Scene → Moment Row → ℕ → ℕ
held_of s m k =
    if nat_lt k s.count
    then (if nat_lt 0 (s.kinds k).stage.bytes then 0 else holds_of (at_of s.kinds m k))
    else 0

-- The room for the records that lie on the link of stage k and for those that wait inside it, and for those of all.
abbrev pub room_of : Scene → Moment Row → ℕ → ℕ
room_of s m k = rooms_for (m k).waiting + rooms_for (waits_of (at_of s.kinds m k))

abbrev pub rooms_of : Scene → Moment Row → ℕ
rooms_of s m = total (room_of s m) s.count

-- So many records are few for stage k: of one input at most one more than the greatest lag of the
-- records that it was put, or of any records; and in assemble at most one of each source.
pub record HoldsFew (s : Scene) (m : Moment Row) (k many : ℕ) : Type 0 where
  pub own : (from n : ℕ) (meaning : Meaning) → k < s.count → s.kinds k ≡ single from meaning
      → IsLawful meaning → LagsAtMost meaning.outcomes n (m from).taken → many ≤ n + 1
  pub within : (from n : ℕ) (meaning : Meaning) → k < s.count → s.kinds k ≡ single from meaning
      → IsWithinLag n meaning → many ≤ n + 1
  pub each : k < s.count → HoldsOneEach (s.kinds k) (length (s.kinds k).stage.sources) many

-- The link of stage k has room.
pub record HasRoom {S R : Type 0} (k : ℕ) (web : Web S R) : Type 0 where
  pub link : Link
  pub its : slice_get web.links.items k ≡ Some link
  pub room : room link ≡ true

-- Stage k has taken the record ahead that it gives next.
abbrev pub GivesAhead : {S R : Type 0} → ℕ → Web S R → Type 0
GivesAhead {S} {R} k web = (node : Node S R) → slice_get web.nodes.items k ≡ Some node → gives_ahead node ≡ true

-- Stage k is a source, and its link is full.
pub record IsFull {S R : Type 0} (k : ℕ) (web : Web S R) : Type 0 where
  pub node : Node S R
  pub is : slice_get web.nodes.items k ≡ Some node
  pub source : is_source node ≡ true
  pub link : Link
  pub its : slice_get web.links.items k ≡ Some link
  pub full : room link ≡ false

-- Only the node of stage k may have changed.
abbrev pub KeepsOthers : {S R : Type 0} → ℕ → Web S R → Web S R → Type 0
KeepsOthers k old new =
    (i : ℕ) → i ≢ k → slice_get new.nodes.items i ≡ slice_get old.nodes.items i

-- Only the node of stage k may have changed, and it is a stage still.
pub record Keeps {S R : Type 0} (k : ℕ) (old new : Web S R) : Type 0 where
  pub others : KeepsOthers k old new
  pub kind : IsKind false k new

-- An actor: a stage or the sink.
pub record IsActor {S R : Type 0} (stage : Stage S) (k : ℕ) (web : Web S R) (s : Scene) : Type 0 where
  pub at : IsAt stage web s
  pub within : k ≤ s.count

-- the same without its end
pub record IsAboutKind {S R : Type 0} (stage : Stage S) (k : ℕ) (kind : Readiness) (web : Web S R) (s : Scene)
    : Type 0 where
  pub actor : HasActor stage k web s
  pub bytes : (s.kinds k).stage.bytes ≡ 0
  pub does : readiness_of (doing_of (at_of s.kinds s.links k)) ≡ kind

-- This is what stage k does next, which isn't a source.
abbrev pub IsDoing : {S R : Type 0} → Stage S → ℕ → Web S R → Readiness → Type 0
IsDoing stage k web kind =
    IsKind false k web
    × ((s : Scene) → IsAt stage web s → k < s.count → IsAboutKind stage k kind web s)

-- Stage k has read these bytes, and the turn is what follows from them however they go on. A stage
-- that isn't a source reads none.
pub record Fed {S R : Type 0} (stage : Stage S) (reader : Source R) (k : ℕ) (old new : Web S R) : Type 0 where
  pub node : Node S R
  pub was : slice_get old.nodes.items k ≡ Some node
  pub after : Node S R
  pub is : slice_get new.nodes.items k ≡ Some after
  pub others : KeepsOthers k old new
  pub read : List ℕ
  pub consumes : Consumes (remaining_of reader.remaining node) (remaining_of reader.remaining after) read
  pub at_end : ended_of after ≡ true
      → (ended_of node ≡ true) ⊎ IsAtEnd (remaining_of reader.remaining after)
  pub still : ended_of node ≡ true → (read ≡ []) × (ended_of after ≡ true)
  pub turns : (s : Scene) → (ended_of after ≡ true → s.rests k ≡ [])
      → MayTurn stage k old (before read k s) → Stepped stage k new s

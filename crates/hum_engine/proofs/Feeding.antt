-- A turn of a source of a web.
use Rattle.std.proofs.lemmas.Grind.{common_steps}
use Rattle.std.proofs.lemmas.Bool.Decides.{nat_tests}
use Rattle.std.proofs.Common.{◌≡◌, ◌∙◌, ℕ, ◌<◌, Bool, true, false, ◌||◌, List, ◌++◌, length, Option, Some, refl, sym}
use Rattle.std.proofs.Common.{ap, arith, slice_get, slice_set, get_or, length-set, eq-eqb, ne_eqb, is_none}
use Rattle.std.proofs.Common.{Result, Ok, Err}
use Rattle.std.specs.Prelude.{IfOk, OnErr}
use Rattle.std.proofs.lemmas.Option.{slice_get_within, same_Some}
use Rattle.std.proofs.lemmas.Bool.{cond-true, cond-false, and_parts}
use Rattle.circular_buffer.proofs.Places.{slice_get-some}
use Rattle.hum_text.specs.declared.calls.Source.{Ghosts as Source}
use Rattle.hum_stage.specs.declared.contract.Stage.{Ghosts as Stage}
use Rattle.hum_turns.specs.Links.{has_room}
use Rattle.hum_turns.proofs.Near.{ready_reader, source_touches}
use Rattle.hum_turns.proofs.States.{source_is}
use Rattle.hum_nodes.specs.At.{At}
use Rattle.hum_nodes.specs.declared.node.Node.{Node}
use Rattle.hum_read.specs.Reading.{Polled}
use Rattle.hum_nodes.specs.Nodes.{StandsAs, is_source, remaining_of, ended_of, calls_of, failed_of, stopped_of}
use Rattle.hum_nodes.specs.Polls.{HasPolled, HasStayed, AsksAtMostOnce, is_failed_read}
use Rattle.hum_nodes.proofs.Standing.{source_bytes}
use Rattle.hum_stage.specs.declared.faults.End.{End}
use Rattle.hum_read.specs.declared.ReadError.{ReadError}
use Rattle.hum_engine.specs.Told.{AsksOne, HasTold}
use Rattle.hum_engine.specs.declared.link.Link as port
use Rattle.hum_engine.specs.Links.{room}
use Rattle.hum_engine.specs.declared.web.Web.{Web}
use Rattle.hum_engine.specs.Scene.{Scene, plan_of, at_of, Stands, MayTurn, Fed, Somewhere}
use Rattle.hum_engine.specs.Scene.{IsKind, IsFull, KeepsOthers}
use Rattle.hum_engine.proofs.Moving.{OthersStand, nth, set_other, set_here}
use Rattle.hum_engine.proofs.Polling.{LinkGoes, links_by, polls}

as_many : (p : Polled) (links : List port.Link) (k : ℕ) (after : port.Link)
    → length (links_by p links k after) ≡ length links
as_many p links k after = grind (arith, length-set links k after)

-- A place that a list has is one of a scene with as many stages.
pub within : {A : Type 0} (xs : List A) (k count : ℕ) (x : A) → length xs ≡ count → slice_get xs k ≡ Some x → k < count
within xs k count x many at = omega (arith, slice_get_within xs k x at, many)

-- What lies where an actor has its turn.

module _ {S R : Type 0} {stage : Stage S} {k : ℕ} {web : Web S R} {s : Scene} where
  pub node_at : {node : Node S R} → k < s.count → Stands stage web s
      → node ≡ get_or web.nodes.items k node → slice_get web.nodes.items k ≡ Some node
  node_at {node} less st e = nth web.nodes.items k node (omega (arith, less, st.count)) e

  pub link_at : {link : port.Link} → k < s.count → Stands stage web s
      → link ≡ get_or web.links.items k link → slice_get web.links.items k ≡ Some link
  link_at {link} less st e = nth web.links.items k link (omega (arith, less, st.as_many)) e

pub turn_link : {S R : Type 0} {stage : Stage S} {k : ℕ} {web : Web S R} {link : port.Link}
    → Somewhere (MayTurn stage k web) → link ≡ get_or web.links.items k link → slice_get web.links.items k ≡ Some link
turn_link h e = link_at h.holds.actor.less h.holds.actor.at.stand e

module _ {S R : Type 0} (stage : Stage S) (k : ℕ) (web : Web S R) (s : Scene) where
  pub node_of : k < s.count → Stands stage web s
      → (node : Node S R) × (slice_get web.nodes.items k ≡ Some node)
  node_of less st = slice_get-some web.nodes.items k (omega (arith, less, st.count))

  pub link_of : k < s.count → Stands stage web s
      → (link : port.Link) × (slice_get web.links.items k ≡ Some link)
  link_of less st = slice_get-some web.links.items k (omega (arith, less, st.as_many))

-- A link has room where the plan's has.
pub room_same : {S R : Type 0} {stage : Stage S} (k : ℕ) {web : Web S R} {s : Scene} {link : port.Link}
    → Stands stage web s → slice_get web.links.items k ≡ Some link → room link ≡ has_room s.size (s.links k)
room_same = grind (arith, nat_tests)

-- What was just put lies there.
pub still_here : {A : Type 0} (nodes : List A) (k : ℕ) (node after x : A)
    → slice_get nodes k ≡ Some node → x ≡ get_or (slice_set nodes k after) k x → x ≡ after
still_here = grind (arith, nat_tests, slice_get_within, length-set, same_Some, nth, slice_set, set_here)

-- A source that is ready is polled.
module _ {S R : Type 0} {stage : Stage S} {k : ℕ} {old : Web S R} {node : Node S R}
    (turn : Somewhere (MayTurn stage k old)) (value : node ≡ get_or old.nodes.items k node) where
  pub polled_at : slice_get old.nodes.items k ≡ Some node
  polled_at = node_at turn.holds.actor.less turn.holds.actor.at.stand value

  -- it has room
  pub source_room : {link : port.Link} → IsKind true k old → link ≡ get_or old.links.items k link → room link ≡ true
  source_room {link} kind e =
      let s = turn.scene in
      let may = turn.holds in
      let b = source_bytes stage.stands node (s.rests k) _ (kind node polled_at) (may.actor.at.stand.nodes k node polled_at) in
      let r = sym (ready_reader (plan_of s) s.size k s.links may.actor.less b) ∙ may.ready in
      room_same k may.actor.at.stand (link_at may.actor.less may.actor.at.stand e) ∙ (and_parts (is_none (s.links k).mark) _ r).1

  -- what it tells of why it has stopped
  pub why_stopped : {x : Node S R} {o : Option (Result End ReadError)} (after : Node S R)
      → x ≡ get_or (slice_set old.nodes.items k after) k x → o ≡ stopped_of x → stopped_of after ≡ o
  why_stopped = grind (arith, common_steps)

  -- its node is this one then, and no other has changed
  module _ (new : Web S R) (after : Node S R) (nodes : new.nodes.items ≡ slice_set old.nodes.items k after) where
    others_same : KeepsOthers k old new
    others_same i o = ap (λ (ns : List (Node S R)). slice_get ns i) nodes ∙ set_other old.nodes.items k after i o

    is_after : slice_get new.nodes.items k ≡ Some after
    is_after = ap (λ (ns : List (Node S R)). slice_get ns k) nodes ∙ set_here old.nodes.items k after node polled_at

    -- its link may be full
    pub source_full : {link x : port.Link} {b : Bool} (put : port.Link) → is_source after ≡ true
        → slice_get old.links.items k ≡ Some link → new.links.items ≡ slice_set old.links.items k put
        → x ≡ get_or (slice_set old.links.items k put) k x → b ≡ room x → b ≡ false → IsFull k new
    source_full {link} {x} put kind its links value tells full =
        let now = ap (λ ls. slice_get ls k) links ∙ set_here old.links.items k put link its in
        record {
          node = after;
          is = is_after;
          source = kind;
          link = put;
          its = now;
          full = ap room (sym (still_here old.links.items k link put x its value)) ∙ sym tells ∙ full;
        }

    -- its turn, by what has come of it
    pub fed : {reader : Source R} {link : port.Link} {r : Result Polled ReadError} {p : Polled} (put : port.Link)
        → slice_get old.links.items k ≡ Some link → r ≡ Ok p
        → IfOk r (HasPolled (StandsAs stage.stands node) (StandsAs stage.stands after) (ended_of node) (ended_of after)
        (remaining_of reader.remaining node) (remaining_of reader.remaining after))
        → LinkGoes p link put → new.links.items ≡ links_by p old.links.items k put → Fed stage reader k old new
    fed {reader} {link} {r} {p} put at_link is polled goes links =
        let h = rw is at polled in
        record {
          node = node;
          was = polled_at;
          after = after;
          is = is_after;
          others = others_same;
          read = h.read;
          consumes = h.consumes;
          at_end = h.at_end;
          still = h.still;
          turns = λ s last may.
              let st = may.actor.at.stand in
              let here : StandsAs stage.stands node (h.read ++ s.rests k) (at_of s.kinds s.links k) =
              rw (cond-true _ _ _ (eq-eqb k k refl)) at (st.nodes k node polled_at) in
              let others : OthersStand stage s k s.links old.nodes.items = λ i y o g.
              rw (cond-false _ _ _ (ne_eqb i k o)) at (st.nodes i y g) in
              let t = polls stage s k old.nodes.items old.links.items may.actor.less after link put at_link
              others st.links may.ready p (h.polls (s.rests k) (at_of s.kinds s.links k) last here) goes in
              record {
                new = t.new;
                step = t.step;
                stand = record {
                  count = ap length nodes ∙ length-set old.nodes.items k after ∙ st.count;
                  as_many = ap length links ∙ as_many p old.links.items k put ∙ st.as_many;
                  nodes = rw nodes t.at_nodes;
                  links = rw links t.at_links;
                };
              };
        }

    -- what its reader was asked
    module _ {reader : Source R} (r : Result Polled ReadError)
        (once : AsksAtMostOnce (calls_of reader.calls node) (failed_of reader.failed node) (calls_of reader.calls after) (failed_of reader.failed after))
        (marks : (rest : List ℕ) (t : At) → StandsAs stage.stands node rest t → failed_of reader.failed after ≡ (failed_of reader.failed node || is_failed_read r)) where
      asked : {A : Type 0} {told : Result A ReadError} → is_failed_read told ≡ is_failed_read r
          → OnErr told (HasStayed (ended_of node) (ended_of after) (remaining_of reader.remaining node) (remaining_of reader.remaining after))
          → AsksOne reader k old new told
      asked same stays =
          record {
            others = others_same;
            marks = rw (is_after, polled_at, same) (marks _ _ (turn.holds.actor.at.stand.nodes k node polled_at));
            once = rw (is_after, polled_at) once;
            stays = rw (is_after, polled_at) stays;
          }

      pub asked_ok : {A : Type 0} {x : A} {p : Polled} → r ≡ Ok p → AsksOne reader k old new (Ok x)
      asked_ok is = asked (sym (ap is_failed_read is)) tt

      pub asked_err : {A : Type 0} {e : ReadError} → r ≡ Err e
          → OnErr r (HasStayed (ended_of node) (ended_of after) (remaining_of reader.remaining node) (remaining_of reader.remaining after))
          → AsksOne {A = A} reader k old new (Err e)
      asked_err is stays = asked (sym (ap is_failed_read is)) (rw is at stays)

      -- and what its turn tells
      module _ (kind : IsKind true k old) where
        pub told_read : {link : port.Link} {p : Polled} (put : port.Link)
            → slice_get old.links.items k ≡ Some link → r ≡ Ok p
            → IfOk r (HasPolled (StandsAs stage.stands node) (StandsAs stage.stands after) (ended_of node) (ended_of after)
            (remaining_of reader.remaining node) (remaining_of reader.remaining after))
            → LinkGoes p link put → new.links.items ≡ links_by p old.links.items k put
            → HasTold stage reader k old new (Ok k)
        told_read put its is polled goes links = record {
          turned = fed put its is polled goes links;
          link = λ s actor.
              let less : k < s.count = omega (arith, turn.holds.actor.less, turn.holds.actor.at.stand.count, actor.at.stand.count) in
              let some = source_bytes stage.stands node (s.rests k) _ (kind node polled_at) (actor.at.stand.nodes k node polled_at) in
              sym (source_touches (plan_of s) actor.at.reached.ok s.size k s.links (source_is (plan_of s) k less some));
          read = λ h. kind;
          asked = asked_ok is;
        }

        pub told_failed : {e : ReadError} → r ≡ Err e
            → OnErr r (HasStayed (ended_of node) (ended_of after) (remaining_of reader.remaining node) (remaining_of reader.remaining after))
            → HasTold stage reader k old new (Err e)
        told_failed is stays =
            record { turned = tt; link = tt; read = λ h. kind; asked = asked_err is stays }

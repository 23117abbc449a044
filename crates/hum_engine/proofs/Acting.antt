-- What a web stands for after an actor has done something.
use Rattle.std.proofs.lemmas.Bool.Decides.{nat_tests}
use Rattle.std.proofs.Common.{◌≡◌, sub-one, ◌∙◌, ℕ, pred, ◌-◌, ◌<◌, true, false, List, length, Option, Some, refl, sym, ap}
use Rattle.std.proofs.Common.{subst, arith, get_or, slice_get, slice_set, slice_index, length-set}
use Rattle.std.proofs.lemmas.Option.{get_or_from_slice_get}
use Rattle.std.proofs.lemmas.List.{set-get_or}
use Rattle.circular_buffer.proofs.Places.{slice_get-some}
use Rattle.hum_score.specs.Row.{Row}
use Rattle.hum_stage.specs.declared.faults.End.{End}
use Rattle.hum_stage.specs.declared.contract.Stage.{Ghosts as Stage}
use Rattle.hum_turns.specs.Flow.{Flow}
use Rattle.hum_turns.specs.Plan.{last}
use Rattle.hum_turns.specs.Links.{view, has_some}
use Rattle.hum_turns.specs.Turns.{State, Gives, Takes, Ends, popped, pushed, can, state}
use Rattle.hum_turns.proofs.States.{gives_more}
use Rattle.hum_nodes.specs.Doing as does
use Rattle.hum_nodes.specs.At.{At, output_of, after_change, HasTaken, MayChange}
use Rattle.hum_nodes.specs.declared.node.Node.{Node}
use Rattle.hum_nodes.specs.Nodes.{is_source, StandsAs}
use Rattle.hum_engine.specs.declared.link.Link as port
use Rattle.hum_engine.specs.declared.link.Taken.{Taken}
use Rattle.hum_engine.specs.Links.{IsLink, Goes, Tells, room, taken_of}
use Rattle.hum_engine.specs.Traffic.{ended}
use Rattle.hum_engine.specs.declared.web.Web.{Web}
use Rattle.hum_engine.specs.Scene.{Scene, plan_of, moved, at_of, NodesStand, LinksStand, Stands, Done, IsAt, MayAct, Keeps}
use Rattle.hum_engine.proofs.Moving.{Did, did_end, did_give, nth, set_cases, set_other}
use Rattle.hum_engine.proofs.Polling.{done_end, state_gives, state_at}
use Rattle.hum_engine.proofs.Feeding.{room_same, link_at, node_of}
use Rattle.hum_engine.proofs.Stepping.{has_done}
use Rattle.hum_engine.proofs.Taking.{did_sink, did_take, left, may_change, wants_at}

module _ {S R : Type 0} (stage : Stage S) (k : ℕ) (doing : State) (old new : Web S R) (s : Scene) where
  pub done_by : Stands stage old s → (nodes : List (Node S R)) (links : List port.Link)
      → length nodes ≡ length old.nodes.items → length links ≡ length old.links.items
      → Did stage s k doing s.links nodes links
      → new.nodes.items ≡ nodes → new.links.items ≡ links → Done stage k doing new s
  done_by st nodes links n l d en el = record {
    new = d.new;
    does = d.does;
    stand = record {
      count = ap length en ∙ n ∙ st.count;
      as_many = ap length el ∙ l ∙ st.as_many;
      nodes = subst (NodesStand stage (moved s d.new)) (sym en) d.at_nodes;
      links = subst (LinksStand s.size d.new) (sym el) d.at_links;
    };
  }

-- The sink.

module _ {S R : Type 0} {stage : Stage S} {old : Web S R} {s : Scene} {n : ℕ} {link : port.Link} (at : IsAt stage old s)
    (many : n ≡ length old.links.items) (value : link ≡ get_or old.links.items (n - 1) link) where
  is_last : n - 1 ≡ last (plan_of s)
  is_last = rw sub-one (ap pred (many ∙ at.stand.as_many))

  last_there : slice_get old.links.items (n - 1) ≡ Some link
  last_there = grind (arith, nat_tests, nth)

  pub sunk : {new : Web S R} (after : port.Link) → Goes link after (λ l. popped l l.waiting)
      → new.nodes.items ≡ old.nodes.items → new.links.items ≡ slice_set old.links.items (n - 1) after
      → Done stage s.count (Takes (last (plan_of s))) new s
  sunk {new} after goes en el =
      let st = at.stand in
      subst (λ i. Done stage s.count (Takes i) new s) is_last
      (done_by stage s.count (Takes (n - 1)) old new s st _ _ refl (length-set old.links.items (n - 1) after)
      (did_sink s (n - 1) stage old.nodes.items old.links.items st.nodes st.links st.count link after
      last_there goes at.reached.ok is_last) en el)

  pub told_taken : {answer : Taken} → Tells link answer (λ size l. taken_of l.waiting l.mark)
      → answer ≡ taken_of (s.links (last (plan_of s))).waiting (s.links (last (plan_of s))).mark
  told_taken tells = rw is_last at (tells s.size (s.links (n - 1)) (at.stand.links (n - 1) link last_there))

  pub told_end : {answer : Option End} → Tells link answer (λ size l. l.heard)
      → answer ≡ (s.links (last (plan_of s))).heard
  told_end tells =
      tells s.size (s.links (n - 1)) (at.stand.links (n - 1) link last_there) ∙ ap (λ i. (s.links i).heard) is_last

-- A stage sets its end.

set_same : {X : Type 0} (xs : List X) (i : ℕ) (x : X) → slice_get xs i ≡ Some x → slice_set xs i x ≡ xs
set_same xs i x h = ap (slice_set xs i) (sym (get_or_from_slice_get xs i x x h)) ∙ set-get_or xs i x

pub finished : {S R : Type 0} {stage : Stage S} {k : ℕ} {old new : Web S R} {s : Scene}
    {e : End} {link : port.Link} (after : port.Link) → MayAct stage k (does.Done e) old s
    → slice_get old.links.items k ≡ Some link → Goes link after (ended e) → new.nodes.items ≡ old.nodes.items
    → new.links.items ≡ slice_set old.links.items k after → Done stage k Ends new s
finished {S} {R} {stage} {k} {old} {new} {s} {e} {link} after may at goes en el =
    let st = may.about.actor.at.stand in
    let node = node_of stage k old s may.about.actor.less st in
    done_by stage k Ends old new s st _ _ (length-set old.nodes.items k node.0) (length-set old.links.items k after)
    (did_end stage s k s.links old.nodes.items old.links.items (λ i y o g. st.nodes i y g) st.links node.0 after e
    (done_end s s.links k e may.about.does) (st.nodes k node.0 node.1) (goes s.size (s.links k) (st.links k link at)))
    (en ∙ sym (set_same old.nodes.items k node.0 node.1)) el

-- A stage gives.

pub keeps : {S R : Type 0} {k : ℕ} {old new : Web S R} (node : Node S R) → is_source node ≡ false
    → new.nodes.items ≡ slice_set old.nodes.items k node → Keeps k old new
keeps = grind (arith, nat_tests, slice_get, set_other, set_cases)

module _ {S R : Type 0} {stage : Stage S} {k : ℕ} {old : Web S R} {s : Scene} (may : MayAct stage k does.Gives old s) where
  pub gives_room : {link : port.Link} → link ≡ get_or old.links.items k link → room link ≡ true
  gives_room e =
      room_same k may.about.actor.at.stand (link_at may.about.actor.less may.about.actor.at.stand e)
      ∙ sym (ap (can s.size s.links k) (state_gives s s.links k may.about.actor.less may.about.does)) ∙ may.can

  module _ {node : Node S R} {o : Option Row} (after : Node S R) (at_node : slice_get old.nodes.items k ≡ Some node)
      (taken : (rest : List ℕ) → HasTaken (StandsAs stage.stands node rest) (StandsAs stage.stands after rest) o) where
    pub gave : {new : Web S R} {link : port.Link} {x : Row} (put : port.Link)
        → slice_get old.links.items k ≡ Some link → o ≡ Some x → Goes link put (λ l. pushed l x)
        → new.nodes.items ≡ slice_set old.nodes.items k after
        → new.links.items ≡ slice_set old.links.items k put → Done stage k Gives new s
    gave {new} {link} {x} put at_link is goes en el =
        let st = may.about.actor.at.stand in
        let t = at_of s.kinds s.links k in
        let h = rw is at (taken (s.rests k) t (st.nodes k node at_node)) in
        done_by stage k Gives old new s st _ _ (length-set old.nodes.items k after) (length-set old.links.items k put)
        (did_give stage s k s.links old.nodes.items old.links.items (λ i y o g. st.nodes i y g) st.links
        after put x (sym h.0) h.1 (goes s.size (s.links k) (st.links k link at_link))) en el

    -- it has something to give
    pub gives_some : (x : Row) × (o ≡ Some x)
    gives_some =
        let t = at_of s.kinds s.links k in
        let more = gives_more (plan_of s) s.links k (state_gives s s.links k may.about.actor.less may.about.does) in
        let next = slice_get-some (output_of t) t.given more in
        (next.0, (taken (s.rests k) t (may.about.actor.at.stand.nodes k node at_node)).0 ∙ next.1)

-- A stage takes from this link, at this place.
pub record Passing {S R : Type 0} (stage : Stage S) (k place : ℕ) (old : Web S R)
    (s : Scene) (i : ℕ) (link : port.Link) : Type 0 where
  pub may : MayAct stage k (does.Wants place) old s
  pub at : slice_get (s.kinds k).stage.sources place ≡ Some i
  pub index : i ≡ slice_index (s.kinds k).stage.sources place
  pub lower : i < k
  pub some : has_some (s.links i) ≡ true
  pub at_link : slice_get old.links.items i ≡ Some link

module _ {S R : Type 0} {stage : Stage S} {k place : ℕ} {old : Web S R} {s : Scene} {i : ℕ} {link : port.Link} where
  pub passing : MayAct stage k (does.Wants place) old s → i ≡ slice_index (s.kinds k).stage.sources place
      → link ≡ get_or old.links.items i link → Passing stage k place old s i link
  passing may e value =
      let w = wants_at s k place may.about.actor.at.reached.ok may.about.actor.less may.about.does in
      record {
        may = may;
        at = w.is_there ∙ ap Some (sym e);
        index = e;
        lower = rw e w.lower;
        some = rw e (sym (ap (can s.size s.links k) (state_at s s.links k may.about.actor.less may.about.does)) ∙ may.can);
        at_link = nth old.links.items i link (omega (arith, w.lower, may.about.actor.at.stand.as_many, may.about.actor.less, e)) value;
      }

  pub link_here : Passing stage k place old s i link → IsLink s.size link (s.links i)
  link_here w = w.may.about.actor.at.stand.links i link w.at_link

  module _ {change : Flow Row → Flow Row} (w : Passing stage k place old s i link)
      (v : view (left s i) ≡ change (view (s.links i))) where
    pub may_take : MayChange (at_of s.kinds s.links k) change place
    may_take = grind (arith, nat_tests, may_change)

    pub passed : {new : Web S R} {node : Node S R} (after : Node S R) (put : port.Link)
        → slice_get old.nodes.items k ≡ Some node
        → ((rest : List ℕ) (t : At) → StandsAs stage.stands node rest t → MayChange t change place
        → StandsAs stage.stands after rest (after_change change place t))
        → Goes link put (λ l. popped l l.waiting)
        → new.nodes.items ≡ slice_set old.nodes.items k after
        → new.links.items ≡ slice_set old.links.items i put
        → Done stage k (state (plan_of s) s.links k) new s
    passed {new} {node} after put at_node puts goes en el =
        let st = w.may.about.actor.at.stand in
        has_done (state_at s s.links k w.may.about.actor.less w.may.about.does)
        (subst (λ j. Done stage k (Takes j) new s) w.index
        (done_by stage k (Takes i) old new s st _ _ (length-set old.nodes.items k after) (length-set old.links.items i put)
        (did_take s i stage old.nodes.items old.links.items st.nodes st.links st.count link put
        w.at_link goes k place after change w.may.about.actor.at.reached.tree w.may.about.actor.less w.lower w.at v
        (puts (s.rests k) (at_of s.kinds s.links k) (st.nodes k node at_node) may_take))
        en el))

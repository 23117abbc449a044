-- A turn of a source.
use Rattle.std.proofs.lemmas.Bool.Decides.{nat_tests}
use Rattle.std.proofs.Common.{◌≡◌, ℕ, ◌+◌, ◌<◌, ◌≤◌, true, List, Some, slice_get}
use Rattle.std.proofs.Common.{slice_set, slice_index, refl, sym, ◌∙◌, subst, ⊎_elim, inl, arith, lt-ltb}
use Rattle.std.proofs.lemmas.Bool.{cond-true}
use Rattle.std.proofs.lemmas.Option.{slice_get_within}
use Rattle.hum_score.specs.Row.{Row}
use Rattle.hum_stage.specs.declared.faults.End.{End}
use Rattle.hum_stage.specs.declared.contract.Stage.{Ghosts as Stage}
use Rattle.hum_turns.specs.Plan.{end_of}
use Rattle.hum_turns.specs.Links.{Moment}
use Rattle.hum_turns.specs.Turns.{State, Gives, Reads, Takes, Ends, state, ready, Step}
use Rattle.hum_turns.specs.Turns.{pushed}
use Rattle.hum_turns.proofs.States.{state_is}
use Rattle.hum_turns.proofs.Near.{step_does, step_reads}
use Rattle.hum_nodes.specs.Doing.{Doing}
use Rattle.hum_nodes.specs.Doing as does
use Rattle.hum_read.specs.Reading.{Polled, Gave, ReadOn, Ended}
use Rattle.hum_nodes.specs.At.{doing_of, output_of, read_to}
use Rattle.hum_nodes.specs.Polls.{GoesOn, PollsBy, Polls}
use Rattle.hum_nodes.specs.Nodes.{StandsAs}
use Rattle.hum_nodes.specs.declared.node.Node.{Node}
use Rattle.hum_engine.specs.declared.link.Link as port
use Rattle.hum_engine.specs.Links.{Goes}
use Rattle.hum_engine.specs.Traffic.{ended}
use Rattle.hum_engine.specs.Scene.{Scene, plan_of, moved, at_of, NodesStand, LinksStand}
use Rattle.hum_engine.proofs.Moving.{OthersStand, Did, did_give, did_end, has_read, nodes_set, ins_of}

-- The state that goes with what a node does.

abbrev pub state_for : List ℕ → Doing → State
state_for ss does.Gives = Gives
state_for ss does.Reads = Reads
state_for ss (does.Wants p) = Takes (slice_index ss p)
state_for ss (does.Done e) = Ends

module _ (s : Scene) (m : Moment Row) (k : ℕ) where
  pub state_at : {d : Doing} → k < s.count → doing_of (at_of s.kinds m k) ≡ d
      → state (plan_of s) m k ≡ state_for (s.kinds k).stage.sources d
  state_at less e = grind (arith, state_is (plan_of s) m k less, e)

  pub state_gives : k < s.count → doing_of (at_of s.kinds m k) ≡ does.Gives → state (plan_of s) m k ≡ Gives
  state_gives less e = state_at less e

pub done_end : (s : Scene) (m : Moment Row) (k : ℕ) (f : End)
    → doing_of (at_of s.kinds m k) ≡ does.Done f
    → f ≡ end_of (s.kinds k).stage (m k).read (ins_of s.kinds m k)
done_end s m k f h = grind (arith, h)

-- What a source makes of what it has read.

-- what a poll has made of the link of its source, and of all links
abbrev pub LinkGoes : Polled → port.Link → port.Link → Type 0
LinkGoes (Gave row) link after = Goes link after (λ l. pushed l row)
LinkGoes ReadOn link after = Unit {0}
LinkGoes (Ended e) link after = Goes link after (ended e)

abbrev pub links_by : Polled → List port.Link → ℕ → port.Link → List port.Link
links_by (Gave row) links k after = slice_set links k after
links_by ReadOn links k after = links
links_by (Ended e) links k after = slice_set links k after

-- An actor has had a turn.
pub record Turned {S R : Type 0} (stage : Stage S) (s : Scene) (k : ℕ)
    (nodes : List (Node S R)) (links : List port.Link) : Type 0 where
  pub new : Moment Row
  pub step : Step (plan_of s) s.size k s.links new
  pub at_nodes : NodesStand stage (moved s new) nodes
  pub at_links : LinksStand s.size new links

module _ {S R : Type 0} (stage : Stage S) (s : Scene) (k : ℕ) (nodes : List (Node S R)) (links : List port.Link)
    (less : k < s.count) (node : Node S R) (link after : port.Link) (at_link : slice_get links k ≡ Some link) where
  -- it goes on by what has settled: the link of the source has this record more, or its end
  moves_on : (p : Polled) (m : Moment Row) → OthersStand stage s k m nodes
      → LinksStand s.size m links
      → GoesOn (at_of s.kinds m k) p (StandsAs stage.stands node (s.rests k)) → LinkGoes p link after
      → Did stage s k (state (plan_of s) m k) m (slice_set nodes k node) (links_by p links k after)
  moves_on (Gave row) m others hl h l =
      let t = at_of s.kinds m k in
      let n = slice_get_within (output_of t) t.given row h.0 in
      rw (state_gives s m k less (cond-true _ _ _ (lt-ltb _ _ n)))
      (did_give stage s k m nodes links others hl node after row h.0 h.1 (l s.size (m k) (hl k link at_link)))
  moves_on ReadOn m others hl h l = absurd h
  moves_on (Ended e) m others hl h l =
      rw (state_at s m k less h.0)
      (did_end stage s k m nodes links others hl node after e (done_end s m k e h.0) h.1 (l s.size (m k) (hl k link at_link)))

  module _ (others : OthersStand stage s k s.links nodes) (hl : LinksStand s.size s.links links)
      (is_ready : ready (plan_of s) s.size s.links k ≡ true) where
    -- where it doesn't read
    at_once : (p : Polled) → (state (plan_of s) s.links k ≡ Reads → ⊥)
        → GoesOn (at_of s.kinds s.links k) p (StandsAs stage.stands node (s.rests k)) → LinkGoes p link after
        → Turned stage s k (slice_set nodes k node) (links_by p links k after)
    at_once p other h l =
        let d = moves_on p s.links others hl h l in
        record {
          new = d.new;
          step = grind (arith, nat_tests, step_does);
          at_nodes = d.at_nodes;
          at_links = d.at_links;
        }

    -- where it reads the end and goes on
    reads_on : (p : Polled) (n : ℕ) → (s.links k).read < n → n ≤ (s.kinds k).stage.bytes
        → (s.links k).read + 1 ≡ (s.kinds k).stage.bytes → doing_of (at_of s.kinds s.links k) ≡ does.Reads
        → GoesOn (read_to n (at_of s.kinds s.links k)) p (StandsAs stage.stands node (s.rests k))
        → LinkGoes p link after
        → Turned stage s k (slice_set nodes k node) (links_by p links k after)
    reads_on p n more within last e h l =
        let r = has_read stage s k s.links nodes links others hl n in
        let d = moves_on p r.mid r.near r.at_links
        (subst (λ t. GoesOn t p (StandsAs stage.stands node (s.rests k))) (sym r.at) h) l in
        record {
          new = d.new;
          step = grind (arith, nat_tests, step_reads, state_at);
          at_nodes = d.at_nodes;
          at_links = d.at_links;
        }

    -- where it reads and leaves the rest to the next turn
    reads_only : (n : ℕ) → (s.links k).read < n → n < (s.kinds k).stage.bytes
        → doing_of (at_of s.kinds s.links k) ≡ does.Reads
        → StandsAs stage.stands node (s.rests k) (read_to n (at_of s.kinds s.links k))
        → Turned stage s k (slice_set nodes k node) links
    reads_only n more less_than e h =
        let r = has_read stage s k s.links nodes links others hl n in
        record {
          new = r.mid;
          step = record {
            within = omega (arith, less);
            is_ready = is_ready;
            turns = rw (state_at s s.links k less e) (record {
              between = r.mid;
              reads = record { upto = n; more = more; within = omega (arith, less_than); becomes = r.becomes };
              does = inl (less_than, λ i. refl);
            });
          };
          at_nodes = nodes_set stage s r.mid nodes k node r.near (subst (StandsAs stage.stands node (s.rests k)) (sym r.at) h);
          at_links = r.at_links;
        }

    by_doing : (p : Polled) (d : Doing) → doing_of (at_of s.kinds s.links k) ≡ d
        → PollsBy d (at_of s.kinds s.links k) p (StandsAs stage.stands node (s.rests k)) → LinkGoes p link after
        → Turned stage s k (slice_set nodes k node) (links_by p links k after)
    by_doing p does.Reads e h l =
        ⊎_elim
        (λ goes. reads_on p h.upto h.more h.within goes.0 e goes.1 l)
        (λ stays. subst (λ q. Turned stage s k (slice_set nodes k node) (links_by q links k after)) (sym stays.0)
        (reads_only h.upto h.more stays.1 e stays.2))
        h.goes
    by_doing p does.Gives e h l = at_once p (λ r. let w = sym (state_at s s.links k less e) ∙ r in cc) h l
    by_doing p (does.Wants place) e h l = at_once p (λ r. let w = sym (state_at s s.links k less e) ∙ r in cc) h l
    by_doing p (does.Done end) e h l = at_once p (λ r. let w = sym (state_at s s.links k less e) ∙ r in cc) h l

    pub polls : (p : Polled)
        → Polls (at_of s.kinds s.links k) p (StandsAs stage.stands node (s.rests k)) → LinkGoes p link after
        → Turned stage s k (slice_set nodes k node) (links_by p links k after)
    polls p h l = by_doing p (doing_of (at_of s.kinds s.links k)) refl h l

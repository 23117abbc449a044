-- What a web tells of who is ready.
use Rattle.std.proofs.lemmas.Bool.Decides.{nat_tests}
use Rattle.std.proofs.Common.{◌≡◌, ◌∙◌, ℕ, ◌<◌, Bool, true, false, length, Some, ◌&&◌, is_none, is_some, ◌||◌, nat_lt}
use Rattle.std.proofs.Common.{None, sym, ap, ap₂, arith, slice_get, slice_index, get_or}
use Rattle.hum_stage.specs.declared.contract.Stage.{Ghosts as Stage}
use Rattle.hum_turns.specs.Links.{has_room, has_some}
use Rattle.hum_turns.specs.Turns.{state, can, ready}
use Rattle.hum_turns.proofs.Near.{ready_reader}
use Rattle.hum_turns.proofs.States.{wanted}
use Rattle.hum_stage.specs.declared.faults.End.{End}
use Rattle.hum_nodes.specs.Doing.{Doing}
use Rattle.hum_nodes.specs.Doing as does
use Rattle.hum_nodes.specs.declared.node.Node.{Node}
use Rattle.hum_nodes.specs.Nodes.{is_source}
use Rattle.hum_engine.specs.declared.link.Link as port
use Rattle.hum_engine.specs.Links.{Tells}
use Rattle.hum_engine.specs.declared.web.Web.{Web}
use Rattle.hum_engine.specs.Scene.{Scene, plan_of, at_of, IsAt, IsAbout, IsActor, HasActor, IsKind, HasRoom, MayTurn}
use Rattle.hum_engine.specs.Scene.{Somewhere, Stands}
use Rattle.hum_engine.proofs.Moving.{nth}
use Rattle.hum_turns.specs.Near.{touched}
use Rattle.hum_engine.proofs.Polling.{state_gives, state_at}
use Rattle.hum_nodes.proofs.Standing.{source_bytes}
use Rattle.hum_engine.proofs.Feeding.{room_same, link_at, node_of, within}
use Rattle.hum_engine.proofs.Taking.{wants_at}

module _ {S R : Type 0} {stage : Stage S} {k : ℕ} {web : Web S R} {s : Scene} where
  pub room_gives : {link : port.Link} {b : Bool} → IsAbout stage k does.Gives web s
      → link ≡ get_or web.links.items k link → Tells link b has_room
      → b ≡ can s.size s.links k (state (plan_of s) s.links k)
  room_gives {link} a e tells =
      tells s.size (s.links k) (a.actor.at.stand.links k link (link_at a.actor.less a.actor.at.stand e))
      ∙ sym (ap (can s.size s.links k) (state_gives s s.links k a.actor.less a.does))

  pub unset_ends : {link : port.Link} {b : Bool} {end : End} → IsAbout stage k (does.Done end) web s
      → link ≡ get_or web.links.items k link → Tells link b (λ size l. is_none l.mark)
      → b ≡ can s.size s.links k (state (plan_of s) s.links k)
  unset_ends {link} {b} {end} a e tells =
      tells s.size (s.links k) (a.actor.at.stand.links k link (link_at a.actor.less a.actor.at.stand e))
      ∙ sym (ap (can s.size s.links k) (state_at s s.links k a.actor.less a.does))

  module _ {place i : ℕ} where
    pub within_links : IsAbout stage k (does.Wants place) web s
        → i ≡ slice_index (s.kinds k).stage.sources place → i < length web.links.items
    within_links a e = omega (arith, (wants_at s k place a.actor.at.reached.ok a.actor.less a.does).lower, a.actor.at.stand.as_many, a.actor.less, e)

    pub some_takes : {link : port.Link} {b : Bool} → IsAbout stage k (does.Wants place) web s
        → i ≡ slice_index (s.kinds k).stage.sources place → link ≡ get_or web.links.items i link
        → Tells link b (λ size l. nat_lt 0 (length l.waiting) || is_some l.mark)
        → b ≡ can s.size s.links k (state (plan_of s) s.links k)
    some_takes {link} a e value tells =
        let takes = state_at s s.links k a.actor.less a.does in
        let unheard : (s.links i).heard ≡ None = rw e (wanted (plan_of s) a.actor.at.reached.ok s.links k (slice_index (s.kinds k).stage.sources place) a.actor.less takes).unheard in
        let told = tells s.size (s.links i) (a.actor.at.stand.links i link (nth web.links.items i link (within_links a e) value)) in
        told ∙ grind (arith, unheard) ∙ ap (λ j. has_some (s.links j)) e ∙ sym (ap (can s.size s.links k) takes)

    pub touched_takes : IsAbout stage k (does.Wants place) web s
        → i ≡ slice_index (s.kinds k).stage.sources place → i ≡ touched k (state (plan_of s) s.links k)
    touched_takes a e = e ∙ sym (ap (touched k) (state_at s s.links k a.actor.less a.does))

  -- it never reads
  pub never : IsAbout stage k does.Reads web s → ⊥
  never = grind (arith, nat_tests)

  pub touched_gives : IsAbout stage k does.Gives web s → k ≡ touched k (state (plan_of s) s.links k)
  touched_gives a = sym (ap (touched k) (state_gives s s.links k a.actor.less a.does))

  pub touched_ends : {end : End} → IsAbout stage k (does.Done end) web s → k ≡ touched k (state (plan_of s) s.links k)
  touched_ends {end} a = sym (ap (touched k) (state_at s s.links k a.actor.less a.does))

  -- A link that has room has room in the plan.
  pub room_in : Stands stage web s → HasRoom k web → has_room s.size (s.links k) ≡ true
  room_in st r = sym (room_same k st r.its) ∙ r.room

  pub room_stage : IsAt stage web s → HasRoom k web → HasActor stage k web s
  room_stage at r = record { at = at; less = within web.links.items k s.count r.link at.stand.as_many r.its }

  -- An actor that isn't the sink is a stage.
  pub below : {n : ℕ} → IsActor stage k web s → n ≡ length web.nodes.items → (k ≡ n → ⊥) → HasActor stage k web s
  below a e other = record { at = a.at; less = omega (arith, a.within, a.at.stand.count, e, other) }

pub below_some : {S R : Type 0} {stage : Stage S} {k : ℕ} {web : Web S R} {n : ℕ}
    → Somewhere (IsActor stage k web) → n ≡ length web.nodes.items → (k ≡ n → ⊥) → Somewhere (HasActor stage k web)
below_some h e other = record { scene = h.scene; holds = below h.holds e other }

-- Of a source.

pub source_ready : {S R : Type 0} (stage : Stage S) (k : ℕ) (web : Web S R) (s : Scene)
    (node : Node S R) (link : port.Link) → IsAt stage web s → k < s.count
    → slice_get web.nodes.items k ≡ Some node → is_source node ≡ true
    → ready (plan_of s) s.size s.links k ≡ (is_none (s.links k).mark && has_room s.size (s.links k))
source_ready stage k web s node link at less there kind =
    ready_reader (plan_of s) s.size k s.links less
    (source_bytes stage.stands node (s.rests k) (at_of s.kinds s.links k) kind (at.stand.nodes k node there))

module _ {S R : Type 0} {stage : Stage S} {k : ℕ} {web : Web S R} {s : Scene} {a : Bool} {link : port.Link}
    (h : HasActor stage k web s) (kind : IsKind true k web)
    (e : link ≡ get_or web.links.items k link) (tells : Tells link a (λ size l. is_none l.mark)) where
  -- by whether its end is unset
  by_unset : ready (plan_of s) s.size s.links k ≡ (a && has_room s.size (s.links k))
  by_unset =
      let node = node_of stage k web s h.less h.at.stand in
      rw (tells s.size (s.links k) (h.at.stand.links k link (link_at h.less h.at.stand e)))
      (source_ready stage k web s node.0 link h.at h.less node.1 (kind node.0 node.1))

  pub by_room : {b : Bool} {one : port.Link} → a ≡ true → one ≡ get_or web.links.items k one → Tells one b has_room
      → b ≡ ready (plan_of s) s.size s.links k
  by_room {one = one} set f told =
      grind (arith, told s.size (s.links k) (h.at.stand.links k one (link_at h.less h.at.stand f)), by_unset, set)

  pub by_mark : a ≡ false → a ≡ ready (plan_of s) s.size s.links k
  by_mark unset = grind (arith, by_unset, unset)

  -- one whose end isn't set, and whose link has room, is ready
  pub source_turn : HasRoom k web → a ≡ true → MayTurn stage k web s
  source_turn room set =
      record { actor = h; ready = by_unset ∙ ap₂ (λ c d. c && d) set (room_in h.at.stand room) }

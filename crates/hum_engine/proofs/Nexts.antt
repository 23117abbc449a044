-- What a stage that isn't a source gives or takes next.
use Rattle.std.proofs.lemmas.Bool.Decides.{nat_tests}
use Rattle.std.proofs.lemmas.Option.{same_Some}
use Rattle.std.proofs.Common.{◌≡◌, ◌∙◌, ◌<◌, ℕ, length, true, false, List, [], Some, arith}
use Rattle.std.proofs.Common.{slice_get, slice_set, slice_index, get_or, refl, sym, ap}
use Rattle.hum_stage.specs.declared.contract.Stage.{Ghosts as Stage}
use Rattle.hum_turns.specs.Links.{view}
use Rattle.hum_engine.specs.Scene.{Scene, plan_of, at_of, IsAt, IsKind, IsAbout}
use Rattle.hum_engine.specs.Scene.{IsActor, HasActor, MayAct, MayTurn, Done, HasRoom, GivesAhead}
use Rattle.hum_engine.proofs.Acting.{gave, passing, Passing, link_here, may_take}
use Rattle.hum_engine.proofs.Readying.{room_in, room_stage, some_takes, within_links, touched_gives}
use Rattle.hum_score.specs.Row.{Row}
use Rattle.hum_turns.specs.Flow.{Flow}
use Rattle.hum_turns.specs.Turns.{can, ready, state, pushed}
use Rattle.hum_turns.specs.Near.{touched}
use Rattle.hum_nodes.specs.At.{sources_of, readiness_of, At, doing_of, HasTaken, MayDo, MayChange}
use Rattle.hum_nodes.specs.Doing as does
use Rattle.hum_nodes.specs.Nodes.{StandsAs, is_source, gives_ahead, readiness_at, readiness_in}
use Rattle.hum_nodes.specs.declared.node.Node.{Node}
use Rattle.hum_stage.specs.declared.faults.Readiness.TheVariants as kinds
use Rattle.hum_nodes.proofs.Standing.{any_rest, stage_bytes}
use Rattle.hum_engine.specs.declared.link.Link as port
use Rattle.hum_engine.specs.declared.web.Web.{Web}
use Rattle.hum_engine.specs.Links.{IsLink, Goes, Tells, is_some_of, taken_of}
use Rattle.hum_engine.specs.declared.link.Taken.{Taken}
use Rattle.hum_engine.proofs.Doings.{wants_of}
use Rattle.hum_engine.proofs.Feeding.{node_at}
use Rattle.hum_engine.proofs.Polling.{state_gives}
use Rattle.hum_engine.proofs.Stepping.{has_done}
use Rattle.hum_engine.proofs.Taking.{left}
use Rattle.hum_engine.proofs.Tried.{tells_some}
use Rattle.hum_engine.proofs.Turning.{stage_ready, one_kind, acting, turn_of}

-- A stage that has taken a record ahead, and whose link has room: it gives next, and can.
pub record IsAhead {S R : Type 0} (stage : Stage S) (k : ℕ) (web : Web S R) (node : Node S R) : Type 0 where
  pub there : slice_get web.nodes.items k ≡ Some node
  pub kind : is_source node ≡ false
  pub may : (s : Scene) → IsAt stage web s → MayAct stage k does.Gives web s

module _ {S R : Type 0} {stage : Stage S} {k : ℕ} {web : Web S R} {node : Node S R} {s : Scene} where
  pub ahead_at : HasActor stage k web s → node ≡ get_or web.nodes.items k node → gives_ahead node ≡ true
      → GivesAhead k web
  ahead_at h value is n at = rw (same_Some n _ (sym at ∙ node_at h.less h.at.stand value)) is

  -- it is about to give
  pub ahead_about : HasActor stage k web s → node ≡ get_or web.nodes.items k node
      → ((rest : List ℕ) (t : At) → StandsAs stage.stands node rest t → (is_source node ≡ false) × (doing_of t ≡ does.Gives))
      → IsAbout stage k does.Gives web s
  ahead_about h value gives =
      let stand = h.at.stand.nodes k node (node_at h.less h.at.stand value) in
      let g = gives _ _ stand in
      record { actor = h; bytes = stage_bytes stage.stands node (s.rests k) _ g.0 stand; does = g.1 }

  pub ahead : IsAt stage web s → HasRoom k web → node ≡ get_or web.nodes.items k node
      → ((rest : List ℕ) (t : At) → StandsAs stage.stands node rest t → (is_source node ≡ false) × (doing_of t ≡ does.Gives))
      → IsAhead stage k web node
  ahead at room value gives =
      let there = node_at (room_stage at room).less at.stand value in
      let kind = (gives _ _ (at.stand.nodes k node there)).0 in
      record {
        there = there;
        kind = kind;
        may = λ u here.
            let less = (room_stage here room).less in
            let stand = here.stand.nodes k node there in
            let h = gives _ _ stand in
            record {
              about = grind (arith, nat_tests, stage_bytes);
              can = ap (can u.size u.links k) (state_gives u u.links k less h.1) ∙ room_in here.stand room;
            };
      }

  pub ahead_turn : IsAhead stage k web node → IsAt stage web s → MayTurn stage k web s
  ahead_turn a at = let may = a.may s at in turn_of may.about may.can

  pub ahead_touches : IsAhead stage k web node → IsActor stage k web s
      → k ≡ touched k (state (plan_of s) s.links k)
  ahead_touches a actor = touched_gives (a.may s actor.at).about

  -- the record lies on its link then
  pub ahead_done : {new : Web S R} {row : Row} {link : port.Link} (after : Node S R) (put : port.Link)
      → IsAhead stage k web node → slice_get web.links.items k ≡ Some link
      → ((rest : List ℕ) → HasTaken (StandsAs stage.stands node rest) (StandsAs stage.stands after rest) (Some row))
      → Goes link put (λ l. pushed l row) → new.nodes.items ≡ slice_set web.nodes.items k after
      → new.links.items ≡ slice_set web.links.items k put
      → MayTurn stage k web s → Done stage k (state (plan_of s) s.links k) new s
  ahead_done after put a its taken goes en el turn =
      let may = a.may s turn.actor.at in
      has_done (state_gives s s.links k may.about.actor.less may.about.does) (gave may after a.there taken put its refl goes en el)

pub ahead_kind : {S R : Type 0} {stage : Stage S} {k : ℕ} {web : Web S R} {node : Node S R}
    → IsAhead stage k web node → IsKind false k web
ahead_kind {k = k} {web = web} a = one_kind k web a.there a.kind

-- Stage k takes from the link of this stage next, at some place.
pub record WantsFrom {S R : Type 0} (stage : Stage S) (k source : ℕ) (web : Web S R) : Type 0 where
  pub node : Node S R
  pub is : slice_get web.nodes.items k ≡ Some node
  pub kind : is_source node ≡ false
  pub wants : (rest : List ℕ) (t : At) → StandsAs stage.stands node rest t
      → (place : ℕ) × (doing_of t ≡ does.Wants place)
  pub from : (rest : List ℕ) (t : At) (place : ℕ) → StandsAs stage.stands node rest t → doing_of t ≡ does.Wants place
      → source ≡ slice_index (sources_of t) place

-- At one moment it does, so it does whatever else the web stands for.
pub wanting : {S R : Type 0} {stage : Stage S} {k place source : ℕ} {web : Web S R} {s : Scene}
    {node : Node S R} → IsAbout stage k (does.Wants place) web s → IsKind false k web
    → node ≡ get_or web.nodes.items k node
    → (is_source node ≡ false → (rest : List ℕ) (t : At) (place : ℕ) → StandsAs stage.stands node rest t
    → doing_of t ≡ does.Wants place → source ≡ slice_index (sources_of t) place)
    → WantsFrom stage k source web
wanting {stage = stage} {k = k} {web = web} {s = s} {node = node} a stage_kind value from =
    let there : slice_get web.nodes.items k ≡ Some node = node_at a.actor.less a.actor.at.stand value in
    let kind = stage_kind node there in
    let knows : readiness_in node.ahead node.behind ≡ kinds.Wants =
    (a.actor.at.stand.nodes k node there).knows ∙ ap (λ b. readiness_at b (doing_of (at_of s.kinds s.links k))) kind
    ∙ ap readiness_of a.does in
    record {
      node = node;
      is = there;
      kind = kind;
      wants = grind (arith, nat_tests, wants_of);
      from = from kind;
    }

-- What is taken from its source changes its input by this.
abbrev pub Changes : port.Link → ℕ → (Flow Row → Flow Row) → Type 0
Changes link source change =
    (s : Scene) → IsLink s.size link (s.links source) → view (left s source) ≡ change (view (s.links source))

module _ {S R : Type 0} {stage : Stage S} {k source : ℕ} {web : Web S R} (w : WantsFrom stage k source web) where
  pub next_kind : IsKind false k web
  next_kind = one_kind k web w.is w.kind

  module _ {s : Scene} (h : HasActor stage k web s) where
    abbrev standing : StandsAs stage.stands w.node (s.rests k) (at_of s.kinds s.links k)
    standing = h.at.stand.nodes k w.node w.is

    abbrev pub next_place : ℕ
    next_place = (w.wants (s.rests k) _ standing).0

    pub next_about : IsAbout stage k (does.Wants next_place) web s
    next_about = grind (arith, nat_tests, stage_bytes stage.stands w.node (s.rests k) _ w.kind standing)

    pub next_source : source ≡ slice_index (s.kinds k).stage.sources next_place
    next_source = w.from (s.rests k) _ next_place standing next_about.does

    pub next_within : source < length web.links.items
    next_within = within_links next_about next_source

  -- It tries to take what is there.
  module _ {link : port.Link} {answer : Taken} (value : link ≡ get_or web.links.items source link)
      (told : Tells link answer (λ size l. taken_of l.waiting l.mark)) where
    pub trying_able : {s : Scene} → HasActor stage k web s
        → is_some_of answer ≡ ready (plan_of s) s.size s.links k
    trying_able h =
        some_takes (next_about h) (next_source h) value (tells_some told) ∙ sym (stage_ready (next_about h))

    pub takes : is_some_of answer ≡ true → {s : Scene} → (h : HasActor stage k web s)
        → Passing stage k (next_place h) web s source link
    takes some h = passing (acting (next_about h) (sym (trying_able h) ∙ some)) (next_source h) value

    pub trying_may : {s : Scene} {node : Node S R} {change : Flow Row → Flow Row} → HasActor stage k web s
        → node ≡ get_or web.nodes.items k node → is_some_of answer ≡ true → Changes link source change
        → (place : ℕ) × MayDo (StandsAs stage.stands node []) (λ t. MayChange t change place)
    trying_may {s} {node} h e some changes =
        let there : slice_get web.nodes.items k ≡ Some node = node_at h.less h.at.stand e in (
          next_place h,
          record {
            at = at_of s.kinds s.links k;
            stand = any_rest stage.stands node (next_kind node there) (s.rests k) [] _ (h.at.stand.nodes k node there);
            holds = may_take (takes some h) (changes s (link_here (takes some h)));
          },
        )

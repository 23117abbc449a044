-- What the turn of a stage tells.
use Rattle.std.proofs.lemmas.Bool.Decides.{nat_tests}
use Rattle.std.proofs.Common.{◌≡◌, ◌∙◌, ℕ, Bool, true, false, List, Some, Ok, Err, refl, sym, ap, slice_get}
use Rattle.std.proofs.Common.{Result, slice_set, get_or, is_none, ◌<◌, arith}
use Rattle.hum_text.specs.declared.calls.Source.{Ghosts as Source}
use Rattle.hum_score.specs.Row.{Row}
use Rattle.hum_stage.specs.declared.contract.Stage.{Ghosts as Stage}
use Rattle.hum_read.specs.declared.ReadError.{ReadError}
use Rattle.hum_read.specs.declared.ReadError.TheVariants as error
use Rattle.hum_turns.specs.Flow.{Flow}
use Rattle.hum_turns.specs.Links.{has_room}
use Rattle.hum_turns.specs.Turns.{Gives, popped, can, ready, state}
use Rattle.hum_turns.specs.Near.{touched}
use Rattle.hum_nodes.specs.At.{HasChanged}
use Rattle.hum_nodes.specs.Doing as does
use Rattle.hum_nodes.specs.Nodes.{StandsAs, is_source}
use Rattle.hum_nodes.specs.declared.node.Node.{Node}
use Rattle.hum_stage.specs.declared.faults.Readiness.{Readiness}
use Rattle.hum_stage.specs.declared.faults.Readiness.TheVariants as kinds
use Rattle.hum_engine.specs.declared.web.Web.{Web}
use Rattle.hum_engine.specs.declared.link.Link as port
use Rattle.hum_engine.specs.declared.link.Taken.{Taken}
use Rattle.hum_engine.specs.Links.{Goes, Tells, is_some_of, room, taken_of}
use Rattle.hum_engine.specs.Scene.{Scene, plan_of, IsActor, HasActor, IsAbout, IsAboutKind, IsDoing, IsKind}
use Rattle.hum_engine.specs.Scene.{MayTurn, MayAct, Done, Keeps, HasRoom, Somewhere}
use Rattle.hum_engine.specs.declared.web.Moved.{Moved}
use Rattle.hum_engine.specs.declared.web.Moved.TheVariants as moves
use Rattle.hum_engine.specs.Told.{HasTold, HasActed, HasPolled, ComesTo, GivesOn}
use Rattle.hum_engine.proofs.Acting.{keeps, link_here, passed}
use Rattle.hum_engine.proofs.Doings.{about_by, done_about, gives_about, wants_about}
use Rattle.hum_engine.proofs.Feeding.{node_at}
use Rattle.hum_engine.proofs.Nexts.{Changes, WantsFrom, next_about, next_kind, next_place, next_source, takes}
use Rattle.hum_engine.proofs.Moving.{set_here}
use Rattle.hum_engine.proofs.Readying.{room_gives, touched_gives, touched_takes, unset_ends}
use Rattle.hum_engine.proofs.Polling.{state_gives}
use Rattle.hum_engine.proofs.Stepping.{has_done}
use Rattle.hum_engine.proofs.Turning.{acting, asks_no_one, stage_fed, stage_ready, stage_too, turn_of}

-- What is asked of a look whether it can do this.
abbrev pub MayCan : {S R : Type 0} → Stage S → ℕ → Web S R → Readiness → Type 0
MayCan stage k web r = record { about : Somewhere (IsAboutKind stage k r web); stage : IsKind false k web }

-- What follows from what a stage does next.
module _ {S R : Type 0} {stage : Stage S} {k : ℕ} {web : Web S R} where
  pub may_can : {r : Readiness} → IsDoing stage k web r → Somewhere (HasActor stage k web) → MayCan stage k web r
  may_can = grind (arith, nat_tests)

  pub may_try : IsDoing stage k web kinds.Wants → Somewhere (HasActor stage k web)
      → (place : ℕ) × Somewhere (IsAbout stage k (does.Wants place) web)
  may_try doing h = grind (arith, nat_tests, wants_about (doing.1 h.scene h.holds.at h.holds.less) refl)

  pub may_turn : (h : Somewhere (HasActor stage k web))
      → ready (plan_of h.scene) h.scene.size h.scene.links k ≡ true → Somewhere (MayTurn stage k web)
  may_turn h is = record { scene = h.scene; holds = record { actor = h.holds; ready = is } }

  module _ {b : Bool} {s : Scene} where
    pub can_ready : {r : Readiness} → IsDoing stage k web r → HasActor stage k web s
        → ((s : Scene) → IsAboutKind stage k r web s → b ≡ can s.size s.links k (state (plan_of s) s.links k))
        → b ≡ ready (plan_of s) s.size s.links k
    can_ready doing h tells = let a = doing.1 s h.at h.less in tells s a ∙ sym (stage_ready (about_by a refl))

    module _ {link : port.Link} where
      pub gives_ready : IsDoing stage k web kinds.Gives → HasActor stage k web s
          → link ≡ get_or web.links.items k link → Tells link b has_room → b ≡ ready (plan_of s) s.size s.links k
      gives_ready doing h e tells =
          let a = gives_about (doing.1 s h.at h.less) refl in room_gives a e tells ∙ sym (stage_ready a)

      pub ends_ready : IsDoing stage k web kinds.Done → HasActor stage k web s
          → link ≡ get_or web.links.items k link → Tells link b (λ size l. is_none l.mark)
          → b ≡ ready (plan_of s) s.size s.links k
      ends_ready doing h e tells =
          let a = (done_about (doing.1 s h.at h.less) refl).1 in unset_ends a e tells ∙ sym (stage_ready a)

module _ {S R : Type 0} {stage : Stage S} {reader : Source R} {k : ℕ} {old new : Web S R} where
  -- one that changes the stage's own link
  pub told_own : IsKind false k old → Keeps k old new → {here : Scene} → MayTurn stage k old here
      → ((s : Scene) → MayTurn stage k old s → Done stage k (state (plan_of s) s.links k) new s)
      → ((s : Scene) → IsActor stage k old s → k ≡ touched k (state (plan_of s) s.links k))
      → HasTold stage reader k old new (Ok k)
  told_own was keep may does touches = record {
    turned = stage_fed may was does keep;
    link = touches;
    read = λ h. cc;
    asked = asks_no_one was keep _ refl;
  }

  -- one that gives
  pub told_given : IsDoing stage k old kinds.Gives → Keeps k old new → Somewhere (MayTurn stage k old)
      → ((s : Scene) → MayAct stage k does.Gives old s → Done stage k Gives new s)
      → HasTold stage reader k old new (Ok k)
  told_given doing keep here given = told_own doing.0 keep here.holds
      (λ u turn.
      let may = acting (gives_about (doing.1 u turn.actor.at turn.actor.less) refl) turn.ready in
      has_done (state_gives u u.links k may.about.actor.less may.about.does) (given u may))
      (λ u actor.
      let h = stage_too here.holds.actor actor in touched_gives (gives_about (doing.1 u h.at h.less) refl))

  -- one that may be had in each scene tells what it tells in this one
  pub acted : {told : Result ℕ ReadError} → (h : Somewhere (HasActor stage k old))
      → ((s : Scene) → HasActor stage k old s → ready (plan_of s) s.size s.links k ≡ true)
      → (Somewhere (MayTurn stage k old) → HasTold stage reader k old new told) → HasActed stage reader k old new told
  acted h able tells = record { was_ready = able; tells = tells (may_turn h (able h.scene h.holds)) }

  -- one that ran out of memory
  pub told_out : IsKind false k old → Keeps k old new → HasTold stage reader k old new
      (Err error.Memory)
  told_out was keep =
      record { turned = tt; link = tt; read = λ h. cc; asked = asks_no_one was keep _ refl }

-- What the turn of a stage tells that has taken this from its source.
pub told_taken : {S R : Type 0} {stage : Stage S} {reader : Source R} {k source : ℕ} {web new : Web S R} {node : Node S R} {link : port.Link} {answer : Taken}
    {here : Scene} (change : Flow Row → Flow Row) (after : Node S R) (put : port.Link)
    → WantsFrom stage k source web → link ≡ get_or web.links.items source link
    → Tells link answer (λ size l. taken_of l.waiting l.mark)
    → HasActor stage k web here → node ≡ get_or web.nodes.items k node
    → is_some_of answer ≡ true → Changes link source change → is_source after ≡ false
    → ((rest : List ℕ) (place : ℕ) → HasChanged (StandsAs stage.stands node rest) (StandsAs stage.stands after rest) place change)
    → Goes link put (λ l. popped l l.waiting) → new.nodes.items ≡ slice_set web.nodes.items k after
    → new.links.items ≡ slice_set web.links.items source put
    → HasTold stage reader k web new (Ok source) × (source < k) × (room put ≡ true → HasRoom source new)
told_taken {S} {R} {stage} {k = k} {source = source} {web = web} {new = new} {node = node} {link = link} {here = here}
    change after put w value told h e some changes kind puts goes en el =
    let there : slice_get web.nodes.items k ≡ Some node = node_at h.less h.at.stand e in
    let keep : Keeps k web new = keeps after kind en in
    let p = takes w value told some h in (
      record {
        turned = stage_fed (turn_of (next_about w h) p.may.can) (next_kind w)
            (λ u turn.
            let q = takes w value told some turn.actor in
            passed q (changes u (link_here q)) after put there (λ rest. puts rest (next_place w turn.actor)) goes en el)
            keep;
        link = λ u actor.
            let a = stage_too h actor in touched_takes (next_about w a) (next_source w a);
        read = λ h. cc;
        asked = asks_no_one (next_kind w) keep _ refl;
      },
      p.lower,
      λ has. record {
        link = put;
        its = ap (λ ls. slice_get ls source) el ∙ set_here web.links.items source put link p.at_link;
        room = has;
      },
    )

-- What a poll comes to, by what it tells.
module _ {S R : Type 0} {stage : Stage S} (reader : Source R) {k : ℕ} {old : Web S R} (new : Web S R) where
  pub polled_comes : (m : Moved) → ((s : Scene) → HasActor stage k old s → ready (plan_of s) s.size s.links k ≡ true)
      → HasPolled stage reader k old new m → ComesTo stage reader k old new m
  polled_comes = grind (arith, nat_tests)

  pub polled_gives : (m : Moved) → ((s : Scene) → HasActor stage k old s → ready (plan_of s) s.size s.links k ≡ true)
      → HasPolled stage reader k old new m → GivesOn stage reader k old new m
  polled_gives = grind (arith, nat_tests)

-- A turn of any stage, and who is ready.
use Rattle.std.proofs.Common.{◌≡◌, ◌∙◌, ℕ, ◌<◌, Bool, true, false, if◌then◌else◌, nat_eq, List, [], ◌++◌, Option}
use Rattle.std.proofs.Common.{Some, None, refl, sym, ap₂, subst, arith, slice_get, get_or, Result}
use Rattle.std.specs.Prelude.{OnErr}
use Rattle.std.proofs.lemmas.Bool.{false≢true}
use Rattle.std.proofs.lemmas.Bool.Decides.{nat_tests}
use Rattle.std.proofs.lemmas.Option.{same_Some}
use Rattle.hum_text.specs.declared.calls.Source.{Ghosts as Source}
use Rattle.hum_stage.specs.declared.contract.Stage.{Ghosts as Stage}
use Rattle.hum_turns.specs.Turns.{state, can, ready}
use Rattle.hum_turns.proofs.States.{reads_bytes}
use Rattle.hum_turns.proofs.Near.{step_does}
use Rattle.hum_nodes.specs.Doing.{Doing}
use Rattle.hum_nodes.specs.At.{holds_of}
use Rattle.hum_nodes.specs.declared.node.Node.{Node}
use Rattle.hum_nodes.specs.Nodes.{is_source, remaining_of, ended_of, calls_of, failed_of}
use Rattle.hum_nodes.specs.Polls.{is_failed_read}
use Rattle.hum_read.specs.declared.ReadError.{ReadError}
use Rattle.hum_nodes.proofs.Standing.{stage_bytes, nothing_read, no_mark, no_call, no_end, no_rest}
use Rattle.hum_engine.specs.Readers.{or_none, HasReadNone}
use Rattle.hum_engine.specs.declared.web.Web.{Web}
use Rattle.hum_score.specs.Row.{Row}
use Rattle.hum_turns.specs.Links.{Moment}
use Rattle.hum_engine.specs.Scene.{Scene, plan_of, moved, before, at_of, held_of, Done, IsActor, HasActor, MayTurn, MayAct}
use Rattle.hum_engine.specs.Scene.{IsAbout, Keeps, IsKind, Fed}
use Rattle.hum_engine.specs.Told.{AsksOne}
use Rattle.hum_engine.proofs.Feeding.{node_at, node_of}

-- A node of this kind makes its stage one.
pub one_kind : {S R : Type 0} (k : ℕ) (web : Web S R) {node : Node S R} {b : Bool}
    → slice_get web.nodes.items k ≡ Some node → is_source node ≡ b → IsKind b k web
one_kind k web at e x h = rw (same_Some x _ (sym h ∙ at)) e

not_ended : {S R : Type 0} (n : Node S R) → is_source n ≡ false → ended_of n ≡ true → ⊥
not_ended n e h = false≢true (sym (no_end (λ r. None) (λ r. 0) (λ r. false) n e) ∙ h)

-- no bytes more to read

same_rest : (b : Bool) (r : List ℕ) → (if b then [] ++ r else r) ≡ r
same_rest b r = grind arith

unfed : {S R : Type 0} {stage : Stage S} {k : ℕ} {web : Web S R} (s : Scene)
    → MayTurn stage k web (before [] k s) → MayTurn stage k web s
unfed {S} {R} {stage} {k} {web} s may =
    subst (λ (rests : ℕ → List ℕ). MayTurn stage k web (record s { rests = rests }))
    (λ j i. same_rest (nat_eq i k) (s.rests i) j) may

module _ {S R : Type 0} {stage : Stage S} {k : ℕ} {web : Web S R} {s : Scene} where
  -- a stage of one scene is one of each
  pub stage_too : {here : Scene} → HasActor stage k web here → IsActor stage k web s → HasActor stage k web s
  stage_too h a = record { at = a.at; less = omega (arith, h.less, h.at.stand.count, a.at.stand.count) }

  pub kind_at : {node : Node S R} {b : Bool} → HasActor stage k web s → node ≡ get_or web.nodes.items k node
      → is_source node ≡ b → IsKind b k web
  kind_at h e is = one_kind k web (node_at h.less h.at.stand e) is

  module _ {doing : Doing} where
    -- whether a stage that isn't a source is ready
    pub stage_ready : IsAbout stage k doing web s
        → ready (plan_of s) s.size s.links k ≡ can s.size s.links k (state (plan_of s) s.links k)
    stage_ready a = grind (arith, nat_tests, a.bytes)

    -- and what it may do then
    pub acting : IsAbout stage k doing web s → ready (plan_of s) s.size s.links k ≡ true
        → MayAct stage k doing web s
    acting a h = record { about = a; can = sym (stage_ready a) ∙ h }

    pub turn_of : IsAbout stage k doing web s → can s.size s.links k (state (plan_of s) s.links k) ≡ true
        → MayTurn stage k web s
    turn_of a can = record { actor = a.actor; ready = stage_ready a ∙ can }

-- A turn of a stage that isn't a source.
pub stage_fed : {S R : Type 0} {stage : Stage S} {reader : Source R} {k : ℕ}
    {old new : Web S R} {here : Scene} → MayTurn stage k old here → IsKind false k old
    → ((s : Scene) → MayTurn stage k old s → Done stage k (state (plan_of s) s.links k) new s)
    → Keeps k old new → Fed stage reader k old new
stage_fed {S} {R} {stage} {reader} {k} {old} {new} {here} may kind does keep =
    let node = node_of stage k old here may.actor.less may.actor.at.stand in
    let after = node_of stage k new (moved here (does here may).new) may.actor.less (does here may).stand in
    let was = kind node.0 node.1 in
    record {
      node = node.0;
      was = node.1;
      after = after.0;
      is = after.1;
      others = keep.others;
      read = [];
      consumes = nothing_read reader.remaining reader.calls reader.failed node.0 after.0 was;
      at_end = λ e. absurd (not_ended after.0 (keep.kind after.0 after.1) e);
      still = λ e. absurd (not_ended node.0 was e);
      turns = λ s last m.
          let u = unfed s m in
          let d = does s u in
          let none = stage_bytes stage.stands node.0 (s.rests k) _ was (u.actor.at.stand.nodes k node.0 node.1) in
          record {
            new = d.new;
            step = step_does (plan_of s) s.size k (state (plan_of s) s.links k) s.links d.new
                (omega (arith, u.actor.less)) u.ready refl
                (λ e. absurd (omega (arith, reads_bytes (plan_of s) u.actor.at.reached.ok s.links k u.actor.less e, none)))
                d.does;
            stand = d.stand;
          };
    }

-- A stage that isn't a source has no reader, and shows none.
quiet : {S R : Type 0} (reader : Source R) (k : ℕ) (web : Web S R)
    → IsKind false k web → (o : Option (Node S R)) → slice_get web.nodes.items k ≡ o
    → (or_none false (failed_of reader.failed) o ≡ false) × (or_none 0 (calls_of reader.calls) o ≡ 0)
    × (or_none false ended_of o ≡ false) × (or_none None (remaining_of reader.remaining) o ≡ None)
quiet = grind (arith, nat_tests, no_mark, no_call, no_end, no_rest)

on_err : {A E P : Type 0} (r : Result A E) → P → OnErr r P
on_err = grind (arith, nat_tests)

act_stays : {S R : Type 0} (reader : Source R) {k : ℕ} {old new : Web S R} → IsKind false k old → Keeps k old new
    → HasReadNone reader k old.nodes.items new.nodes.items
act_stays reader {k} {old} {new} was keep =
    grind (arith, nat_tests, quiet reader k old was _ refl, quiet reader k new keep.kind _ refl)

module _ {S R : Type 0} {reader : Source R} {k : ℕ} {old new : Web S R} (was : IsKind false k old) (keep : Keeps k old new) where
  pub asks_no_one : {A : Type 0} (told : Result A ReadError) → is_failed_read told ≡ false
      → AsksOne reader k old new told
  asks_no_one = grind (arith, nat_tests, quiet, ap₂, on_err, act_stays)

-- How many records wait inside a stage.

pub held_none : (s : Scene) (m : Moment Row) (k : ℕ) → k < s.count → 0 < (s.kinds k).stage.bytes
    → 0 ≡ held_of s m k
held_none s m k less some = grind (arith, nat_tests, less, some)

pub held_some : (s : Scene) (m : Moment Row) (k : ℕ) → k < s.count → (s.kinds k).stage.bytes ≡ 0
    → holds_of (at_of s.kinds m k) ≡ held_of s m k
held_some s m k less none = grind (arith, nat_tests, less, none)

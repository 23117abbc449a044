-- What the turn of a stage comes to.
use Rattle.std.specs.Prelude.{◌≡◌, ℕ, ◌<◌, true, false, Result, Ok, Err, OnOk, OnErr, IfOk, ◌||◌}
use Rattle.hum_read.specs.declared.ReadError.{ReadError}
use Rattle.hum_read.specs.declared.ReadError.TheVariants as error
use Rattle.hum_turns.specs.Turns.{state, ready}
use Rattle.hum_turns.specs.Near.{touched}
use Rattle.hum_stage.specs.declared.contract.Stage.{Ghosts as Stage}
use Rattle.hum_text.specs.declared.calls.Source.{Ghosts as Source}
use Rattle.hum_nodes.specs.Polls.{is_failed_read}
use Rattle.hum_engine.specs.declared.web.Web.{Web}
use Rattle.hum_engine.specs.declared.web.Moved.{Moved}
use Rattle.hum_engine.specs.declared.web.Moved.TheVariants.{Waits, Gave, Filled, Took, Heard, Failed, Over}
use Rattle.hum_engine.specs.Readers.{failed_at, HasReadNone, AsksOnce}
use Rattle.hum_engine.specs.Scene.{Scene, plan_of, HasActor, IsActor, IsKind, IsFull, HasRoom, KeepsOthers, Fed}

-- The reader of stage k was called once at most, and no other. A failed read, or running out of memory,
-- has read no byte.
pub record AsksOne {S R A : Type 0} (reader : Source R) (k : ℕ) (old new : Web S R) (told : Result A ReadError)
    : Type 0 where
  pub others : KeepsOthers k old new
  pub marks : failed_at reader k new.nodes.items
      ≡ (failed_at reader k old.nodes.items || is_failed_read told)
  pub once : AsksOnce reader k old.nodes.items new.nodes.items
  pub stays : OnErr told (HasReadNone reader k old.nodes.items new.nodes.items)

-- Stage k has had its turn, which tells the link that it has changed, or how it has failed.
pub record HasTold {S R : Type 0} (stage : Stage S) (reader : Source R) (k : ℕ) (old new : Web S R)
    (told : Result ℕ ReadError) : Type 0 where
  pub turned : OnOk told (Fed stage reader k old new)
  pub link : IfOk told (λ link. (s : Scene) → IsActor stage k old s → link ≡ touched k (state (plan_of s) s.links k))
  pub read : told ≡ Err error.Read → IsKind true k old
  pub asked : AsksOne reader k old new told

-- Stage k wasn't ready, and nothing has changed.
pub record HasWaited {S R : Type 0} (stage : Stage S) (k : ℕ) (old new : Web S R) : Type 0 where
  pub idle : (s : Scene) → HasActor stage k old s → ready (plan_of s) s.size s.links k ≡ false
  pub same : new ≡ old

-- It was ready, and has had its turn, which tells this.
pub record HasActed {S R : Type 0} (stage : Stage S) (reader : Source R) (k : ℕ) (old new : Web S R)
    (told : Result ℕ ReadError) : Type 0 where
  pub was_ready : (s : Scene) → HasActor stage k old s → ready (plan_of s) s.size s.links k ≡ true
  pub tells : HasTold stage reader k old new told

-- What a turn of a source comes to: it changes no link but its own.
abbrev pub HasPolled : {S R : Type 0} → Stage S → Source R → ℕ → Web S R → Web S R → Moved → Type 0
HasPolled stage reader k old new Waits = ⊥
HasPolled stage reader k old new Gave = HasTold stage reader k old new (Ok k)
HasPolled stage reader k old new Filled = HasTold stage reader k old new (Ok k) × IsFull k new
HasPolled stage reader k old new (Took link) = ⊥
HasPolled stage reader k old new (Heard link) = ⊥
HasPolled stage reader k old new (Failed error) = HasTold stage reader k old new (Err error)
HasPolled stage reader k old new Over = ⊥

-- What a turn of stage k comes to. Where it has taken a record, that link has room.
abbrev pub ComesTo : {S R : Type 0} → Stage S → Source R → ℕ → Web S R → Web S R → Moved → Type 0
ComesTo stage reader k old new Waits = HasWaited stage k old new
ComesTo stage reader k old new Gave = HasActed stage reader k old new (Ok k)
ComesTo stage reader k old new Filled = HasActed stage reader k old new (Ok k) × IsFull k new
ComesTo stage reader k old new (Took link) =
    HasActed stage reader k old new (Ok link) × (link < k) × HasRoom link new
ComesTo stage reader k old new (Heard link) = HasActed stage reader k old new (Ok link) × (link < k)
ComesTo stage reader k old new (Failed error) = HasActed stage reader k old new (Err error)
ComesTo stage reader k old new Over = ⊥

-- What the turn of stage k comes to if it gives at once, or reads.
abbrev pub GivesOn : {S R : Type 0} → Stage S → Source R → ℕ → Web S R → Web S R → Moved → Type 0
GivesOn stage reader k old new Waits = new ≡ old
GivesOn stage reader k old new Gave = HasActed stage reader k old new (Ok k)
GivesOn stage reader k old new Filled = HasActed stage reader k old new (Ok k) × IsFull k new
GivesOn stage reader k old new (Took link) = ⊥
GivesOn stage reader k old new (Heard link) = ⊥
GivesOn stage reader k old new (Failed error) = HasActed stage reader k old new (Err error)
GivesOn stage reader k old new Over = ⊥

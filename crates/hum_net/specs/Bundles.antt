-- What comes of a plan's text with scores by their names.
use Rattle.std.specs.Prelude.{◌≡◌, ℕ, zero, suc, Bool, true, false, if◌then◌else◌, is_none}
use Rattle.std.specs.Prelude.{List, [], ◌∷◌, ◌++◌, Option, None, Some, Err, ◌⊎◌, slice_get}
use Rattle.hum_turns.specs.declared.result.RunResult.{RunResult}
use Rattle.hum_turns.specs.declared.result.RunResult.TheVariants as ends
use Rattle.hum_turns.specs.Orders.{Order}
use Rattle.hum_engine.specs.Readers.{is_write, is_read_of}
use Rattle.hum_plan.specs.Stages.{Stage, Options, Read, Assemble, Takes}
use Rattle.hum_plan.specs.Grammar.{IsPlanOf}
use Rattle.hum_plan.specs.Answers.{PlanAnswer}
use Rattle.hum_net.specs.declared.outcome.Outcome.{Outcome}
use Rattle.hum_net.specs.declared.outcome.Outcome.TheVariants as outcome
use Rattle.hum_net.specs.Nodes.{readers_by}
use Rattle.hum_net.specs.Runs.{HasWritten, HasPicked, HasEnded, HasDriven, IsUnasked}

-- The score that a stage reads, by its name; a stage that reads none has none.
abbrev pub score_by : (List ℕ → Option (List ℕ)) → Options → Option (List ℕ)
score_by score (Read name) = score name
score_by score Assemble = Some []
score_by score (Takes options) = Some []

abbrev pub or_empty : Option (List ℕ) → List ℕ
or_empty None = []
or_empty (Some bytes) = bytes

-- the bytes that stage k reads, from 0
abbrev pub bytes_by : (List ℕ → Option (List ℕ)) → List Stage → ℕ → List ℕ
bytes_by score [] k = []
bytes_by score (stage ∷ stages) zero = or_empty (score_by score stage.options)
bytes_by score (stage ∷ stages) (suc k) = bytes_by score stages k

-- the number of the first of some stages, of which the first has number n, whose score isn't there
abbrev pub first_lacking : (List ℕ → Option (List ℕ)) → ℕ → List Stage → Option ℕ
first_lacking score n [] = None
first_lacking score n (stage ∷ stages) =
    if is_none (score_by score stage.options) then Some n else first_lacking score (suc n) stages

-- The stages of the plan that a text is were run over the scores of their names, which are all there.
pub record HasRunPlan
    (text : List ℕ) (score : List ℕ → Option (List ℕ)) (old new : Option (List ℕ)) (flushed : Bool)
    (end : RunResult) : Type 0 where
  pub stages : List Stage
  pub plan : IsPlanOf text stages
  pub scores : first_lacking score 1 stages ≡ None
  pub written : HasWritten (bytes_by score stages) stages old new flushed end

-- The order has picked the turns of a run of the plan that a text is, over the scores of its names.
pub record HasPickedPlan {O : Type 0} (order : Order O) (text : List ℕ)
    (score : List ℕ → Option (List ℕ)) (link : ℕ) (end : RunResult) (old new : O) : Type 0 where
  pub stages : List Stage
  pub plan : IsPlanOf text stages
  pub picked : HasPicked order (bytes_by score stages) stages link end old new

-- Where stages were run, the order has picked their turns; else it was not asked.
abbrev pub Picks : {O : Type 0} → Order O → List ℕ → (List ℕ → Option (List ℕ)) → ℕ → O → O
    → Outcome → Type 0
Picks order text score link old new (outcome.Run end) =
    HasPickedPlan order text score link end old new ⊎ IsUnasked end old new
Picks order text score link old new (outcome.Plan fault) = new ≡ old
Picks order text score link old new (outcome.NoScore number) = new ≡ old
Picks order text score link old new outcome.TooLarge = new ≡ old

-- Its run has ended, and has written what it had written at its last moment.
pub record HasEndedPlan {O : Type 0} (order : Order O) (text : List ℕ)
    (score : List ℕ → Option (List ℕ)) (link : ℕ) (end : RunResult) (old new : O)
    (held kept : Option (List ℕ)) : Type 0 where
  pub stages : List Stage
  pub plan : IsPlanOf text stages
  pub ended : HasEnded order (bytes_by score stages) stages link end old new held kept

-- Where stages were run, that is how.
abbrev pub Ends : {O : Type 0} → Order O → List ℕ → (List ℕ → Option (List ℕ)) → ℕ → O → O
    → Option (List ℕ) → Option (List ℕ) → Outcome → Type 0
Ends order text score link old new held kept (outcome.Run end) =
    HasEndedPlan order text score link end old new held kept ⊎ IsUnasked end old new
Ends order text score link old new held kept (outcome.Plan fault) = Unit {0}
Ends order text score link old new held kept (outcome.NoScore number) = Unit {0}
Ends order text score link old new held kept outcome.TooLarge = Unit {0}

-- A run that wants memory may do so before there is a net.
abbrev pub MayLackMemory : Option (List ℕ) → Option (List ℕ) → RunResult → Type 0
MayLackMemory old new ends.Memory = new ≡ old
MayLackMemory old new ends.Finished = ⊥
MayLackMemory old new (ends.Fault fault) = ⊥
MayLackMemory old new (ends.Read number) = ⊥
MayLackMemory old new ends.Write = ⊥

-- The text is a plan, and the stage of this number is the first whose score isn't there.
pub record LacksScore (text : List ℕ) (score : List ℕ → Option (List ℕ)) (number : ℕ) : Type 0 where
  pub stages : List Stage
  pub plan : IsPlanOf text stages
  pub first : first_lacking score 1 stages ≡ Some number

-- What comes of a text with these scores: it is no plan, by its first fault; or a score isn't there; or
-- its stages were run.
abbrev pub Comes : List ℕ → (List ℕ → Option (List ℕ)) → Option (List ℕ) → Option (List ℕ) → Bool
    → Outcome → Type 0
Comes text score old new flushed (outcome.Run end) =
    HasRunPlan text score old new flushed end ⊎ MayLackMemory old new end
Comes text score old new flushed (outcome.Plan fault) = PlanAnswer text (Err fault)
Comes text score old new flushed (outcome.NoScore number) = LacksScore text score number
Comes text score old new flushed outcome.TooLarge = ⊥

-- the same for a bundle, which may be too large
abbrev pub ComesOfBundle : (too_large : Bool) → List ℕ → (List ℕ → Option (List ℕ)) → Option (List ℕ)
    → Option (List ℕ) → Bool → Outcome → Type 0
ComesOfBundle true text score old new flushed result = result ≡ outcome.TooLarge
ComesOfBundle false text score old new flushed result = Comes text score old new flushed result

-- A text is refused by its first fault, unless memory runs out.
abbrev pub IsRefusal : List ℕ → Outcome → Type 0
IsRefusal text (outcome.Run end) = end ≡ ends.Memory
IsRefusal text (outcome.Plan fault) = PlanAnswer text (Err fault)
IsRefusal text (outcome.NoScore number) = ⊥
IsRefusal text outcome.TooLarge = ⊥

-- A plan is refused for the first stage whose score isn't there, unless memory runs out.
abbrev pub LacksNow : (List ℕ → Option (List ℕ)) → List Stage → Outcome → Type 0
LacksNow score stages (outcome.Run end) = end ≡ ends.Memory
LacksNow score stages (outcome.Plan fault) = ⊥
LacksNow score stages (outcome.NoScore number) = first_lacking score 1 stages ≡ Some number
LacksNow score stages outcome.TooLarge = ⊥

-- The same where it is known to be stage k, from 0.
abbrev pub LacksHere : (List ℕ → Option (List ℕ)) → ℕ → Options → Outcome → Type 0
LacksHere score k options (outcome.Run end) = end ≡ ends.Memory
LacksHere score k options (outcome.Plan fault) = ⊥
LacksHere score k options (outcome.NoScore number) =
    (number ≡ suc k) × (score_by score options ≡ None)
LacksHere score k options outcome.TooLarge = ⊥

-- Unless memory runs out, the score of stage k, from 0, isn't there, and it reads one.
abbrev pub LacksAt : ℕ → Options → Outcome → Type 0
LacksAt k options (outcome.Run end) = end ≡ ends.Memory
LacksAt k options (outcome.Plan fault) = ⊥
LacksAt k options (outcome.NoScore number) = (number ≡ suc k) × (readers_by options ≡ 1)
LacksAt k options outcome.TooLarge = ⊥

-- One of these stages has this number, and reads a score.
pub record ReadsScore (stages : List Stage) (number : ℕ) : Type 0 where
  pub place : ℕ
  pub stage : Stage
  pub is : slice_get stages place ≡ Some stage
  pub numbered : number ≡ suc place
  pub reads : readers_by stage.options ≡ 1

-- The score of one of these stages isn't there, unless memory runs out.
abbrev pub LacksOne : List Stage → Outcome → Type 0
LacksOne stages (outcome.Run end) = end ≡ ends.Memory
LacksOne stages (outcome.Plan fault) = ⊥
LacksOne stages (outcome.NoScore number) = ReadsScore stages number
LacksOne stages outcome.TooLarge = ⊥

-- What may come of a text over scores of which nothing is known: it is no plan, by its first fault; or the score
-- of a stage isn't there; or its stages were run.
pub record LacksSome (text : List ℕ) (number : ℕ) : Type 0 where
  pub stages : List Stage
  pub plan : IsPlanOf text stages
  pub reader : ReadsScore stages number

abbrev pub MayCome : List ℕ → Outcome → Type 0
MayCome text (outcome.Run end) = Unit {0}
MayCome text (outcome.Plan fault) = PlanAnswer text (Err fault)
MayCome text (outcome.NoScore number) = LacksSome text number
MayCome text outcome.TooLarge = ⊥

-- Its stages were run over bytes that their readers gave: however these go on, in turns that the order has picked,
-- over links of this size; and what was written is what the run had written at its last moment.
pub record HasDrivenPlan {O : Type 0} (order : Order O) (text : List ℕ) (link : ℕ) (end : RunResult) (old new : O)
    (held kept : Option (List ℕ)) : Type 0 where
  pub stages : List Stage
  pub plan : IsPlanOf text stages
  pub driven : HasDriven order stages link end old new held kept

-- Where stages were run, that is how; else the order was not asked.
abbrev pub Drives : {O : Type 0} → Order O → List ℕ → ℕ → O → O → Option (List ℕ) → Option (List ℕ) → Outcome → Type 0
Drives order text link old new held kept (outcome.Run end) =
    HasDrivenPlan order text link end old new held kept ⊎ IsUnasked end old new
Drives order text link old new held kept (outcome.Plan fault) = new ≡ old
Drives order text link old new held kept (outcome.NoScore number) = new ≡ old
Drives order text link old new held kept outcome.TooLarge = new ≡ old

-- A score is looked for by its name: there is a reader that tells it, or none where there is no score.
abbrev pub IsFound : {R : Type 0} → (R → Option (List ℕ)) → Option (List ℕ) → Option R → Type 0
IsFound remaining (Some bytes) (Some reader) = remaining reader ≡ Some bytes
IsFound remaining None None = Unit {0}
IsFound remaining (Some bytes) None = ⊥
IsFound remaining None (Some reader) = ⊥

-- A reader of these bytes was added to others.
pub record AddsReader {R : Type 0} (remaining : R → Option (List ℕ)) (score : Option (List ℕ))
    (old new : List R) : Type 0 where
  pub reader : R
  pub bytes : List ℕ
  pub is_score : score ≡ Some bytes
  pub tells : remaining reader ≡ Some bytes
  pub adds : new ≡ old ++ reader ∷ []

-- A reader of a stage's score was added to others, if it reads one.
abbrev pub Adds : {R : Type 0} → (R → Option (List ℕ)) → (List ℕ → Option (List ℕ)) → Options
    → List R → List R → Type 0
Adds remaining score (Read name) old new = AddsReader remaining (score name) old new
Adds remaining score Assemble old new = new ≡ old
Adds remaining score (Takes options) old new = new ≡ old

-- There was no run.
abbrev pub is_refused : Outcome → Bool
is_refused (outcome.Run end) = false
is_refused (outcome.Plan fault) = true
is_refused (outcome.NoScore number) = true
is_refused outcome.TooLarge = true

-- A write or a flush has failed.
abbrev pub is_failed_write : Outcome → Bool
is_failed_write (outcome.Run end) = is_write (Some end)
is_failed_write (outcome.Plan fault) = false
is_failed_write (outcome.NoScore number) = false
is_failed_write outcome.TooLarge = false

-- A failed read of this stage, from 0, has ended the run.
abbrev pub is_read_by : ℕ → Outcome → Bool
is_read_by k (outcome.Run end) = is_read_of k (Some end)
is_read_by k (outcome.Plan fault) = false
is_read_by k (outcome.NoScore number) = false
is_read_by k outcome.TooLarge = false

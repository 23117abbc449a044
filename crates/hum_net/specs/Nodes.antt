-- The stages of a plan as nodes of a net.
use Rattle.std.specs.Prelude.{◌≡◌, ℕ, suc, ◌+◌, ◌≤◌, length, true, false, List, [], ◌∷◌, Option, Some}
use Rattle.hum_stage.specs.declared.contract.Stage.{Ghosts as Commands}
use Rattle.hum_nodes.specs.At.{fresh}
use Rattle.hum_nodes.specs.declared.node.Node.{Node}
use Rattle.hum_nodes.specs.Nodes.{StandsAs, is_source, remaining_of, ended_of}
use Rattle.hum_plan.specs.Stages.{Stage, Options, Read, Assemble, Takes}
use Rattle.hum_plan.specs.declared.stages.PlanStage.{PlanStage}
use Rattle.hum_plan.specs.Seen.{stage_of, options_of}
use Rattle.hum_nodes.specs.Trees.{kind_of}
use Rattle.hum_net.specs.Parts.{part_of, IsSoundBy}

-- how many readers a stage has, and how many some stages have
abbrev pub readers_by : Options → ℕ
readers_by (Read name) = 1
readers_by Assemble = 0
readers_by (Takes options) = 0

abbrev pub readers_of : List Stage → ℕ
readers_of [] = 0
readers_of (stage ∷ stages) = readers_by stage.options + readers_of stages

-- Something holds of each stage, from stage k on, and its node.
abbrev pub AllFrom : {N : Type 0} → (ℕ → PlanStage → N → Type 0) → ℕ → List PlanStage → List N
    → Type 0
AllFrom Holds k [] [] = Unit {0}
AllFrom Holds k [] (node ∷ nodes) = ⊥
AllFrom Holds k (stage ∷ stages) [] = ⊥
AllFrom Holds k (stage ∷ stages) (node ∷ nodes) =
    Holds k stage node × AllFrom Holds (suc k) stages nodes

-- Whatever bytes it reads, the node of stage k stands for its part, of which nothing has come yet.
abbrev pub Fits : {S R : Type 0} → Commands S → ℕ → PlanStage → Node S R → Type 0
Fits commands k stage node =
    ((bytes : List ℕ)
    → StandsAs commands.stands node bytes (fresh (kind_of (k + 1) (part_of k bytes (stage_of stage)))))
    × IsSoundBy (k + 1) (options_of stage.options)

-- A source tells these bytes, the end of which it hasn't read.
abbrev pub Tells : {S R : Type 0} → (R → Option (List ℕ)) → (ℕ → List ℕ) → ℕ → PlanStage → Node S R
    → Type 0
Tells remaining bytes k stage node = is_source node ≡ true
    → (remaining_of remaining node ≡ Some (bytes k)) × (ended_of node ≡ false)

-- The readers of some stages, from stage k on, tell these bytes.
abbrev pub ToldBy : {R : Type 0} → (R → Option (List ℕ)) → List ℕ → Options → (List R → Type 0)
    → List R → Type 0
ToldBy remaining bytes (Read name) Rest [] = ⊥
ToldBy remaining bytes (Read name) Rest (reader ∷ readers) =
    (remaining reader ≡ Some bytes) × Rest readers
ToldBy remaining bytes Assemble Rest readers = Rest readers
ToldBy remaining bytes (Takes options) Rest readers = Rest readers

abbrev pub AreTold : {R : Type 0} → (R → Option (List ℕ)) → (ℕ → List ℕ) → ℕ → List Stage → List R
    → Type 0
AreTold remaining bytes k [] readers = Unit {0}
AreTold remaining bytes k (stage ∷ stages) readers =
    ToldBy remaining (bytes k) stage.options (AreTold remaining bytes (suc k) stages) readers

-- No stage reads from more than 15 others.
abbrev pub AreNarrow : List PlanStage → Type 0
AreNarrow [] = Unit {0}
AreNarrow (stage ∷ stages) = (length stage.sources.items ≤ 15) × AreNarrow stages

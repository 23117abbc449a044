-- What the stages of a plan read from and do.
use Rattle.std.specs.Prelude.{◌≡◌, ℕ, suc, pred, ◌+◌, false, List, [], ◌∷◌, map}
use Rattle.hum_stage.specs.Meaning.{IsLawful, KeepsScore}
use Rattle.hum_commands.specs.Meaning.{means}
use Rattle.hum_plan.specs.Stages.{Stage, Options, Read, Assemble, Takes}
use Rattle.hum_plan.specs.Stages.{IsStage, drops_interpretations}
use Rattle.hum_nodes.specs.Trees.{Part, Reads, Through, Beside}
use Rattle.hum_valid.specs.Records.{KeepsRecords}

-- the first of some numbers, which count from 1, counted from 0
abbrev pub first_of : List ℕ → ℕ
first_of [] = 0
first_of (number ∷ numbers) = pred number

-- Stage k, from 0, which reads these bytes if it is a source.
abbrev pub part_by : ℕ → List ℕ → List ℕ → Options → Part
part_by k bytes sources (Read name) = Reads bytes
part_by k bytes sources Assemble = Beside (map pred sources)
part_by k bytes sources (Takes options) = Through (first_of sources) (means (k + 1) options)

abbrev pub part_of : ℕ → List ℕ → Stage → Part
part_of k bytes stage = part_by k bytes stage.sources stage.options

-- Stage k and those behind it, where source i reads bytes i.
abbrev pub parts_from : ℕ → (ℕ → List ℕ) → List Stage → List Part
parts_from k bytes [] = []
parts_from k bytes (stage ∷ stages) =
    part_of k (bytes k) stage ∷ parts_from (suc k) bytes stages

-- The stages of a plan, by the bytes that its sources read.
abbrev pub parts_of : (ℕ → List ℕ) → List Stage → List Part
parts_of bytes stages = parts_from 0 bytes stages

-- No stage drops all interpretations.
abbrev pub AllGiveScores : List Stage → Type 0
AllGiveScores stages = (k : ℕ) (stage : Stage) → IsStage stages k stage
    → drops_interpretations stage.options ≡ false

-- What its command means keeps to the contract of stages; of scores it makes scores, unless it drops
-- all interpretations, and of lawful records lawful records.
abbrev pub IsSoundBy : ℕ → Options → Type 0
IsSoundBy number (Takes options) =
    IsLawful (means number options)
    × ((means number options).stage ≡ number)
    × (drops_interpretations (Takes options) ≡ false → KeepsScore (means number options).outcomes)
    × KeepsRecords (means number options).outcomes
IsSoundBy number _ = Unit {0}

-- what is sound of stage k and those behind it
abbrev pub AreSoundFrom : ℕ → List Stage → Type 0
AreSoundFrom k [] = Unit {0}
AreSoundFrom k (stage ∷ stages) = IsSoundBy (k + 1) stage.options × AreSoundFrom (suc k) stages

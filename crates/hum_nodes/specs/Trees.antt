-- Trees of stages: what a plan's stages read from and what they do, and what it means as a whole.
use Rattle.std.specs.Prelude.{◌≡◌, ℕ, zero, suc, ◌+◌, ◌<◌, List, [], ◌∷◌, length, Some, slice_get}
use Rattle.std.specs.List.{AllByRecursion}
use Rattle.hum_score.specs.Row.{Row}
use Rattle.hum_stage.specs.declared.faults.End.{End}
use Rattle.hum_stage.specs.Meaning.{Meaning, IsLawful, KeepsScore}
use Rattle.hum_turns.specs.Flow.{Flow}
use Rattle.hum_turns.specs.Plan.{Plan, IsPlan}
use Rattle.hum_turns.specs.Meaning.{plan_meaning, first_fault, IsNumbered}
use Rattle.hum_nodes.specs.Fine.{fine}
use Rattle.hum_nodes.specs.At.{Kind}
use Rattle.hum_nodes.specs.Single.{single}
use Rattle.hum_nodes.specs.Merging.{merging}
use Rattle.hum_nodes.specs.Reading.{reading}

-- A stage of a tree: it reads the score of these bytes, or the records of one stage go through a
-- command of this meaning, or those of several stages are put side by side. Stages are numbered
-- from 0.
pub data Part : Type 0 where
  Reads : (bytes : List ℕ) → Part
  Through : (from : ℕ) → (command : Meaning) → Part
  Beside : (from : List ℕ) → Part

-- the stages that it reads from
abbrev pub sources_of : Part → List ℕ
sources_of (Reads bytes) = []
sources_of (Through from command) = from ∷ []
sources_of (Beside from) = from

-- what it is as a node of a net; faults bear its number from 1
abbrev pub kind_of : ℕ → Part → Kind
kind_of number (Reads bytes) = reading number bytes
kind_of number (Through from command) = single from command
kind_of number (Beside from) = merging number from

-- the part at a place; behind the last there is nothing to read
abbrev pub part_at : List Part → ℕ → Part
part_at [] k = Reads []
part_at (part ∷ parts) zero = part
part_at (part ∷ parts) (suc k) = part_at parts k

abbrev pub kind_at : List Part → ℕ → Kind
kind_at parts k = kind_of (k + 1) (part_at parts k)

-- The plan that the stages are: each of them by its contract alone.
abbrev pub plan_of : List Part → Plan Row
plan_of parts = record {
  count = length parts;
  stage = λ k. (kind_at parts k).stage;
  fine = fine;
}

-- What the whole means: the last stage's list and its end, each stage over what its sources mean.
abbrev pub meaning_of : List Part → Flow Row
meaning_of parts = plan_meaning (plan_of parts)

-- how it ends where the stages are evaluated one after another: by the first fault
abbrev pub ending_of : List Part → End
ending_of parts = first_fault (plan_of parts) (length parts)

-- A stage reads from lower ones. A command bears its stage's number, and of scores it makes scores,
-- unless it is the last stage.
abbrev pub IsPart : ℕ → ℕ → Part → Type 0
IsPart count k (Reads bytes) = Unit {0}
IsPart count k (Through from command) =
    (from < k) × IsLawful command × (command.stage ≡ k + 1)
    × (k + 1 < count → KeepsScore command.outcomes)
IsPart count k (Beside from) = AllByRecursion (λ s. s < k) from

-- A stage reads from another at a place among its sources.
pub record IsReadAt (parts : List Part) (reader place k : ℕ) : Type 0 where
  pub within : reader < length parts
  pub source : slice_get (sources_of (part_at parts reader)) place ≡ Some k

-- Another stage reads from it.
pub record IsRead (parts : List Part) (k : ℕ) : Type 0 where
  pub reader : ℕ
  pub place : ℕ
  pub read : IsReadAt parts reader place k

-- A tree: some stages, each of which reads from lower ones, and each but the last is read at exactly
-- one place.
pub record IsTree (parts : List Part) : Type 0 where
  pub some : 0 < length parts
  pub each : (k : ℕ) → k < length parts → IsPart (length parts) k (part_at parts k)
  pub read : (k : ℕ) → k + 1 < length parts → IsRead parts k
  pub once : (i p j q k : ℕ) → IsReadAt parts i p k → IsReadAt parts j q k → (i ≡ j) × (p ≡ q)

-- What every tree is: a plan whose faults bear their stages' numbers, and which ends by the first
-- of them.
pub record IsLawfulTree (parts : List Part) : Type 0 where
  pub plan : IsPlan (plan_of parts)
  pub numbered : IsNumbered (plan_of parts)
  pub end : (meaning_of parts).end ≡ Some (ending_of parts)

-- What a plan means is valid Humdrum.
use Rattle.std.proofs.Common.{ℕ, suc, ◌+◌, List, [], ◌∷◌}
use Rattle.hum_score.specs.Row.{Row}
use Rattle.hum_turns.specs.Flow.{Flow}
use Rattle.hum_nodes.specs.Fine.{IsFine}
use Rattle.hum_nodes.specs.Trees.{meaning_of, IsTree}
use Rattle.hum_valid.specs.Records.{AreRecords}
use Rattle.hum_valid.specs.Trees.{Keeps, AllKeep}
use Rattle.hum_valid.proofs.Again.{read_again}
use Rattle.hum_valid.proofs.Trees.{tree_records}
use Rattle.hum_plan.specs.Stages as plan
use Rattle.hum_net.specs.Parts.{part_by, parts_from, parts_of, IsSoundBy, AreSoundFrom}
use Rattle.hum_net.specs.Runs.{IsValid}

-- the stages of a plan

keeps_by : (k : ℕ) (bytes sources : List ℕ) (options : plan.Options) → IsSoundBy (k + 1) options
    → Keeps (part_by k bytes sources options)
keeps_by k bytes sources (plan.Read name) h = tt
keeps_by k bytes sources plan.Assemble h = tt
keeps_by k bytes sources (plan.Takes options) h = h.3

parts_keep : (from : ℕ) (bytes : ℕ → List ℕ) (stages : List plan.Stage) → AreSoundFrom from stages
    → AllKeep (parts_from from bytes stages)
parts_keep from bytes [] h = tt
parts_keep from bytes (stage ∷ stages) h =
    (keeps_by from (bytes from) stage.sources stage.options h.0, parts_keep (suc from) bytes stages h.1)

pub plan_records : (bytes : ℕ → List ℕ) (stages : List plan.Stage) → IsTree (parts_of bytes stages) → AreSoundFrom 0 stages
    → AreRecords (meaning_of (parts_of bytes stages)).items
plan_records bytes stages tree sound =
    tree_records (parts_of bytes stages) tree (parts_keep 0 bytes stages sound)

-- a score of lawful records
pub valid : (f : Flow Row) → AreRecords f.items → IsFine 4294967295 f → IsValid f
valid f are h = record {
  score = h;
  again = λ small. read_again f.items (record { records = are; score = h.score; few = h.few; small = small });
}

-- The stages of a plan are what a net asks for.
use Rattle.std.proofs.Common.{◌≡◌, refl, ℕ, ◌+◌, ◌<◌, ◌≤◌, List, [], ◌∷◌}
use Rattle.std.proofs.Common.{length, arith}
use Rattle.std.proofs.lemmas.List.{append-nil}
use Rattle.hum_score.specs.Row.{Row}
use Rattle.hum_turns.specs.Flow.{Flow, so_far, AllFine}
use Rattle.hum_turns.specs.Plan.{Stage, KeepsFine}
use Rattle.hum_nodes.specs.At.{IsLimited}
use Rattle.hum_nodes.specs.Fine.{fine}
use Rattle.hum_nodes.specs.Single.{items_of}
use Rattle.hum_nodes.proofs.Fining.{fine_is}
use Rattle.hum_nodes.proofs.MergingLaws as merging
use Rattle.hum_nodes.proofs.ReadingLaws as reading
use Rattle.hum_engine.specs.Scene.{IsNetPlan, IsTreeBy}
use Rattle.hum_nodes.specs.Trees.{Part, Reads, Through, Beside, kind_of, kind_at, part_at, sources_of, IsPart, IsTree}
use Rattle.hum_nodes.proofs.TreeLaws.{is_plan}
use Rattle.hum_plan.specs.Stages as plan
use Rattle.hum_net.specs.Parts.{parts_of, AreSoundFrom}
use Rattle.hum_net.specs.Nodes.{readers_by, readers_of}
use Rattle.hum_net.proofs.Treeing.{is_tree, parts_length, few_sources}

few_by_fine : (stage : Stage Row) → KeepsFine fine stage → IsLimited stage
few_by_fine stage keeps r a most are =
    (fine_is 4294967295 (so_far (stage.output r a))
    (keeps.front r a (stage.output r a) most are ([], append-nil (stage.output r a)))).few

few_items : (a : List (Flow Row)) → AllFine fine a → length (items_of a) ≤ 4294967295
few_items [] h = omega arith
few_items (x ∷ a) h = (fine_is 4294967295 x h.0).few

limited : (count k : ℕ) (part : Part) → IsPart count k part → IsLimited (kind_of (k + 1) part).stage
limited count k (Reads bytes) h = few_by_fine _ (reading.keeps_fine (k + 1) bytes)
limited count k (Through from command) h = λ r a most are. h.1.limited (items_of a) (few_items a are.each)
limited count k (Beside from) h = few_by_fine _ (merging.keeps_fine (k + 1) from)

sources_kind : (n : ℕ) (part : Part) → (kind_of n part).stage.sources ≡ sources_of part
sources_kind n (Reads bytes) = refl
sources_kind n (Through from command) = refl
sources_kind n (Beside from) = refl

read_once : (parts : List Part) → IsTree parts → IsTreeBy (length parts) (kind_at parts)
read_once parts h i p j q k a b e f =
    h.once i p j q k
    (record { within = a; source = rw (sources_kind (i + 1) (part_at parts i)) at e })
    (record { within = b; source = rw (sources_kind (j + 1) (part_at parts j)) at f })

-- what a net asks of a plan
pub is_net_plan : (bytes : ℕ → List ℕ) (stages : List plan.Stage) (size : ℕ) → plan.IsTree stages
    → AreSoundFrom 0 stages → 0 < size
    → IsNetPlan (length (parts_of bytes stages)) (kind_at (parts_of bytes stages)) size
is_net_plan bytes stages size h sound some =
    let parts = parts_of bytes stages in
    let tree = is_tree bytes stages h sound in
    let few : length parts ≤ 64 = rw (parts_length 0 bytes stages) h.bound in
    record {
      ok = is_plan parts tree;
      tree = read_once parts tree;
      some = some;
      few = omega (arith, few);
      narrow = λ k less. rw (sources_kind (k + 1) (part_at parts k)) (few_sources bytes stages h k less);
      limited = λ k less. limited (length parts) k (part_at parts k) (tree.each k less);
    }

-- One reader for each stage that reads a score.

count_by : (k : ℕ) (options : plan.Options) (rest : List plan.ReadStage) (n : ℕ) → length rest ≡ n
    → length (plan.with_read_stage k options rest) ≡ readers_by options + n
count_by k (plan.Read name) rest n h = omega (arith, h)
count_by k plan.Assemble rest n h = omega (arith, h)
count_by k (plan.Takes options) rest n h = omega (arith, h)

counted_from : (k : ℕ) (stages : List plan.Stage) → length (plan.reads_behind k stages) ≡ readers_of stages
counted_from k [] = refl
counted_from k (stage ∷ stages) =
    count_by (k + 1) stage.options (plan.reads_behind (k + 1) stages) (readers_of stages)
    (counted_from (k + 1) stages)

pub counted : (stages : List plan.Stage) → length (plan.reads_of stages) ≡ readers_of stages
counted stages = counted_from 0 stages

-- Trees of stages are plans.
use Rattle.std.proofs.lemmas.Bool.Decides.{nat_tests}
use Rattle.std.proofs.Common.{◌≡◌, ℕ, suc, ◌+◌, ◌<◌, List, ◌∷◌, length, arith}
use Rattle.std.specs.Prelude.{Some, slice_get}
use Rattle.std.specs.List.{AllByRecursion}
use Rattle.hum_score.specs.Row.{Row}
use Rattle.hum_stage.specs.declared.faults.End.TheVariants.{Broken}
use Rattle.hum_stage.specs.declared.faults.Fault.{Fault}
use Rattle.hum_turns.specs.Flow.{Flow}
use Rattle.hum_turns.specs.Plan as turns
use Rattle.hum_turns.specs.Meaning as whole
use Rattle.hum_nodes.specs.Fine.{fine}
use Rattle.hum_nodes.proofs.SingleLaws as single
use Rattle.hum_nodes.proofs.MergingLaws as merging
use Rattle.hum_nodes.proofs.ReadingLaws as reading
use Rattle.hum_nodes.specs.Trees.{Part, Reads, Through, Beside, sources_of, kind_of, part_at, plan_of, IsPart}
use Rattle.hum_nodes.specs.Trees.{IsRead, IsTree}

below_part : (count k : ℕ) (part : Part) → IsPart count k part
    → AllByRecursion (λ s. s < k) (kind_of (k + 1) part).stage.sources
below_part count k part h = grind (arith, h)

lawful_part : (count k : ℕ) (part : Part) → IsPart count k part
    → turns.IsLawful fine (kind_of (k + 1) part).stage
lawful_part count k (Reads bytes) h = reading.lawful (k + 1) bytes
lawful_part count k (Through from command) h = single.lawful from command h.1
lawful_part count k (Beside from) h = merging.lawful (k + 1) from

keeps_part : (count k : ℕ) (part : Part) → IsPart count k part → k + 1 < count
    → turns.KeepsFine fine (kind_of (k + 1) part).stage
keeps_part count k (Reads bytes) h less = reading.keeps_fine (k + 1) bytes
keeps_part count k (Through from command) h less =
    single.keeps_fine from command h.1 (h.3 less)
keeps_part count k (Beside from) h less = merging.keeps_fine (k + 1) from

pub is_plan : (parts : List Part) → IsTree parts → turns.IsPlan (plan_of parts)
is_plan = grind (arith, nat_tests, below_part, lawful_part, keeps_part)

-- Faults bear the number of their stage.

numbered_part : (count k : ℕ) (part : Part) → IsPart count k part → (read : ℕ)
    (inputs : List (Flow Row)) (f : Fault)
    → (kind_of (k + 1) part).stage.own read inputs ≡ Broken f → f.stage ≡ k + 1
numbered_part count k part h read inputs f e = grind (arith, h, e)

sources_kind : (n : ℕ) (part : Part) → (kind_of n part).stage.sources ≡ sources_of part
sources_kind n part = grind arith

later : (k : ℕ) (xs : List ℕ) (place s : ℕ) → AllByRecursion (λ x. x < k) xs
    → slice_get xs place ≡ Some s → s < k
later k (x ∷ xs) (suc place) s h e = later k xs place s h.1 e
later k xs place s h w = grind (arith, nat_tests)

read_later : (parts : List Part) → IsTree parts → (k : ℕ) → IsRead parts k
    → whole.IsRead (plan_of parts) k
read_later parts h k r = grind (arith, nat_tests, sources_kind, later, below_part)

pub is_numbered : (parts : List Part) → IsTree parts → whole.IsNumbered (plan_of parts)
is_numbered parts h = record {
  number = λ k f less e. numbered_part (length parts) k (part_at parts k) (h.each k less) _ _ f e;
  read = λ k less. read_later parts h k (h.read k less);
}

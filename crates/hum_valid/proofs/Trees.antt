-- What a tree of stages means is lawful records.
use Rattle.std.proofs.Common.{◌≡◌, ◌∙◌, sym, ap, subst, ℕ, zero, suc, pred, ◌+◌, ◌<◌, true, List, [], ◌∷◌, map, length, arith}
use Rattle.std.specs.List.{AllByRecursion}
use Rattle.std.proofs.lemmas.Bool.Decides.{nat_tests}
use Rattle.std.proofs.lemmas.List.{length-map}
use Rattle.hum_score.specs.Row.{Row}
use Rattle.hum_score.specs.InOrder.{IsScore}
use Rattle.hum_assemble.specs.Meaning.{AreScores}
use Rattle.hum_turns.specs.Flow.{Flow, IsOver, AllFine}
use Rattle.hum_turns.specs.Plan.{Plan, IsPlan, whole}
use Rattle.hum_turns.specs.Meaning.{meaning}
use Rattle.hum_turns.proofs.Against.{finals, meaning_is}
use Rattle.hum_turns.proofs.Fronts.{fine_map, over_map}
use Rattle.hum_turns.proofs.States.{last_less}
use Rattle.hum_nodes.specs.Fine.{fine}
use Rattle.hum_nodes.specs.Single.{items_of}
use Rattle.hum_nodes.specs.Merging.{inputs_of}
use Rattle.hum_nodes.specs.Reading.{is_ended}
use Rattle.hum_nodes.specs.Trees.{Part, Reads, Through, Beside, kind_of, part_at, plan_of, IsTree}
use Rattle.hum_nodes.proofs.Fining.{fine_is}
use Rattle.hum_nodes.proofs.TreeLaws.{is_plan}
use Rattle.hum_valid.specs.Records.{AreRecords}
use Rattle.hum_valid.specs.Trees.{Keeps, AllKeep, MeansRecords}
use Rattle.hum_valid.proofs.Denoted.{score_records}
use Rattle.hum_valid.proofs.Merged.{merged_records}

abbrev Lawful : List (Flow Row) → Type 0
Lawful = AllByRecursion (λ f. AreRecords f.items)

first_score : (a : List (Flow Row)) → AllFine fine a → IsScore (items_of a)
first_score [] h = tt
first_score (x ∷ a) h = (fine_is 4294967295 x h.0).score

first_records : (a : List (Flow Row)) → Lawful a → AreRecords (items_of a)
first_records [] h = tt
first_records (x ∷ a) h = h.0

each_score : (a : List (Flow Row)) → AllFine fine a → AreScores (inputs_of a)
each_score [] h = tt
each_score (x ∷ a) h = let f = fine_is 4294967295 x h.0 in ((f.score, f.closed), each_score a h.1)

each_records : (a : List (Flow Row)) → Lawful a → AllByRecursion (λ x. AreRecords x.put) (inputs_of a)
each_records [] h = tt
each_records (x ∷ a) h = (h.0, each_records a h.1)

-- what it makes of whole inputs
whole_records : (number : ℕ) (part : Part) → Keeps part → (a : List (Flow Row)) → AllFine fine a → Lawful a
    → AreRecords (whole (kind_of number part).stage a).items
whole_records number (Reads bytes) keeps a fines are =
    let all : is_ended bytes (length bytes + 1) ≡ true = grind (arith, nat_tests) in
    rw all (score_records bytes)
whole_records number (Through from command) keeps a fines are =
    keeps (items_of a) (first_score a fines) (first_records a are)
whole_records number (Beside from) keeps a fines are =
    merged_records (inputs_of a) (each_score a fines) (each_records a are)

lawful_map : (f : ℕ → Flow Row) (P : ℕ → Type 0) → ((s : ℕ) → P s → AreRecords (f s).items) → (ss : List ℕ)
    → AllByRecursion P ss → Lawful (map f ss)
lawful_map f P h [] p = tt
lawful_map f P h (s ∷ ss) p = (h s p.0, lawful_map f P h ss p.1)

keeps_at : (parts : List Part) (k : ℕ) → AllKeep parts → Keeps (part_at parts k)
keeps_at [] k h = tt
keeps_at (part ∷ parts) zero h = h.0
keeps_at (part ∷ parts) (suc k) h = keeps_at parts k h.1

module _ (parts : List Part) (tree : IsTree parts) where
  abbrev whole_plan : Plan Row
  whole_plan = plan_of parts

  ok : IsPlan whole_plan
  ok = is_plan parts tree

  record Reached (k : ℕ) : Type 0 where
    over : IsOver (meaning whole_plan k)
    is_fine : k + 1 < length parts → fine (meaning whole_plan k) ≡ true
    inputs : AllFine fine (finals whole_plan k)

  reached : (n k : ℕ) → k < n → k < length parts → Reached k
  reached zero k less within = absurd (omega (arith, less))
  reached (suc n) k less within =
      let ss = (whole_plan.stage k).sources in
      let lower = ok.below k within in
      let below : (s : ℕ) → s < k → Reached s = λ s b. reached n s (omega (arith, b, less)) (omega (arith, b, within)) in
      let over = over_map (meaning whole_plan) (λ s. s < k) (λ s b. (below s b).over) ss lower in
      let fines = fine_map (meaning whole_plan) (λ s. s < k) fine (λ s b. (below s b).is_fine (omega (arith, b, within))) ss lower in
      let is = meaning_is whole_plan k ok within in
      record {
        over = (_, ap (λ (f : Flow Row). f.end) is);
        is_fine = λ more.
            ap fine is
            ∙ (ok.keeps k more).done (finals whole_plan k) (record { count = length-map ss (meaning whole_plan); each = fines }) over;
        inputs = fines;
      }

  -- What a stage reads may lie on links, and what it makes is over.
  pub inputs_fine : (k : ℕ) → k < length parts → AllFine fine (finals whole_plan k)
  inputs_fine k within = (reached (suc k) k (omega arith) within).inputs

  pub made_over : (k : ℕ) → k < length parts → IsOver (meaning whole_plan k)
  made_over k within = (reached (suc k) k (omega arith) within).over

  module _ (keeps : AllKeep parts) where
    each_made : (n k : ℕ) → k < n → k < length parts → AreRecords (meaning whole_plan k).items
    each_made zero k less within = absurd (omega (arith, less))
    each_made (suc n) k less within =
        let are = lawful_map (meaning whole_plan) (λ s. s < k)
        (λ s b. each_made n s (omega (arith, b, less)) (omega (arith, b, within))) (whole_plan.stage k).sources (ok.below k within) in
        subst (λ (f : Flow Row). AreRecords f.items) (sym (meaning_is whole_plan k ok within))
        (whole_records (k + 1) (part_at parts k) (keeps_at parts k keeps) (finals whole_plan k) (inputs_fine k within) are)

pub tree_records : (parts : List Part) → MeansRecords parts
tree_records parts tree keeps =
    let last = last_less (length parts) tree.some in each_made parts tree keeps (length parts) (pred (length parts)) last last

-- The stages of two plans, one list behind the other, as parts of one plan.
use Rattle.std.proofs.Common.{◌≡◌, ◌∙◌, refl, sym, ap, ℕ, zero, suc, pred, ◌+◌, ◌-◌, ◌<◌, ◌≤◌, true, false, List, [], ◌∷◌, ◌++◌, map, length, Some, arith}
use Rattle.std.specs.Prelude.{nat_lt, slice_get}
use Rattle.std.specs.List.{AllByRecursion}
use Rattle.std.proofs.lemmas.Bool.Decides.{nat_tests}
use Rattle.hum_stage.specs.Meaning.{Meaning}
use Rattle.hum_choices.specs.Options as meant
use Rattle.hum_nodes.specs.Trees.{Part, Through, Beside}
use Rattle.hum_plan.specs.Stages.{Stage, Options, Read, Assemble, Takes, MayHave, IsTree}
use Rattle.hum_commands.specs.Meaning.{means}
use Rattle.hum_net.specs.Parts.{part_by, part_of, parts_from, parts_of, first_of}
use Rattle.hum_net.proofs.Treeing.{parts_length}
use Rattle.hum_pipes.specs.Piped.{moved_part}
use Rattle.hum_pipes.proofs.Places.{some_first}
use Rattle.hum_pipes.specs.Stages.{moved_stage, one_reading, PlansAreJoined}

-- A command means the same wherever it stands, but for its stage's number.
moved_meaning : ℕ → Meaning → Meaning
moved_meaning n m = record m { stage = m.stage + n }

means_moved : (k n : ℕ) (options : meant.Options) → means (k + n) options ≡ moved_meaning n (means k options)
unfolding moved_meaning
means_moved k n (meant.Rid options) = refl
means_moved k n _ = refl

-- Its sources count from 1.

before_moved : (s n : ℕ) → 1 ≤ s → pred (s + n) ≡ pred s + n
before_moved zero n h = absurd (omega (arith, h))
before_moved (suc s) n h = let same : suc s + n ≡ suc (s + n) = omega arith in ap pred same

all_before : (n : ℕ) (ss : List ℕ) → AllByRecursion (λ s. 1 ≤ s) ss → map pred (map (λ s. s + n) ss) ≡ map (λ s. s + n) (map pred ss)
all_before n [] h = refl
all_before n (s ∷ ss) h =
    ap (λ (x : ℕ). x ∷ map pred (map (λ s. s + n) ss)) (before_moved s n h.0)
    ∙ ap (λ (xs : List ℕ). (pred s + n) ∷ xs) (all_before n ss h.1)

first_before : (n : ℕ) (ss : List ℕ) → length ss ≡ 1 → AllByRecursion (λ s. 1 ≤ s) ss → first_of (map (λ s. s + n) ss) ≡ first_of ss + n
first_before n [] size h = absurd (omega (arith, size))
first_before n (s ∷ ss) size h = before_moved s n h.0

-- what is asked of a stage that moves
pub record MayMove (stage : Stage) : Type 0 where
  pub counts : MayHave stage.options (length stage.sources)
  pub from_one : AllByRecursion (λ s. 1 ≤ s) stage.sources

part_moved : (k n : ℕ) (bytes : List ℕ) (sources : List ℕ) (options : Options) → MayHave options (length sources)
    → AllByRecursion (λ s. 1 ≤ s) sources
    → part_by (k + n) bytes (map (λ s. s + n) sources) options ≡ moved_part n (part_by k bytes sources options)
unfolding moved_meaning
part_moved k n bytes sources (Read name) counts ones = refl
part_moved k n bytes sources Assemble counts ones = ap Beside (all_before n sources ones)
part_moved k n bytes sources (Takes options) counts ones =
    let number : k + n + 1 ≡ k + 1 + n = omega arith in
    ap (λ (from : ℕ). Through from (means (k + n + 1) options)) (first_before n sources counts ones)
    ∙ ap (λ (i : ℕ). Through (first_of sources + n) (means i options)) number
    ∙ ap (Through (first_of sources + n)) (means_moved (k + 1) n options)

same_bytes : (k : ℕ) (bytes other : ℕ → List ℕ) (stages : List Stage) → ((i : ℕ) → i < length stages → bytes (k + i) ≡ other (k + i))
    → parts_from k bytes stages ≡ parts_from k other stages
same_bytes k bytes other [] h = refl
same_bytes k bytes other (stage ∷ stages) h =
    let zeros : k + 0 ≡ k = omega arith in
    ap (λ (b : List ℕ). part_of k b stage ∷ parts_from (suc k) bytes stages)
    (ap bytes (sym zeros) ∙ h 0 (omega arith) ∙ ap other zeros)
    ∙ ap (λ (ps : List Part). part_of k (other k) stage ∷ ps)
    (same_bytes (suc k) bytes other stages (λ i less.
    let next : suc k + i ≡ k + suc i = omega arith in
    ap bytes next ∙ h (suc i) (omega (arith, less)) ∙ ap other (sym next)))

moved_stages : (k n : ℕ) (bytes other : ℕ → List ℕ) (stages : List Stage) → AllByRecursion MayMove stages
    → ((i : ℕ) → i < length stages → bytes (k + n + i) ≡ other (k + i))
    → parts_from (k + n) bytes (map (moved_stage n) stages) ≡ map (moved_part n) (parts_from k other stages)
moved_stages k n bytes other [] h same = refl
moved_stages k n bytes other (stage ∷ stages) h same =
    let zeros : k + n + 0 ≡ k + n = omega arith in
    let zero_k : k + 0 ≡ k = omega arith in
    let next : suc (k + n) ≡ suc k + n = omega arith in
    ap (λ (b : List ℕ). part_of (k + n) b (moved_stage n stage) ∷ parts_from (suc (k + n)) bytes (map (moved_stage n) stages))
    (ap bytes (sym zeros) ∙ same 0 (omega arith) ∙ ap other zero_k)
    ∙ ap (λ (p : Part). p ∷ parts_from (suc (k + n)) bytes (map (moved_stage n) stages))
    (part_moved k n (other k) stage.sources stage.options h.0.counts h.0.from_one)
    ∙ ap (λ (i : ℕ). moved_part n (part_of k (other k) stage) ∷ parts_from i bytes (map (moved_stage n) stages)) next
    ∙ ap (λ (ps : List Part). moved_part n (part_of k (other k) stage) ∷ ps)
    (moved_stages (suc k) n bytes other stages h.1 (λ i less.
    let there : suc k + n + i ≡ k + n + suc i = omega arith in
    let here : k + suc i ≡ suc k + i = omega arith in
    ap bytes there ∙ same (suc i) (omega (arith, less)) ∙ ap other here))

parts_behind : (k : ℕ) (bytes : ℕ → List ℕ) (xs ys : List Stage)
    → parts_from k bytes (xs ++ ys) ≡ parts_from k bytes xs ++ parts_from (k + length xs) bytes ys
parts_behind k bytes [] ys = let zeros : k ≡ k + 0 = omega arith in ap (λ (i : ℕ). parts_from i bytes ys) zeros
parts_behind k bytes (x ∷ xs) ys =
    let next : suc k + length xs ≡ k + suc (length xs) = omega arith in
    ap (λ (ps : List Part). part_of k (bytes k) x ∷ ps)
    (parts_behind (suc k) bytes xs ys ∙ ap (λ (i : ℕ). parts_from (suc k) bytes xs ++ parts_from i bytes ys) next)

-- Each stage of a tree may move.

from_one : (k : ℕ) (ss : List ℕ) → AllByRecursion (λ s. (1 ≤ s) × (s ≤ k)) ss → AllByRecursion (λ s. 1 ≤ s) ss
from_one k [] h = tt
from_one k (s ∷ ss) h = (h.0.0, from_one k ss h.1)

all_move : (all stages : List Stage) (k : ℕ) → ((i : ℕ) (stage : Stage) → slice_get stages i ≡ Some stage → slice_get all (k + i) ≡ Some stage)
    → IsTree all → AllByRecursion MayMove stages
all_move all [] k there tree = tt
all_move all (stage ∷ stages) k there tree =
    let here = there 0 stage refl in (
      record {
        counts = tree.counts (k + 0) stage here;
        from_one = from_one (k + 0) stage.sources (tree.lower (k + 0) stage here);
      },
      all_move all stages (suc k) (λ i s e.
          let next : suc k + i ≡ k + suc i = omega arith in
          ap (λ (j : ℕ). slice_get all j) next ∙ there (suc i) s e) tree,
    )

pub joined : PlansAreJoined
joined first rest read bytes other some tree =
    let count = length first in
    let n = pred count in
    let many : count ≡ suc n = some_first count some in
    let both = one_reading count bytes other in
    let moves = all_move (read ∷ rest) rest 1 (λ i stage e. let next : 1 + i ≡ suc i = omega arith in ap (λ (j : ℕ). slice_get (read ∷ rest) j) next ∙ e) tree in
    let size : length (parts_of bytes first) ≡ count = parts_length 0 bytes first in
    let at : 0 + count ≡ 1 + n = omega (arith, many) in
    parts_behind 0 both first (map (moved_stage n) rest)
    ∙ ap (λ (ps : List Part). ps ++ parts_from (0 + count) both (map (moved_stage n) rest)) (same_bytes 0 both bytes first (in_first count))
    ∙ ap (λ (i : ℕ). parts_of bytes first ++ parts_from i both (map (moved_stage n) rest)) at
    ∙ ap (λ (ps : List Part). parts_of bytes first ++ ps) (moved_stages 1 n both other rest moves (in_second count n many))
    ∙ ap (λ (i : ℕ). parts_of bytes first ++ map (moved_part i) (parts_from 1 other rest)) (ap pred (sym size))
  where
    in_first : (count i : ℕ) → i < count → one_reading count bytes other (0 + i) ≡ bytes (0 + i)
    in_first count i less = let test : nat_lt (0 + i) count ≡ true = grind (arith, nat_tests, less) in rw test refl

    in_second : (count n : ℕ) → count ≡ suc n → (i : ℕ) → i < length rest → one_reading count bytes other (1 + n + i) ≡ other (1 + i)
    in_second count n many i less =
        let test : nat_lt (1 + n + i) count ≡ false = grind (arith, nat_tests, many) in
        let there : 1 + n + i - pred count ≡ 1 + i = omega (arith, many) in
        rw test (ap other there)

-- The stages of a plan are a tree of parts.
use Rattle.std.proofs.Common.{◌≡◌, refl, ap, subst, ℕ, zero, suc, pred, ◌+◌, ◌<◌, ◌≤◌, Bool, true, false}
use Rattle.std.proofs.Common.{List, [], ◌∷◌, ◌++◌, length, map, arith, cond}
use Rattle.std.specs.Prelude.{◌==◌, Some, slice_get, option_map}
use Rattle.std.specs.List.{AllByRecursion}
use Rattle.std.proofs.lemmas.Option.{slice_get-map, slice_get_within}
use Rattle.std.proofs.lemmas.Bool.Decides.{nat_tests}
use Rattle.std.proofs.lemmas.List.{length-map}
use Rattle.hum_turns.specs.Plan.{KeepsFine}
use Rattle.hum_nodes.specs.Fine.{fine}
use Rattle.hum_nodes.proofs.SingleLaws as single
use Rattle.hum_nodes.proofs.MergingLaws as merging
use Rattle.hum_nodes.proofs.ReadingLaws as reading
use Rattle.hum_plan.specs.declared.stages.PlanStage.{PlanStage}
use Rattle.hum_plan.specs.Stages.{Stage, Options, Read, Assemble, Takes, MayHave, drops_interpretations}
use Rattle.hum_plan.specs.Stages.{all_sources, times}
use Rattle.hum_plan.specs.Stages as plan
use Rattle.hum_plan.specs.Seen.{stages_of, stage_of, options_of}
use Rattle.hum_nodes.specs.Trees.{part_at, kind_of, kind_at, sources_of, IsPart, IsRead, IsReadAt, IsTree}
use Rattle.hum_net.specs.Nodes.{AreNarrow}
use Rattle.hum_commands.specs.Meaning.{means}
use Rattle.hum_net.specs.Parts.{part_by, part_of, parts_from, parts_of, first_of, IsSoundBy, AreSoundFrom, AllGiveScores}

-- How often a number is among others.

same_true : (n : ℕ) → (n == n) ≡ true
same_true n = grind (arith, nat_tests)

times_more : (n x : ℕ) (xs : List ℕ) → times n xs ≤ times n (x ∷ xs)
times_more n x xs = grind arith

times_here : (n x : ℕ) (xs : List ℕ) → x ≡ n → times n (x ∷ xs) ≡ suc (times n xs)
times_here n x xs e = rw (e, same_true n) (omega arith)

times_append : (n : ℕ) (xs ys : List ℕ) → times n (xs ++ ys) ≡ times n xs + times n ys
times_append n [] ys = omega arith
times_append n (x ∷ xs) ys =
    let ih = times_append n xs ys in grind (arith, ih)

-- one that stands somewhere is counted
counted : (n : ℕ) (xs : List ℕ) (p : ℕ) → slice_get xs p ≡ Some n → 1 ≤ times n xs
counted n [] p e = cc
counted n (x ∷ xs) zero e =
    let here : x ≡ n = cc in let t = times_here n x xs here in omega arith
counted n (x ∷ xs) (suc p) e =
    let ih = counted n xs p e in let more = times_more n x xs in omega arith

-- one that is counted once stands at one place
same_place : (n : ℕ) (xs : List ℕ) (p q : ℕ) → slice_get xs p ≡ Some n → slice_get xs q ≡ Some n
    → times n xs ≤ 1 → p ≡ q
same_place n [] p q e f few = cc
same_place n (x ∷ xs) zero zero e f few = refl
same_place n (x ∷ xs) zero (suc q) e f few =
    let here : x ≡ n = cc in let t = times_here n x xs here in let c = counted n xs q f in
    absurd (omega arith)
same_place n (x ∷ xs) (suc p) zero e f few =
    let here : x ≡ n = cc in let t = times_here n x xs here in let c = counted n xs p e in
    absurd (omega arith)
same_place n (x ∷ xs) (suc p) (suc q) e f few =
    let more = times_more n x xs in ap suc (same_place n xs p q e f (omega arith))

-- and one that is counted stands somewhere
stands_first : (n x : ℕ) (xs : List ℕ) (b : Bool) → (x == n) ≡ b → 1 ≤ cond b 1 0 + times n xs
    → (1 ≤ times n xs → (p : ℕ) × (slice_get xs p ≡ Some n)) → (p : ℕ) × (slice_get (x ∷ xs) p ≡ Some n)
stands_first n x xs true e k behind = let same : x ≡ n = grind (arith, nat_tests) in (0, ap Some same)
stands_first n x xs false e k behind = let rest = behind (omega arith) in (suc rest.0, rest.1)

stands_at : (n : ℕ) (xs : List ℕ) → 1 ≤ times n xs → (p : ℕ) × (slice_get xs p ≡ Some n)
stands_at n [] h = absurd (omega arith)
stands_at n (x ∷ xs) h = stands_first n x xs (x == n) refl h (λ k. stands_at n xs k)

-- The same among the sources of all stages.

abbrev StandsAt : List Stage → ℕ → ℕ → ℕ → Type 0
StandsAt stages i p n =
    (stage : Stage) × (slice_get stages i ≡ Some stage) × (slice_get stage.sources p ≡ Some n)

front : (n : ℕ) (stage : Stage) (stages : List Stage) (p : ℕ) → StandsAt (stage ∷ stages) 0 p n
    → slice_get stage.sources p ≡ Some n
front n stage stages p h = let e = h.1 in let same : stage ≡ h.0 = cc in rw same h.2

counted_among : (n : ℕ) (stages : List Stage) (i p : ℕ) → StandsAt stages i p n
    → 1 ≤ times n (all_sources stages)
counted_among n [] i p h = let e = h.1 in cc
counted_among n (stage ∷ stages) zero p h =
    let here = counted n stage.sources p (front n stage stages p h) in
    rw (times_append n stage.sources (all_sources stages)) (omega arith)
counted_among n (stage ∷ stages) (suc i) p h =
    let ih = counted_among n stages i p h in
    rw (times_append n stage.sources (all_sources stages)) (omega arith)

same_among : (n : ℕ) (stages : List Stage) (i p j q : ℕ) → StandsAt stages i p n
    → StandsAt stages j q n → times n (all_sources stages) ≤ 1 → (i ≡ j) × (p ≡ q)
same_among n [] i p j q h k few = let e = h.1 in cc
same_among n (stage ∷ stages) zero p zero q h k few =
    let all = times_append n stage.sources (all_sources stages) in
    (refl, same_place n stage.sources p q (front n stage stages p h) (front n stage stages q k) (omega arith))
same_among n (stage ∷ stages) zero p (suc j) q h k few =
    let all = times_append n stage.sources (all_sources stages) in
    let a = counted n stage.sources p (front n stage stages p h) in
    let b = counted_among n stages j q k in absurd (omega arith)
same_among n (stage ∷ stages) (suc i) p zero q h k few =
    let all = times_append n stage.sources (all_sources stages) in
    let a = counted n stage.sources q (front n stage stages q k) in
    let b = counted_among n stages i p h in absurd (omega arith)
same_among n (stage ∷ stages) (suc i) p (suc j) q h k few =
    let all = times_append n stage.sources (all_sources stages) in
    let ih = same_among n stages i p j q h k (omega arith) in (ap suc ih.0, ih.1)

record Found (stages : List Stage) (n : ℕ) : Type 0 where
  reader : ℕ
  place : ℕ
  at : StandsAt stages reader place n

found_first : (n : ℕ) (stage : Stage) (stages : List Stage) (t : ℕ) → times n stage.sources ≡ t
    → 1 ≤ times n stage.sources + times n (all_sources stages)
    → (1 ≤ times n (all_sources stages) → Found stages n) → Found (stage ∷ stages) n
found_first n stage stages zero e k rest =
    let ih = rest (omega arith) in record { reader = suc ih.reader; place = ih.place; at = ih.at }
found_first n stage stages (suc t) e k rest =
    let here = stands_at n stage.sources (omega arith) in
    record { reader = 0; place = here.0; at = (stage, refl, here.1) }

found_among : (n : ℕ) (stages : List Stage) → 1 ≤ times n (all_sources stages) → Found stages n
found_among n [] h = absurd (omega arith)
found_among n (stage ∷ stages) h =
    let all = times_append n stage.sources (all_sources stages) in
    found_first n stage stages (times n stage.sources) refl (omega arith) (λ k. found_among n stages k)

-- Places in lists.

there : {A : Type 0} (xs : List A) (k : ℕ) → k < length xs → (x : A) × (slice_get xs k ≡ Some x)
there [] k less = absurd (omega arith)
there (x ∷ xs) zero less = (x, refl)
there (x ∷ xs) (suc k) less = there xs k (omega arith)

-- Parts of stages.

pub parts_length : (k : ℕ) (bytes : ℕ → List ℕ) (stages : List Stage)
    → length (parts_from k bytes stages) ≡ length stages
parts_length k bytes [] = refl
parts_length k bytes (stage ∷ stages) = ap suc (parts_length (suc k) bytes stages)

part_is : (k : ℕ) (bytes : ℕ → List ℕ) (stages : List Stage) (i j : ℕ) (stage : Stage) → j ≡ k + i
    → slice_get stages i ≡ Some stage → part_at (parts_from k bytes stages) i ≡ part_of j (bytes j) stage
part_is k bytes [] i j stage at e = cc
part_is k bytes (first ∷ stages) zero j stage at e =
    let same : first ≡ stage = cc in
    let is : k ≡ j = omega (arith, at) in
    subst (λ (n : ℕ). part_of k (bytes k) first ≡ part_of n (bytes n) stage) is (ap (part_of k (bytes k)) same)
part_is k bytes (first ∷ stages) (suc i) j stage at e =
    part_is (suc k) bytes stages i j stage (omega (arith, at)) e

pub part_here : (bytes : ℕ → List ℕ) (stages : List Stage) (k : ℕ) (stage : Stage)
    → slice_get stages k ≡ Some stage → part_at (parts_of bytes stages) k ≡ part_of k (bytes k) stage
part_here bytes stages k stage e = part_is 0 bytes stages k k stage (omega arith) e

sound_from : (k : ℕ) (stages : List Stage) (i j : ℕ) (stage : Stage) → j ≡ k + i + 1 → AreSoundFrom k stages
    → slice_get stages i ≡ Some stage → IsSoundBy j stage.options
sound_from k [] i j stage at h e = cc
sound_from k (first ∷ stages) zero j stage at h e =
    let same : first ≡ stage = cc in
    let is : k + 1 ≡ j = omega (arith, at) in
    subst (λ (n : ℕ). IsSoundBy n stage.options) is (subst (λ (s : Stage). IsSoundBy (k + 1) s.options) same h.0)
sound_from k (first ∷ stages) (suc i) j stage at h e =
    sound_from (suc k) stages i j stage (omega (arith, at)) h.1 e

sound_at : (stages : List Stage) (k : ℕ) (stage : Stage) → AreSoundFrom 0 stages
    → slice_get stages k ≡ Some stage → IsSoundBy (k + 1) stage.options
sound_at stages k stage h e = sound_from 0 stages k (k + 1) stage (omega arith) h e

below_all : (k : ℕ) (xs : List ℕ) → AllByRecursion (λ s. (1 ≤ s) × (s ≤ k)) xs
    → AllByRecursion (λ s. s < k) (map pred xs)
below_all k [] h = tt
below_all k (zero ∷ xs) h = let low = h.0.0 in absurd (omega arith)
below_all k (suc x ∷ xs) h = let high = h.0.1 in (omega arith, below_all k xs h.1)

is_part : (count k : ℕ) (bytes sources : List ℕ) (options : Options) → MayHave options (length sources)
    → AllByRecursion (λ s. (1 ≤ s) × (s ≤ k)) sources → IsSoundBy (k + 1) options
    → (k + 1 < count → drops_interpretations options ≡ false)
    → IsPart count k (part_by k bytes sources options)
is_part count k bytes sources (Read name) may lower sound gives = tt
is_part count k bytes sources Assemble may lower sound gives = below_all k sources lower
is_part count k bytes [] (Takes options) may lower sound gives = cc
is_part count k bytes (zero ∷ []) (Takes options) may lower sound gives =
    let low = lower.0.0 in absurd (omega arith)
is_part count k bytes (suc x ∷ []) (Takes options) may lower sound gives =
    let high = lower.0.1 in (omega arith, sound.0, sound.1, λ less. sound.2 (gives less))
is_part count k bytes (x ∷ y ∷ xs) (Takes options) may lower sound gives = absurd (omega arith)

sources_are : (k : ℕ) (bytes sources : List ℕ) (options : Options) → MayHave options (length sources)
    → sources_of (part_by k bytes sources options) ≡ map pred sources
sources_are k bytes [] (Read name) may = refl
sources_are k bytes (x ∷ xs) (Read name) may = cc
sources_are k bytes sources Assemble may = refl
sources_are k bytes [] (Takes options) may = cc
sources_are k bytes (x ∷ []) (Takes options) may = refl
sources_are k bytes (x ∷ y ∷ xs) (Takes options) may = absurd (omega arith)

source_of : (sources : List ℕ) (p k i : ℕ) → AllByRecursion (λ s. (1 ≤ s) × (s ≤ i)) sources
    → option_map pred (slice_get sources p) ≡ Some k
    → (slice_get sources p ≡ Some (k + 1)) × (k + 1 ≤ i)
source_of [] p k i h e = cc
source_of (zero ∷ xs) zero k i h e = let low = h.0.0 in absurd (omega arith)
source_of (suc x ∷ xs) zero k i h e =
    let same : x ≡ k = cc in let high = h.0.1 in (ap Some (omega arith), omega arith)
source_of (x ∷ xs) (suc p) k i h e = source_of xs p k i h.1 e

-- The tree.

pub is_tree : (bytes : ℕ → List ℕ) (stages : List Stage) → plan.IsTree stages → AreSoundFrom 0 stages
    → IsTree (parts_of bytes stages)
is_tree bytes stages h sound = record {
  some = rw count h.some;
  each = λ k less. each k (rw count at less);
  read = λ k less. read k (rw count at less);
  once = λ i p j q k a b. once i p j q k a b;
}
  where
    count : length (parts_of bytes stages) ≡ length stages
    count = parts_length 0 bytes stages

    each : (k : ℕ) → k < length stages → IsPart (length (parts_of bytes stages)) k (part_at (parts_of bytes stages) k)
    each k less =
        let s = there stages k less in
        rw (part_here bytes stages k s.0 s.1) (is_part _ k (bytes k) s.0.sources s.0.options
        (h.counts k s.0 s.1) (h.lower k s.0 s.1) (sound_at stages k s.0 sound s.1)
        (λ more. h.scores k s.0 s.1 (rw count at more)))

    sources : (k : ℕ) (stage : Stage) → slice_get stages k ≡ Some stage
        → sources_of (part_at (parts_of bytes stages) k) ≡ map pred stage.sources
    sources k stage e =
        rw (part_here bytes stages k stage e) (sources_are k (bytes k) stage.sources stage.options (h.counts k stage e))

    read : (k : ℕ) → k + 1 < length stages → IsRead (parts_of bytes stages) k
    read k less =
        let counted : times (k + 1) (all_sources stages) ≡ 1 = h.once (k + 1) (omega arith) less in
        let found = found_among (k + 1) stages (omega arith) in
        let inside : found.reader < length stages = slice_get_within stages found.reader found.at.0 found.at.1 in
        record {
          reader = found.reader;
          place = found.place;
          read = record {
            within = rw count inside;
            source = rw (sources found.reader found.at.0 found.at.1)
                (rw (slice_get-map pred found.at.0.sources found.place, found.at.2) (ap Some (omega arith)));
          };
        }

    stands : (i p k : ℕ) → IsReadAt (parts_of bytes stages) i p k
        → StandsAt stages i p (k + 1) × (k + 1 < length stages)
    stands i p k a =
        let inside : i < length stages = rw count at a.within in
        let s = there stages i inside in
        let mapped_source : option_map pred (slice_get s.0.sources p) ≡ Some k =
        rw (sources i s.0 s.1, slice_get-map pred s.0.sources p) at a.source in
        let found = source_of s.0.sources p k i (h.lower i s.0 s.1) mapped_source in
        ((s.0, s.1, found.0), omega arith)

    once : (i p j q k : ℕ) → IsReadAt (parts_of bytes stages) i p k
        → IsReadAt (parts_of bytes stages) j q k → (i ≡ j) × (p ≡ q)
    once i p j q k a b =
        let x = stands i p k a in
        let y = stands j q k b in
        let counted : times (k + 1) (all_sources stages) ≡ 1 = h.once (k + 1) (omega arith) x.1 in
        same_among (k + 1) stages i p j q x.0 y.0 (omega arith)

narrow : (options : Options) (n : ℕ) → MayHave options n → n ≤ 15
narrow (Read name) n may = omega arith
narrow Assemble n may = may.1
narrow (Takes options) n may = omega arith

-- No stage has more than 15 sources.
pub few_sources : (bytes : ℕ → List ℕ) (stages : List Stage) → plan.IsTree stages
    → (k : ℕ) → k < length (parts_of bytes stages)
    → length (sources_of (part_at (parts_of bytes stages) k)) ≤ 15
few_sources bytes stages h k less =
    let s = there stages k (rw (parts_length 0 bytes stages) at less) in
    let may = h.counts k s.0 s.1 in
    rw (
      part_here bytes stages k s.0 s.1,
      sources_are k (bytes k) s.0.sources s.0.options may,
      length-map s.0.sources pred,
    ) (narrow s.0.options (length s.0.sources) may)

pub stage_there : (stages : List PlanStage) (k : ℕ) (stage : PlanStage) → slice_get stages k ≡ Some stage
    → slice_get (stages_of stages) k ≡ Some (stage_of stage)
stage_there stages k stage e = rw (slice_get-map stage_of stages k, e) refl

are_narrow_at : (stages : List PlanStage)
    → ((k : ℕ) (stage : PlanStage) → slice_get stages k ≡ Some stage → length stage.sources.items ≤ 15)
    → AreNarrow stages
are_narrow_at [] h = tt
are_narrow_at (stage ∷ stages) h = (h 0 stage refl, are_narrow_at stages (λ k s e. h (suc k) s e))

pub are_narrow : (stages : List PlanStage) → plan.IsTree (stages_of stages) → AreNarrow stages
are_narrow stages h =
    are_narrow_at stages (λ k stage e. narrow (options_of stage.options) (length stage.sources.items)
    (h.counts k (stage_of stage) (stage_there stages k stage e)))

-- Where all stages give scores, so does the last.
keeps : (k : ℕ) (bytes sources : List ℕ) (options : Options) → IsSoundBy (k + 1) options
    → drops_interpretations options ≡ false
    → KeepsFine fine (kind_of (k + 1) (part_by k bytes sources options)).stage
keeps k bytes sources (Read name) sound gives = reading.keeps_fine (k + 1) bytes
keeps k bytes sources Assemble sound gives = merging.keeps_fine (k + 1) (map pred sources)
keeps k bytes sources (Takes options) sound gives =
    single.keeps_fine (first_of sources) (means (k + 1) options) sound.0 (sound.2 gives)

pub last_keeps : (bytes : ℕ → List ℕ) (stages : List Stage) → plan.IsTree stages → AreSoundFrom 0 stages
    → AllGiveScores stages
    → KeepsFine fine (kind_at (parts_of bytes stages) (pred (length (parts_of bytes stages)))).stage
last_keeps bytes stages h sound all =
    let k = pred (length stages) in
    let few = h.some in
    let s = there stages k (omega arith) in
    rw (parts_length 0 bytes stages, part_here bytes stages k s.0 s.1)
    (keeps k (bytes k) s.0.sources s.0.options (sound_at stages k s.0 sound s.1) (all k s.0 s.1))

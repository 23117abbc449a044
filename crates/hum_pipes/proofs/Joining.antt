-- Two plans one behind the other, and one plan with the stages of both.
use Rattle.std.proofs.Common.{◌≡◌, ◌∙◌, refl, sym, ap, subst, ℕ, zero, suc, pred, ◌+◌, ◌<◌, ◌≤◌, true, List, [], ◌∷◌, map, length, length-append, append-nil, Option, None, Some, arith}
use Rattle.std.specs.List.{AllByRecursion}
use Rattle.std.proofs.lemmas.Bool.Decides.{nat_tests}
use Rattle.std.proofs.lemmas.List.{length-map}
use Rattle.std.proofs.lemmas.Option.{same_Some}
use Rattle.hum_score.specs.Row.{Row, text_of}
use Rattle.hum_stage.specs.declared.faults.Rule.{Rule}
use Rattle.hum_stage.specs.declared.faults.Fault.{Fault}
use Rattle.hum_stage.specs.declared.faults.End.{End}
use Rattle.hum_stage.specs.declared.faults.End.TheVariants.{Closed, Broken}
use Rattle.hum_turns.specs.Flow.{Flow, Begins, AllOver, AllFine}
use Rattle.hum_turns.specs.Plan.{or_own, whole}
use Rattle.hum_turns.specs.Meaning.{meaning, own_of, first_fault}
use Rattle.hum_turns.specs.Text.{text}
use Rattle.hum_turns.proofs.Against.{meaning_is}
use Rattle.hum_turns.proofs.Fronts.{map_same}
use Rattle.hum_turns.proofs.Faults.{whose_fault}
use Rattle.hum_turns.proofs.Writing.{text_append}
use Rattle.hum_read.specs.Denoted.{score_of, end_at}
use Rattle.hum_nodes.specs.Fine.{fine}
use Rattle.hum_nodes.specs.Reading.{is_ended}
use Rattle.hum_nodes.specs.Trees.{Part, Reads, Through, Beside, kind_of, part_at, plan_of, meaning_of, IsPart, IsTree}
use Rattle.hum_nodes.proofs.TreeLaws.{is_plan, is_numbered}
use Rattle.hum_valid.specs.Written.{left_open, IsReadAgain}
use Rattle.hum_valid.proofs.Again.{read_again}
use Rattle.hum_valid.proofs.Trees.{inputs_fine, made_over}
use Rattle.hum_pipes.specs.Piped.{text_of_plan, moved_part, moved_flow, second, places, one_plan, ArePiped, PipesArePipes}
use Rattle.hum_turns.specs.Plan.{KeepsFine}
use Rattle.hum_turns.proofs.Against.{meaning_fine}
use Rattle.hum_turns.proofs.States.{last_less}
use Rattle.hum_read.specs.Denoted.{standard}
use Rattle.hum_nodes.specs.Fine.{IsFine}
use Rattle.hum_nodes.proofs.Fining.{fine_is}
use Rattle.hum_nodes.proofs.ReadingLaws as reading
use Rattle.hum_nodes.proofs.SingleLaws as single
use Rattle.hum_nodes.proofs.MergingLaws as merging
use Rattle.hum_valid.specs.Records.{AreRecords}
use Rattle.hum_valid.proofs.Trees.{tree_records}
use Rattle.hum_pipes.specs.Piped.{MakesScore}
use Rattle.hum_pipes.proofs.OneTree.{one_tree}
use Rattle.hum_pipes.proofs.Places.{front_part, behind_part, moved_at, some_first}
use Rattle.hum_pipes.proofs.Moving.{AllRelated, IsMoved, moved_whole}
use Rattle.hum_pipes.proofs.Under.{IsUnder, IsSound, IsFull, under_whole}

-- a part further down reads from further down
moved_sources : (number other n : ℕ) (part : Part)
    → (kind_of other (moved_part n part)).stage.sources ≡ map (λ s. s + n) (kind_of number part).stage.sources
moved_sources number other n (Reads bytes) = refl
moved_sources number other n (Through from command) = refl
moved_sources number other n (Beside from) = refl

-- flows at places further down, place by place
related : (Related : Flow Row → Flow Row → Type 0) (f g : ℕ → Flow Row) (n : ℕ) (P : ℕ → Type 0)
    → ((s : ℕ) → P s → Related (f (s + n)) (g s)) → (ss : List ℕ) → AllByRecursion P ss
    → AllRelated Related (map f (map (λ s. s + n) ss)) (map g ss)
related Related f g n P h [] p = tt
related Related f g n P h (s ∷ ss) p = (h s p.0, related Related f g n P h ss p.1)

-- What a stage makes of its sources' meanings, by its part.
pub made : (parts : List Part) → IsTree parts → (k : ℕ) → k < length parts → (part : Part) → part_at parts k ≡ part
    → meaning (plan_of parts) k
    ≡ whole (kind_of (k + 1) part).stage (map (meaning (plan_of parts)) (kind_of (k + 1) part).stage.sources)
made parts tree k less part is =
    meaning_is (plan_of parts) k (is_plan parts tree) less
    ∙ ap (λ (p : Part). whole (kind_of (k + 1) p).stage (map (meaning (plan_of parts)) (kind_of (k + 1) p).stage.sources)) is

-- the sources, by the part
lower_by : (parts : List Part) → IsTree parts → (k : ℕ) → k < length parts → (part : Part) → part_at parts k ≡ part
    → AllByRecursion (λ s. s < k) (kind_of (k + 1) part).stage.sources
lower_by parts tree k less part is =
    subst (λ (p : Part). AllByRecursion (λ s. s < k) (kind_of (k + 1) p).stage.sources) is ((is_plan parts tree).below k less)

pub fine_by : (parts : List Part) → IsTree parts → (k : ℕ) → k < length parts → (part : Part) → part_at parts k ≡ part
    → AllFine fine (map (meaning (plan_of parts)) (kind_of (k + 1) part).stage.sources)
fine_by parts tree k less part is =
    subst (λ (p : Part). AllFine fine (map (meaning (plan_of parts)) (kind_of (k + 1) p).stage.sources)) is (inputs_fine parts tree k less)

sound_by : (count k : ℕ) (part : Part) → IsPart count k part → IsSound part
sound_by count k (Reads bytes) h = tt
sound_by count k (Through from command) h = h.1
sound_by count k (Beside from) h = tt

same_count : (number : ℕ) (part : Part) → length (kind_of number part).stage.sources ≡ length (kind_of 0 part).stage.sources
same_count number (Reads bytes) = refl
same_count number (Through from command) = refl
same_count number (Beside from) = refl

-- what is known of both
record Ready (first rest : List Part) : Type 0 where
  first_plan : IsTree first
  second_plan : IsTree (second first rest)
  joined : IsTree (one_plan first rest)
  records : AreRecords (meaning_of first).items
  score : IsFine 4294967295 (meaning_of first)
  small : length (text_of_plan first) ≤ standard.bytes

module _ (first rest : List Part) (h : Ready first rest) where
  abbrev joined : List Part
  joined = one_plan first rest

  abbrev behind : List Part
  behind = second first rest

  abbrev n : ℕ
  n = places first

  many : length first ≡ suc n
  many = some_first (length first) h.first_plan.some

  count : length joined ≡ length first + length rest
  count = length-append first (map (moved_part n) rest) ∙ ap (λ k. length first + k) (length-map rest (moved_part n))

  -- The stages of the first mean there what they mean alone.
  same_front : (m k : ℕ) → k < m → k < length first → meaning (plan_of joined) k ≡ meaning (plan_of first) k
  same_front zero k less within = absurd (omega (arith, less))
  same_front (suc m) k less within =
      let part = part_at first k in
      let lower = lower_by first h.first_plan k within part refl in
      made joined h.joined k (omega (arith, within, count)) part (front_part first (map (moved_part n) rest) k within)
      ∙ ap (whole (kind_of (k + 1) part).stage)
      (map_same (meaning (plan_of joined)) (meaning (plan_of first)) (λ s. s < k)
      (λ s b. same_front m s (omega (arith, b, less)) (omega (arith, b, within))) (kind_of (k + 1) part).stage.sources lower)
      ∙ sym (made first h.first_plan k within part refl)

  at_seam : meaning (plan_of joined) (0 + n) ≡ meaning_of first
  at_seam =
      let zeros : 0 + n ≡ n = omega arith in
      ap (meaning (plan_of joined)) zeros ∙ same_front (suc n) n (omega arith) (omega (arith, many))

  -- What the second reads is what the first means.
  again : IsReadAgain (meaning_of first).items
  again =
      read_again (meaning_of first).items
      (record { records = h.records; score = h.score.score; few = h.score.few; small = h.small })

  what_is_read : meaning (plan_of behind) 0
      ≡ record { items = (meaning_of first).items; end = Some (end_at 1 (left_open (meaning_of first).items)) }
  what_is_read =
      let T = text_of_plan first in
      let all : is_ended T (length T + 1) ≡ true = grind (arith, nat_tests) in
      made behind h.second_plan 0 (omega arith) (Reads T) refl
      ∙ rw all (by (score_of T).rows (score_of T).fault again.rows again.fault)
    where
      by : (xs : List Row) (o : Option (ℕ × Rule)) → xs ≡ (meaning_of first).items → o ≡ left_open (meaning_of first).items
          → ◌≡◌ {A = Flow Row} (record { items = xs; end = Some (end_at 1 o) })
          (record { items = (meaning_of first).items; end = Some (end_at 1 (left_open (meaning_of first).items)) })
      by xs o p q = rw (p, q) refl

  -- Where flows at the seam are related, all behind it are.
  module _ (Related : Flow Row → Flow Row → Type 0) (seam : Related (meaning (plan_of joined) (0 + n)) (meaning (plan_of behind) 0))
      (step : (number : ℕ) (part : Part) (xs ys : List (Flow Row)) → IsSound part → IsFull part xs → IsFull part ys
      → AllFine fine xs → AllFine fine ys → AllOver xs → AllRelated Related xs ys
      → Related (whole (kind_of (number + n) (moved_part n part)).stage xs) (whole (kind_of number part).stage ys)) where
    all_related : (m k : ℕ) → k < m → k < length behind → Related (meaning (plan_of joined) (k + n)) (meaning (plan_of behind) k)
    all_related zero k less within = absurd (omega (arith, less))
    all_related (suc m) zero less within = seam
    all_related (suc m) (suc k) less within =
        let part = part_at rest k in
        let there : suc k + n ≡ length first + k = omega (arith, many) in
        let inside : suc k + n < length joined = omega (arith, within, count, many) in
        let is : part_at joined (suc k + n) ≡ moved_part n part =
        ap (part_at joined) there ∙ behind_part first (map (moved_part n) rest) k ∙ moved_at n rest k in
        let number : suc k + n + 1 ≡ suc k + 1 + n = omega arith in
        let ss = (kind_of (suc k + 1) part).stage.sources in
        let from : (kind_of (suc k + n + 1) (moved_part n part)).stage.sources ≡ map (λ s. s + n) ss =
        moved_sources (suc k + 1) (suc k + n + 1) n part in
        let lower = lower_by behind h.second_plan (suc k) within part refl in
        let xs = map (meaning (plan_of joined)) (map (λ s. s + n) ss) in
        let ys = map (meaning (plan_of behind)) ss in
        let fines : AllFine fine xs =
        subst (λ (l : List ℕ). AllFine fine (map (meaning (plan_of joined)) l)) from (fine_by joined h.joined (suc k + n) inside (moved_part n part) is) in
        let over : AllOver xs =
        over_all ss lower in
        let before = related Related (meaning (plan_of joined)) (meaning (plan_of behind)) n (λ s. s < suc k)
        (λ s b. all_related m s (omega (arith, b, less)) (omega (arith, b, within))) ss lower in
        let full : IsFull part xs =
        length-map (map (λ s. s + n) ss) (meaning (plan_of joined)) ∙ length-map ss (λ s. s + n) ∙ same_count (suc k + 1) part in
        let full' : IsFull part ys = length-map ss (meaning (plan_of behind)) ∙ same_count (suc k + 1) part in
        let does = step (suc k + 1) part xs ys (sound_by (length behind) (suc k) part (h.second_plan.each (suc k) within)) full full'
        fines (fine_by behind h.second_plan (suc k) within part refl) over before in
        let one : meaning (plan_of joined) (suc k + n) ≡ whole (kind_of (suc k + 1 + n) (moved_part n part)).stage xs =
        made joined h.joined (suc k + n) inside (moved_part n part) is
        ∙ ap (λ (l : List ℕ). whole (kind_of (suc k + n + 1) (moved_part n part)).stage (map (meaning (plan_of joined)) l)) from
        ∙ ap (λ (i : ℕ). whole (kind_of i (moved_part n part)).stage xs) number in
        subst (λ (f : Flow Row). Related (meaning (plan_of joined) (suc k + n)) f) (sym (made behind h.second_plan (suc k) within part refl))
        (subst (λ (f : Flow Row). Related f (whole (kind_of (suc k + 1) part).stage ys)) (sym one) does)
      where
        over_all : (ss : List ℕ) → AllByRecursion (λ s. s < suc k) ss → AllOver (map (meaning (plan_of joined)) (map (λ s. s + n) ss))
        over_all [] p = tt
        over_all (s ∷ ss) p = (made_over joined h.joined (s + n) (omega (arith, p.0, within, count, many)), over_all ss p.1)

  at_last : meaning_of joined ≡ meaning (plan_of joined) (length rest + n)
  at_last = let last : pred (length joined) ≡ length rest + n = omega (arith, count, many) in ap (meaning (plan_of joined)) last

  -- Where no stage of the first refuses.

  seam_moved : (meaning_of first).end ≡ Some Closed → IsMoved n (meaning (plan_of joined) (0 + n)) (meaning (plan_of behind) 0)
  seam_moved ends =
      let none : left_open (meaning_of first).items ≡ None = rw (h.score.closed ends).1 refl in
      at_seam ∙ ap (flow (meaning_of first).items) ends
      ∙ ap (λ (o : Option (ℕ × Rule)). moved_flow n (flow (meaning_of first).items (Some (end_at 1 o)))) (sym none)
      ∙ ap (moved_flow n) (sym what_is_read)
    where
      flow : List Row → Option End → Flow Row
      flow xs o = record { items = xs; end = o }

  all_moved : (meaning_of first).end ≡ Some Closed → meaning_of joined ≡ moved_flow n (meaning_of behind)
  all_moved ends =
      at_last
      ∙ all_related (IsMoved n) (seam_moved ends)
      (λ number part xs ys sound full full' f g over r. moved_whole n number part xs ys f g r)
      (suc (length rest)) (length rest) (omega arith) (omega arith)

  -- Where one does.

  seam_under : (fault : Fault) → (meaning_of first).end ≡ Some (Broken fault)
      → IsUnder (meaning (plan_of joined) (0 + n)) (meaning (plan_of behind) 0)
  seam_under fault ends =
      subst (λ (a : Flow Row). IsUnder a (meaning (plan_of behind) 0)) (sym at_seam)
      (subst (λ (b : Flow Row). IsUnder (meaning_of first) b) (sym what_is_read)
      (record { front = ([], append-nil (meaning_of first).items); closed = λ e. absurd (apart (sym ends ∙ e)) }))
    where
      apart : ◌≡◌ {A = Option End} (Some (Broken fault)) (Some Closed) → ⊥
      apart e = cc

  all_under : (fault : Fault) → (meaning_of first).end ≡ Some (Broken fault) → IsUnder (meaning_of joined) (meaning_of behind)
  all_under fault ends =
      subst (λ (a : Flow Row). IsUnder a (meaning_of behind)) (sym at_last)
      (all_related IsUnder (seam_under fault ends) (λ number part xs ys sound full full' f g over r.
      under_whole number n part xs ys sound full full' f g over r)
      (suc (length rest)) (length rest) (omega arith) (omega arith))

  -- The first fault is the first plan's.

  own_front : (k : ℕ) → k < length first → own_of (plan_of joined) k ≡ own_of (plan_of first) k
  own_front k within =
      let part = part_at first k in
      ap (λ (p : Part). (kind_of (k + 1) p).stage.own (kind_of (k + 1) p).stage.bytes (map (meaning (plan_of joined)) (kind_of (k + 1) p).stage.sources))
      (front_part first (map (moved_part n) rest) k within)
      ∙ ap ((kind_of (k + 1) part).stage.own (kind_of (k + 1) part).stage.bytes)
      (map_same (meaning (plan_of joined)) (meaning (plan_of first)) (λ s. s < k)
      (λ s b. same_front k s b (omega (arith, b, within))) (kind_of (k + 1) part).stage.sources
      (lower_by first h.first_plan k within part refl))

  fault_front : (k : ℕ) → k ≤ length first → first_fault (plan_of joined) k ≡ first_fault (plan_of first) k
  fault_front zero within = refl
  fault_front (suc k) within =
      ap (λ (e : End). or_own e (own_of (plan_of joined) k)) (fault_front k (omega (arith, within)))
      ∙ ap (or_own (first_fault (plan_of first) k)) (own_front k (omega (arith, within)))

  fault_stays : (fault : Fault) → first_fault (plan_of first) (length first) ≡ Broken fault → (j : ℕ)
      → first_fault (plan_of joined) (length first + j) ≡ Broken fault
  fault_stays fault is zero =
      let zeros : length first + 0 ≡ length first = omega arith in
      ap (first_fault (plan_of joined)) zeros ∙ fault_front (length first) (omega arith) ∙ is
  fault_stays fault is (suc j) =
      let next : length first + suc j ≡ suc (length first + j) = omega arith in
      ap (first_fault (plan_of joined)) next
      ∙ ap (λ (e : End). or_own e (own_of (plan_of joined) (length first + j))) (fault_stays fault is j)

  ends_so : (parts : List Part) → IsTree parts → (meaning_of parts).end ≡ Some (first_fault (plan_of parts) (length parts))
  ends_so parts tree = whose_fault (plan_of parts) (is_plan parts tree) (is_numbered parts tree)

  same_fault : (fault : Fault) → (meaning_of first).end ≡ Some (Broken fault) → (meaning_of joined).end ≡ Some (Broken fault)
  same_fault fault ends =
      let is : first_fault (plan_of first) (length first) ≡ Broken fault = same_Some _ _ (sym (ends_so first h.first_plan) ∙ ends) in
      ends_so joined h.joined
      ∙ ap (λ (k : ℕ). Some (first_fault (plan_of joined) k)) count
      ∙ ap (λ (e : End). Some e) (fault_stays fault is (length rest))

text_front : (xs ys : List Row) → Begins xs ys → Begins (text text_of xs) (text text_of ys)
text_front xs ys b = (text text_of b.0, sym (text_append text_of xs b.0) ∙ ap (text text_of) b.1)

-- the first gives a score
last_fine : (all k : ℕ) (part : Part) → IsPart all k part → MakesScore part → KeepsFine fine (kind_of (k + 1) part).stage
last_fine all k (Reads bytes) h keeps = reading.keeps_fine (k + 1) bytes
last_fine all k (Through from m) h keeps = single.keeps_fine from m h.1 keeps
last_fine all k (Beside from) h keeps = merging.keeps_fine (k + 1) from

ready : (first rest : List Part) → ArePiped first rest → Ready first rest
ready first rest h =
    let tree = h.first_plan in
    let last = last_less (length first) tree.some in
    record {
      first_plan = tree;
      second_plan = h.second_plan;
      joined = one_tree first rest tree h.second_plan h.score;
      records = tree_records first tree h.records;
      score = fine_is 4294967295 (meaning_of first)
          (meaning_fine (plan_of first) (is_plan first tree)
          (last_fine (length first) (places first) (part_at first (places first)) (tree.each (places first) last) h.score));
      small = h.small;
    }

pub pipes : PipesArePipes
pipes first rest piped =
    let h = ready first rest piped in
    record {
      plan = h.joined;
      same = all_moved first rest h;
      refused = λ fault ends. (
        same_fault first rest h fault ends,
        text_front (meaning_of (one_plan first rest)).items (meaning_of (second first rest)).items (all_under first rest h fault ends).front,
      );
    }

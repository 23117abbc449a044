-- Nodes, one after another.
use Rattle.std.proofs.Common.{◌≡◌, ◌∙◌, refl, sym, ap, subst, ℕ, suc, ◌+◌, ◌<◌, List, [], ◌∷◌, ◌++◌, length, drop, get_or, arith}
use Rattle.std.proofs.Common.{length-append, append_assoc}
use Rattle.std.proofs.lemmas.List.{append-nil, nil_from_length, drop_more}
use Rattle.hum_plan.specs.declared.stages.PlanStage.{PlanStage}
use Rattle.hum_plan.specs.Stages.{Stage}
use Rattle.hum_plan.specs.Seen.{options_of, stage_of, stages_of}
use Rattle.std.specs.Prelude.{Option}
use Rattle.hum_net.specs.Nodes.{AllFrom, AreTold, AreNarrow, readers_by, readers_of}

-- one stage more, and its node
all_push : {N : Type 0} (Holds : ℕ → PlanStage → N → Type 0) (k : ℕ) (stages : List PlanStage) (nodes : List N)
    (stage : PlanStage) (node : N) (j : ℕ) → j ≡ k + length stages → AllFrom Holds k stages nodes
    → Holds j stage node → AllFrom Holds k (stages ++ stage ∷ []) (nodes ++ node ∷ [])
all_push Holds k [] [] stage node j at h here =
    let is : j ≡ k = omega (arith, at) in (subst (λ (i : ℕ). Holds i stage node) is here, tt)
all_push Holds k [] (n ∷ nodes) stage node j at h here = absurd h
all_push Holds k (s ∷ stages) [] stage node j at h here = absurd h
all_push Holds k (s ∷ stages) (n ∷ nodes) stage node j at h here =
    (h.0, all_push Holds (suc k) stages nodes stage node j (omega (arith, at)) h.1 here)

pub all_length : {N : Type 0} (Holds : ℕ → PlanStage → N → Type 0) (k : ℕ) (stages : List PlanStage) (nodes : List N)
    → AllFrom Holds k stages nodes → length nodes ≡ length stages
all_length Holds k [] [] h = refl
all_length Holds k [] (n ∷ nodes) h = absurd h
all_length Holds k (s ∷ stages) [] h = absurd h
all_length Holds k (s ∷ stages) (n ∷ nodes) h =
    let rest = all_length Holds (suc k) stages nodes h.1 in omega arith

-- The nodes of the first stages were made, and the others are left.
pub record Built {N R : Type 0} (Holds : ℕ → PlanStage → N → Type 0)
    (Tell : (ℕ → List ℕ) → ℕ → PlanStage → N → Type 0) (remaining : R → Option (List ℕ))
    (all rest : List PlanStage) (readers left : List R) (nodes : List N) : Type 0 where
  pub front : List PlanStage
  pub split : all ≡ front ++ rest
  pub made : AllFrom Holds 0 front nodes
  pub told : (bytes : ℕ → List ℕ) → AreTold remaining bytes 0 (stages_of all) readers
      → AllFrom (Tell bytes) 0 front nodes × AreTold remaining bytes (length front) (stages_of rest) left
  pub many : readers_of (stages_of rest) ≡ length left
  pub narrow : AreNarrow rest

module _ {N R : Type 0} {Holds : ℕ → PlanStage → N → Type 0} {Tell : (ℕ → List ℕ) → ℕ → PlanStage → N → Type 0}
    {remaining : R → Option (List ℕ)} {all : List PlanStage} {readers : List R} where
  -- None was made yet.
  pub none_built : readers_of (stages_of all) ≡ length readers → AreNarrow all
      → Built Holds Tell remaining all all readers readers []
  none_built count narrow = record {
    front = [];
    split = refl;
    made = tt;
    told = λ bytes t. (tt, t);
    many = count;
    narrow = narrow;
  }

  -- The next stage is the one at this place.
  pub at_next : {i : ℕ} {stage : PlanStage} {left : List R} {nodes : List N}
      → Built Holds Tell remaining all (drop i all) readers left nodes → i < length all → stage ≡ get_or all i stage
      → Built Holds Tell remaining all (stage ∷ drop (i + 1) all) readers left nodes
  at_next {i} {stage} {left} {nodes} b below is =
      subst (λ rest. Built Holds Tell remaining all rest readers left nodes)
      (drop_more all i stage below ∙ ap (λ (s : PlanStage). s ∷ drop (i + 1) all) (sym is)) b

  -- There are fewer nodes than stages.
  pub fewer_built : {stage : PlanStage} {rest : List PlanStage} {left : List R} {nodes : List N}
      → Built Holds Tell remaining all (stage ∷ rest) readers left nodes → length nodes < length all
  fewer_built {stage} {rest} {left} {nodes} b =
      let count = all_length Holds 0 b.front nodes b.made in
      let parts = length-append b.front (stage ∷ rest) in
      let split = ap length b.split in
      omega (arith, count, parts, split)

  -- One more is made, of the stage that is next.
  pub one_built : {stage : PlanStage} {rest : List PlanStage} {left more : List R} {nodes : List N} {node : N} {k : ℕ}
      → Built Holds Tell remaining all (stage ∷ rest) readers left nodes → k ≡ length nodes → Holds k stage node
      → ((bytes : ℕ → List ℕ) (stages : List Stage) → AreTold remaining bytes k (stage_of stage ∷ stages) left
      → Tell bytes k stage node × AreTold remaining bytes (k + 1) stages more)
      → length more + readers_by (options_of stage.options) ≡ length left
      → Built Holds Tell remaining all rest readers more (nodes ++ node ∷ [])
  one_built {stage} {rest} {left} {more} {nodes} {node} {k} b count here told used =
      let n = all_length Holds 0 b.front nodes b.made in
      let is : k ≡ 0 + length b.front = omega (arith, n, count) in
      let many = b.many in
      record {
        front = b.front ++ stage ∷ [];
        split = b.split ∙ sym (append_assoc b.front (stage ∷ []) rest);
        made = all_push Holds 0 b.front nodes stage node k is b.made here;
        told = λ bytes t.
            let before = b.told bytes t in
            let at : length b.front ≡ k = omega (arith, is) in
            let now = told bytes (stages_of rest)
            (subst (λ i. AreTold remaining bytes i (stages_of (stage ∷ rest)) left) at before.1) in
            let l = length-append b.front (stage ∷ []) in
            let next : k + 1 ≡ length (b.front ++ stage ∷ []) = omega (arith, l, is) in (
              all_push (Tell bytes) 0 b.front nodes stage node k is before.0 now.0,
              subst (λ i. AreTold remaining bytes i (stages_of rest) more) next now.1,
            );
        many = omega (arith, many, used);
        narrow = b.narrow.1;
      }

  -- All were made.
  pub all_built : {rest : List PlanStage} {left : List R} {nodes : List N}
      → Built Holds Tell remaining all rest readers left nodes → length rest ≡ 0
      → AllFrom Holds 0 all nodes
      × ((bytes : ℕ → List ℕ) → AreTold remaining bytes 0 (stages_of all) readers → AllFrom (Tell bytes) 0 all nodes)
  all_built {rest} {left} {nodes} b none =
      let is : b.front ≡ all =
      sym (append-nil b.front) ∙ ap (λ l. b.front ++ l) (sym (nil_from_length rest none)) ∙ sym b.split in (
        subst (λ l. AllFrom Holds 0 l nodes) is b.made,
        λ bytes t. subst (λ l. AllFrom (Tell bytes) 0 l nodes) is (b.told bytes t).0,
      )

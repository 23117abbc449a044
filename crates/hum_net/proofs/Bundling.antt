-- Readers for a plan's stages, one after another, and what comes of a bundle.
use Rattle.std.proofs.Common.{◌≡◌, ◌∙◌, refl, sym, ap, subst, ℕ, zero, suc, ◌+◌, ◌≤◌, ◌⊎◌, inl, inr, arith}
use Rattle.std.proofs.Common.{Bool, false, List, [], ◌∷◌, ◌++◌, length, drop, append_assoc, append-nil}
use Rattle.std.specs.Prelude.{Option, Some, None, slice_get, is_none, if◌then◌else◌, ◌||◌}
use Rattle.std.proofs.lemmas.Option.{same_Some}
use Rattle.std.proofs.lemmas.List.{drop_all, length-append}
use Rattle.std.proofs.Math.Bool.{or-false}
use Rattle.hum_turns.specs.declared.result.RunResult.{RunResult}
use Rattle.hum_turns.specs.declared.result.RunResult.TheVariants as ends
use Rattle.hum_turns.specs.Orders.{Order}
use Rattle.hum_engine.specs.Readers.{is_read_of}
use Rattle.hum_plan.specs.declared.stages.PlanStage.{PlanStage}
use Rattle.hum_plan.specs.Stages as plan
use Rattle.hum_plan.specs.Seen.{stage_of, stages_of, options_of}
use Rattle.hum_plan.specs.Grammar.{IsPlanOf}
use Rattle.hum_net.specs.declared.outcome.Outcome.{Outcome}
use Rattle.hum_net.specs.declared.outcome.Outcome.TheVariants as outcome
use Rattle.hum_net.specs.Nodes.{readers_by, readers_of, ToldBy, AreTold}
use Rattle.hum_net.specs.Bundles.{score_by, bytes_by, or_empty, first_lacking, Adds, LacksHere}
use Rattle.hum_net.specs.Bundles.{LacksNow, LacksAt, LacksOne, IsRefusal, Comes, MayCome, Drives}
use Rattle.hum_net.specs.Bundles.{is_failed_write, is_read_by, Picks, Ends}
use Rattle.hum_net.specs.Runs.{HasWritten, HasPicked, HasEnded, HasDriven, IsUnasked}

-- What is left of some stages from stage k on.
rest_of : (stages : List PlanStage) (k : ℕ) {stage : PlanStage} → Some stage ≡ slice_get stages k
    → drop k stages ≡ stage ∷ drop (suc k) stages
rest_of [] k h = cc
rest_of (x ∷ xs) zero h = ap (λ (s : PlanStage). s ∷ xs) (sym (same_Some _ x h))
rest_of (x ∷ xs) (suc k) h = rest_of xs k h

-- The bytes of stage k are those of its score.
bytes_at : (score : List ℕ → Option (List ℕ)) (stages : List PlanStage) (k : ℕ) {stage : PlanStage}
    → Some stage ≡ slice_get stages k
    → bytes_by score (stages_of stages) k ≡ or_empty (score_by score (options_of stage.options))
bytes_at score [] k h = cc
bytes_at score (x ∷ xs) zero h =
    ap (λ (s : PlanStage). or_empty (score_by score (options_of s.options))) (sym (same_Some _ x h))
bytes_at score (x ∷ xs) (suc k) h = bytes_at score xs k h

-- It is stage k of what the stages are.
stage_there : (stages : List PlanStage) (k : ℕ) {stage : PlanStage} → Some stage ≡ slice_get stages k
    → slice_get (stages_of stages) k ≡ Some (stage_of stage)
stage_there [] k h = cc
stage_there (x ∷ xs) zero h = ap (λ (s : PlanStage). Some (stage_of s)) (sym (same_Some _ x h))
stage_there (x ∷ xs) (suc k) h = stage_there xs k h

-- As many readers as the stages before stage k want.
pub record Counted {R : Type 0} (stages : List PlanStage) (k : ℕ) (readers : List R) : Type 0 where
  pub count : readers_of (stages_of stages) ≡ length readers + readers_of (stages_of (drop k stages))

pub counted_none : {R : Type 0} {stages : List PlanStage} → Counted {R = R} stages 0 []
counted_none = record { count = omega arith }

pub counted_next : {R : Type 0} {stages : List PlanStage} {k : ℕ} {stage : PlanStage} {old new : List R}
    → Counted stages k old → Some stage ≡ slice_get stages k
    → length new ≡ length old + readers_by (options_of stage.options) → Counted stages (k + 1) new
counted_next {stages = stages} {k} {stage} {old} {new} counted here longer =
    let count = counted.count ∙ ap (λ s. length old + readers_of (stages_of s)) (rest_of stages k here) in
    let next : suc k ≡ k + 1 = omega arith in
    subst (λ n. Counted stages n new) next (record { count = omega (arith, count, longer) })

pub counted_all : {R : Type 0} {stages : List PlanStage} {k : ℕ} {readers : List R} → Counted stages k readers
    → length stages ≤ k → readers_of (stages_of stages) ≡ length readers
counted_all {stages = stages} {k} {readers} counted past =
    counted.count ∙ ap (λ s. length readers + readers_of (stages_of s)) (drop_all k stages past) ∙ omega arith

-- The stage whose score isn't there is one of them.
pub lacks_one : (stages : List PlanStage) (k : ℕ) {stage : PlanStage} → Some stage ≡ slice_get stages k
    → (is : Outcome) → LacksAt k (options_of stage.options) is → LacksOne (stages_of stages) is
lacks_one stages k {stage} here (outcome.NoScore number) h =
    record { place = k; stage = stage_of stage; is = stage_there stages k here; numbered = h.0; reads = h.1 }
lacks_one stages k here (outcome.Run end) h = h
lacks_one stages k here (outcome.Plan fault) h = h
lacks_one stages k here outcome.TooLarge h = h

-- Readers of the stages before stage k, in front of those of the rest.
pub record Filled {R : Type 0} (remaining : R → Option (List ℕ)) (score : List ℕ → Option (List ℕ))
    (stages : List PlanStage) (k : ℕ) (readers : List R) : Type 0 where
  pub tells : (rest : List R)
      → AreTold remaining (bytes_by score (stages_of stages)) k (stages_of (drop k stages)) rest
      → AreTold remaining (bytes_by score (stages_of stages)) 0 (stages_of stages) (readers ++ rest)
  pub lacks : first_lacking score 1 (stages_of stages)
      ≡ first_lacking score (suc k) (stages_of (drop k stages))

-- All are there.
pub record AllFilled {R : Type 0} (remaining : R → Option (List ℕ)) (score : List ℕ → Option (List ℕ))
    (stages : List PlanStage) (readers : List R) : Type 0 where
  pub there : first_lacking score 1 (stages_of stages) ≡ None
  pub told : AreTold remaining (bytes_by score (stages_of stages)) 0 (stages_of stages) readers

-- What one stage more adds.
record Adding {R : Type 0} (remaining : R → Option (List ℕ)) (score : List ℕ → Option (List ℕ)) (bytes : List ℕ)
    (options : plan.Options) (Rest : List R → Type 0) (old new rest : List R) : Type 0 where
  front : List R
  along : old ++ front ≡ new ++ rest
  told : ToldBy remaining bytes options Rest front
  there : is_none (score_by score options) ≡ false

module _ {R : Type 0} {remaining : R → Option (List ℕ)} {score : List ℕ → Option (List ℕ)} where
  adding : (options : plan.Options) (Rest : List R → Type 0) (old new rest : List R) {bytes : List ℕ}
      → bytes ≡ or_empty (score_by score options) → Adds remaining score options old new → Rest rest
      → Adding remaining score bytes options Rest old new rest
  adding (plan.Read name) Rest old new rest e adds h = record {
    front = adds.reader ∷ rest;
    along = sym (append_assoc old (adds.reader ∷ []) rest) ∙ ap (λ xs. xs ++ rest) (sym adds.adds);
    told = (adds.tells ∙ ap Some (sym (e ∙ ap or_empty adds.is_score)), h);
    there = ap is_none adds.is_score;
  }
  adding _ Rest old new rest e adds h = record {
    front = rest;
    along = ap (λ xs. xs ++ rest) (sym adds);
    told = h;
    there = refl;
  }

  pub filled_none : {stages : List PlanStage} → Filled remaining score stages 0 []
  filled_none = record { tells = λ rest h. h; lacks = refl }

  pub filled_next : {stages : List PlanStage} {k : ℕ} {stage : PlanStage} {old new : List R}
      → Filled remaining score stages k old → Some stage ≡ slice_get stages k
      → Adds remaining score (options_of stage.options) old new → Filled remaining score stages (k + 1) new
  filled_next {stages} {k} {stage} {old} {new} filled here adds =
      let bytes = bytes_by score (stages_of stages) in
      let front = rest_of stages k here in
      let one = adding (options_of stage.options) (λ xs. Unit {0}) old new [] refl adds tt in
      let lacks = filled.lacks ∙ ap (λ s. first_lacking score (suc k) (stages_of s)) front in
      let behind = first_lacking score (suc (suc k)) (stages_of (drop (suc k) stages)) in
      let next : suc k ≡ k + 1 = omega arith in
      subst (λ n. Filled remaining score stages n new) next (record {
        tells = λ rest h.
            let more = adding (options_of stage.options)
            (AreTold remaining bytes (suc k) (stages_of (drop (suc k) stages))) old new rest
            (bytes_at score stages k here) adds h in
            subst (AreTold remaining bytes 0 (stages_of stages)) more.along (filled.tells more.front
            (subst (λ s. AreTold remaining bytes k (stages_of s) more.front) (sym front) more.told));
        lacks = lacks ∙ ap (λ b. if b then Some (suc k) else behind) one.there;
      })

  -- The first stage whose score isn't there is this one.
  pub lacks_here : {stages : List PlanStage} {k : ℕ} {stage : PlanStage} {old : List R}
      → Filled remaining score stages k old → Some stage ≡ slice_get stages k → (is : Outcome)
      → LacksHere score k (options_of stage.options) is → LacksNow score (stages_of stages) is
  lacks_here {stages} {k} filled here (outcome.NoScore number) h =
      let lacks = filled.lacks ∙ ap (λ s. first_lacking score (suc k) (stages_of s)) (rest_of stages k here) in
      let behind = first_lacking score (suc (suc k)) (stages_of (drop (suc k) stages)) in
      lacks ∙ ap (λ o. if is_none o then Some (suc k) else behind) h.1 ∙ ap Some (sym h.0)
  lacks_here filled here _ h = h

  pub filled_all : {stages : List PlanStage} {k : ℕ} {readers : List R} → Filled remaining score stages k readers
      → length stages ≤ k → AllFilled remaining score stages readers
  filled_all {stages} {k} {readers} filled past =
      let none : drop k stages ≡ [] = drop_all k stages past in
      record {
        there = filled.lacks ∙ ap (λ s. first_lacking score (suc k) (stages_of s)) none;
        told = subst (AreTold remaining (bytes_by score (stages_of stages)) 0 (stages_of stages))
            (append-nil readers)
            (filled.tells [] (rw none tt));
      }

-- A plan that was run.
pub run_comes : (text : List ℕ) (score : List ℕ → Option (List ℕ)) (old new : Option (List ℕ))
    (flushed : Bool) (end : RunResult) {stages : List plan.Stage} → IsPlanOf text stages
    → first_lacking score 1 stages ≡ None → HasWritten (bytes_by score stages) stages old new flushed end
    → Comes text score old new flushed (outcome.Run end)
run_comes text score old new flushed end plan there written =
    inl (record { stages = _; plan = plan; scores = there; written = written })

module _ {O : Type 0} (order : Order O) (score : List ℕ → Option (List ℕ)) (link : ℕ) (old new : O) where
  -- its turns, by the order that picked them
  pub pick_plan : {text : List ℕ} {stages : List plan.Stage} {end : RunResult} → IsPlanOf text stages
      → HasPicked order (bytes_by score stages) stages link end old new ⊎ IsUnasked end old new
      → Picks order text score link old new (outcome.Run end)
  pick_plan plan (inl picked) = inl (record { stages = _; plan = plan; picked = picked })
  pick_plan plan (inr unasked) = inr unasked

  pub end_plan : {text : List ℕ} {stages : List plan.Stage} {end : RunResult} {held kept : Option (List ℕ)}
      → IsPlanOf text stages
      → HasEnded order (bytes_by score stages) stages link end old new held kept ⊎ IsUnasked end old new
      → Ends order text score link old new held kept (outcome.Run end)
  end_plan plan (inl ended) = inl (record { stages = _; plan = plan; ended = ended })
  end_plan plan (inr unasked) = inr unasked

-- It was driven over what its readers gave.
pub drive_plan : {O : Type 0} {order : Order O} {text : List ℕ} {stages : List plan.Stage} {link : ℕ} {end : RunResult}
    {old new : O} {held kept : Option (List ℕ)} → IsPlanOf text stages
    → HasDriven order stages link end old new held kept ⊎ IsUnasked end old new
    → Drives order text link old new held kept (outcome.Run end)
drive_plan plan (inl driven) = inl (record { stages = _; plan = plan; driven = driven })
drive_plan plan (inr unasked) = inr unasked

-- There was no run.
abbrev pub IsUnrun : Outcome → Type 0
IsUnrun (outcome.Run end) = end ≡ ends.Memory
IsUnrun _ = Unit {0}

pub refused : (text : List ℕ) (is : Outcome) → IsRefusal text is → IsUnrun is
refused text (outcome.Run end) h = h
refused text _ h = tt

pub lacking : (score : List ℕ → Option (List ℕ)) (stages : List plan.Stage) (is : Outcome)
    → LacksNow score stages is → IsUnrun is
lacking score stages (outcome.Run end) h = h
lacking score stages _ h = tt

pub unrun_ends : {O : Type 0} (order : Order O) (text : List ℕ) (score : List ℕ → Option (List ℕ)) (link : ℕ)
    (o : O) (held kept : Option (List ℕ)) (is : Outcome) → IsUnrun is
    → Ends order text score link o o held kept is
unrun_ends order text score link o held kept (outcome.Run end) h = inr (h, refl)
unrun_ends order text score link o held kept _ h = tt

pub unrun_drives : {O : Type 0} (order : Order O) (text : List ℕ) (link : ℕ) (o : O) (held kept : Option (List ℕ))
    (is : Outcome) → IsUnrun is → Drives order text link o o held kept is
unrun_drives order text link o held kept (outcome.Run end) h = inr (h, refl)
unrun_drives order text link o held kept (outcome.Plan fault) h = refl
unrun_drives order text link o held kept (outcome.NoScore number) h = refl
unrun_drives order text link o held kept outcome.TooLarge h = refl

pub unrun_picks : {O : Type 0} (order : Order O) (text : List ℕ) (score : List ℕ → Option (List ℕ)) (link : ℕ) (o : O)
    (is : Outcome) → IsUnrun is → Picks order text score link o o is
unrun_picks order text score link o (outcome.Run end) h = inr (h, refl)
unrun_picks order text score link o (outcome.Plan fault) h = refl
unrun_picks order text score link o (outcome.NoScore number) h = refl
unrun_picks order text score link o outcome.TooLarge h = refl

-- What comes of a text that is refused, or of a plan that lacks a score.
pub refused_comes : (text : List ℕ) (score : List ℕ → Option (List ℕ)) (held : Option (List ℕ)) (flushed : Bool)
    (is : Outcome) → IsRefusal text is → Comes text score held held flushed is
refused_comes text score held flushed (outcome.Run end) h = rw h (inr refl)
refused_comes text score held flushed (outcome.Plan fault) h = h
refused_comes text score held flushed (outcome.NoScore number) h = absurd h
refused_comes text score held flushed outcome.TooLarge h = absurd h

pub lacking_comes : (text : List ℕ) (score : List ℕ → Option (List ℕ)) (held : Option (List ℕ)) (flushed : Bool)
    {stages : List plan.Stage} (is : Outcome) → IsPlanOf text stages → LacksNow score stages is
    → Comes text score held held flushed is
lacking_comes text score held flushed (outcome.Run end) plan h = rw h (inr refl)
lacking_comes text score held flushed (outcome.Plan fault) plan h = absurd h
lacking_comes text score held flushed (outcome.NoScore number) plan h = record { stages = _; plan = plan; first = h }
lacking_comes text score held flushed outcome.TooLarge plan h = absurd h

pub refused_may : (text : List ℕ) (is : Outcome) → IsRefusal text is → MayCome text is
refused_may text (outcome.Run end) h = tt
refused_may text (outcome.Plan fault) h = h
refused_may text (outcome.NoScore number) h = absurd h
refused_may text outcome.TooLarge h = absurd h

pub lacking_may : (text : List ℕ) {stages : List plan.Stage} (is : Outcome) → IsPlanOf text stages → LacksOne stages is
    → MayCome text is
lacking_may text (outcome.Run end) plan h = tt
lacking_may text (outcome.Plan fault) plan h = absurd h
lacking_may text (outcome.NoScore number) plan h = record { stages = _; plan = plan; reader = h }
lacking_may text outcome.TooLarge plan h = absurd h

pub lacking_one : (stages : List plan.Stage) (is : Outcome) → LacksOne stages is → IsUnrun is
lacking_one stages (outcome.Run end) h = h
lacking_one stages (outcome.Plan fault) h = tt
lacking_one stages (outcome.NoScore number) h = tt
lacking_one stages outcome.TooLarge h = tt

-- So no write has failed, nor a read.
pub unrun_marked : (mark : Bool) (is : Outcome) → IsUnrun is → mark ≡ (mark || is_failed_write is)
unrun_marked mark (outcome.Run end) h = rw h (sym (or-false mark))
unrun_marked mark _ h = sym (or-false mark)

pub unrun_unread : (is : Outcome) → IsUnrun is → (k : ℕ) → is_read_by k is ≡ false
unrun_unread (outcome.Run end) h k = ap (λ e. is_read_of k (Some e)) h
unrun_unread _ h k = refl

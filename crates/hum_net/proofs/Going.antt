-- A plan's net, from its beginning to the end of its run.
use Rattle.std.proofs.Common.{◌≡◌, ◌∙◌, refl, sym, ap, subst, ◌||◌, ℕ, zero, suc, ◌+◌, ◌<◌, ◌≤◌, Bool, true, false}
use Rattle.std.proofs.Common.{List, [], ◌∷◌, length, arith, ⊎_elim}
use Rattle.std.proofs.lemmas.Bool.{cases_Bool}
use Rattle.std.specs.Prelude.{Option, Some, None, slice_get}
use Rattle.std.proofs.lemmas.Bool.{false≢true}
use Rattle.std.proofs.lemmas.Option.{same_Some}
use Rattle.hum_stage.specs.declared.faults.End.{End}
use Rattle.hum_turns.specs.declared.result.RunResult.{RunResult}
use Rattle.hum_turns.specs.declared.result.RunResult.TheVariants as ends
use Rattle.hum_turns.specs.Orders.{Order}
use Rattle.hum_turns.specs.Failures.{IsFirst}
use Rattle.hum_nodes.specs.At.{fresh}
use Rattle.hum_nodes.specs.declared.node.Node.{Node}
use Rattle.hum_nodes.specs.Nodes.{is_source, remaining_of, ended_of, failed_of, StandsAs}
use Rattle.hum_nodes.proofs.Standing.{never_failed, no_end}
use Rattle.hum_engine.specs.Readers.{or_none, failed_at}
use Rattle.hum_engine.specs.declared.net.Net.{Net}
use Rattle.hum_engine.specs.Nets.{AreBegun}
use Rattle.hum_engine.specs.Nets as net
use Rattle.hum_nodes.specs.Trees.{Part, kind_of, part_at, plan_of, meaning_of, ending_of}
use Rattle.hum_plan.specs.Stages as plan
use Rattle.hum_plan.specs.Seen.{stages_of, stage_of}
use Rattle.hum_plan.specs.declared.stages.PlanStage.{PlanStage}
use Rattle.hum_net.specs.Parts.{part_of, parts_of, AreSoundFrom, AllGiveScores}
use Rattle.hum_net.specs.Nodes.{AllFrom, Fits, Tells}
use Rattle.hum_engine.proofs.Appending.{appends_none}
use Rattle.hum_valid.specs.Records.{AreRecords}
use Rattle.hum_net.specs.Runs.{HasWritten, HasEnded, WroteAll, IsValid}
use Rattle.hum_net.specs.Scenes.{scene_of, first_now}
use Rattle.hum_turns.proofs.Against.{meaning_fine}
use Rattle.hum_nodes.proofs.Fining.{fine_is}
use Rattle.hum_turns.proofs.Faults.{whose_fault}
use Rattle.hum_nodes.proofs.TreeLaws.{is_plan, is_numbered}
use Rattle.std.proofs.lemmas.List.{length-map}
use Rattle.hum_net.proofs.Treeing.{parts_length, part_here, stage_there, is_tree, last_keeps}
use Rattle.hum_net.proofs.Valid.{plan_records, valid as is_valid}
use Rattle.hum_net.proofs.Planning.{is_net_plan}
use Rattle.hum_net.proofs.Building.{all_length}
use Rattle.hum_stage.specs.declared.contract.Stage.{Ghosts as Commands}
use Rattle.hum_text.specs.declared.calls.Source.{Ghosts as Source}
use Rattle.hum_text.specs.declared.calls.Sink.{Ghosts as Sink}

pub is_first : IsFirst first_now
is_first = record { links = λ k. refl; part = refl; failure = refl }

-- The stage of a node.
pair_from : {N : Type 0} (Holds : ℕ → PlanStage → N → Type 0) (k : ℕ) (stages : List PlanStage) (nodes : List N)
    → AllFrom Holds k stages nodes → (i j : ℕ) → j ≡ k + i → (node : N) → slice_get nodes i ≡ Some node
    → (stage : PlanStage) × (slice_get stages i ≡ Some stage) × Holds j stage node
pair_from Holds k [] [] h i j at node e = cc
pair_from Holds k [] (n ∷ nodes) h i j at node e = absurd h
pair_from Holds k (stage ∷ stages) [] h i j at node e = absurd h
pair_from Holds k (stage ∷ stages) (n ∷ nodes) h zero j at node e =
    let here : n ≡ node = cc in
    let is : k ≡ j = omega (arith, at) in
    (stage, refl, subst (λ (i : ℕ). Holds i stage node) is (subst (Holds k stage) here h.0))
pair_from Holds k (stage ∷ stages) (n ∷ nodes) h (suc i) j at node e =
    pair_from Holds (suc k) stages nodes h.1 i j (omega (arith, at)) node e

part_there : (bytes : ℕ → List ℕ) (stages : List PlanStage) (i : ℕ) (stage : PlanStage)
    → slice_get stages i ≡ Some stage
    → part_at (parts_of bytes (stages_of stages)) i ≡ part_of i (bytes i) (stage_of stage)
part_there bytes stages i stage e =
    part_here bytes (stages_of stages) i (stage_of stage) (stage_there stages i stage e)

pub sound_from : {S R : Type 0} (commands : Commands S) (k : ℕ) (stages : List PlanStage) (nodes : List (Node S R))
    → AllFrom (Fits commands) k stages nodes → AreSoundFrom k (stages_of stages)
sound_from commands k [] [] h = tt
sound_from commands k [] (n ∷ nodes) h = absurd h
sound_from commands k (stage ∷ stages) [] h = absurd h
sound_from commands k (stage ∷ stages) (n ∷ nodes) h = (h.0.1, sound_from commands (suc k) stages nodes h.1)

-- What the sources tell.

pub all_tell : {S R : Type 0} (reader : Source R) (bytes : ℕ → List ℕ)
    (stages : List PlanStage) (nodes : List (Node S R)) → AllFrom (Tells reader.remaining bytes) 0 stages nodes
    → net.Tells reader nodes bytes
all_tell {S} {R} reader bytes stages nodes h = record {
  tells = λ i node e is. (at i node e is).0;
  over = λ i e. by i (slice_get nodes i) refl e;
}
  where
    at : (i : ℕ) (node : Node S R) → slice_get nodes i ≡ Some node → is_source node ≡ true
        → (remaining_of reader.remaining node ≡ Some (bytes i)) × (ended_of node ≡ false)
    at i node e is = (pair_from (Tells reader.remaining bytes) 0 stages nodes h i i (omega arith) node e).2 is

    by : (i : ℕ) (o : Option (Node S R)) → slice_get nodes i ≡ o → or_none false ended_of o ≡ true
        → bytes i ≡ []
    by i None e f = absurd (false≢true f)
    by i (Some node) e f = ⊎_elim
        (λ is. absurd (false≢true (sym (at i node e is).1 ∙ f)))
        (λ isnt. absurd (false≢true (sym (no_end (λ r. None) (λ r. 0) (λ r. false) node isnt) ∙ f)))
        (cases_Bool (is_source node))

-- The net that is made.

pub all_begun : {S R : Type 0} {commands : Commands S} (stages : List PlanStage)
    (nodes : List (Node S R)) (size : ℕ) → plan.IsTree (stages_of stages) → 0 < size
    → AllFrom (Fits commands) 0 stages nodes
    → AreBegun commands size nodes (λ rests. scene_of rests rests (stages_of stages) size)
all_begun {commands = commands} stages nodes size tree some fits = record {
  rests = λ rests. refl;
  plan = λ rests. is_net_plan rests (stages_of stages) size tree (sound_from commands 0 stages nodes fits) some;
  begun = λ rests. record {
    of_size = refl;
    count = all_length (Fits commands) 0 stages nodes fits
        ∙ sym (parts_length 0 rests (stages_of stages) ∙ length-map stages stage_of);
    stand = λ k node e.
        let p = pair_from (Fits commands) 0 stages nodes fits k k (omega arith) node e in
        subst (λ (x : Part). StandsAs commands.stands node (rests k) (fresh (kind_of (k + 1) x)))
        (sym (part_there rests stages k p.0 p.1)) (p.2.0 (rests k));
  };
}

-- How its run has ended.
pub ended_so : {S R W O : Type 0} {commands : Commands S} {writer : Sink W} {order : Order O} {o p : O}
    {start : Option (List ℕ)} {bytes rests : ℕ → List ℕ} {stages : List plan.Stage} {link before : ℕ} {made : Net S R W}
    {by : RunResult} → net.RunsTo commands writer order o p start (scene_of bytes rests stages link) first_now before made by
    → HasEnded order bytes stages link by o p start (writer.contents made.sink)
ended_so run = record {
  picked = record {
    turns = run.leads.turns;
    first = first_now;
    last = run.leads.to;
    is_first = is_first;
    driven = run.leads.driven;
    over = run.over;
  };
  wrote = run.leads.at.written;
}

-- What its run has written.

-- it ends by the lowest-numbered fault, its records are lawful, and unless interpretations are dropped it is valid
pub record MeansValid (bytes : ℕ → List ℕ) (stages : List plan.Stage) : Type 0 where
  pub end : (meaning_of (parts_of bytes stages)).end ≡ Some (ending_of (parts_of bytes stages))
  pub records : AreRecords (meaning_of (parts_of bytes stages)).items
  pub valid : AllGiveScores stages → IsValid (meaning_of (parts_of bytes stages))

pub means_valid : (bytes : ℕ → List ℕ) (stages : List plan.Stage) → plan.IsTree stages → AreSoundFrom 0 stages
    → MeansValid bytes stages
means_valid bytes stages tree sound =
    let parts = parts_of bytes stages in
    let is = is_tree bytes stages tree sound in
    let records = plan_records bytes stages is sound in
    record {
      end = whose_fault _ (is_plan parts is) (is_numbered parts is);
      records = records;
      valid = λ all.
          is_valid (meaning_of parts) records
          (fine_is 4294967295 (meaning_of parts)
          (meaning_fine (plan_of parts) (is_plan parts is) (last_keeps bytes stages tree sound all)));
    }

module _ {bytes : ℕ → List ℕ} {stages : List plan.Stage} (is : MeansValid bytes stages) (rests : ℕ → List ℕ) (size : ℕ)
    (start held : Option (List ℕ)) (flushed : Bool) where
  whole_of : (end : End) → net.WroteAll (scene_of bytes rests stages size) start held flushed end
      → WroteAll bytes stages start held flushed end
  whole_of end o = record {
    wrote = o.appends;
    is_flushed = o.is_flushed;
    means = o.end;
    first = same_Some _ _ (sym o.end ∙ is.end);
    records = is.records;
    valid = is.valid;
  }

  pub has_written : (by : RunResult) → net.Outcome (scene_of bytes rests stages size) start held flushed by
      → HasWritten bytes stages start held flushed by
  has_written ends.Finished o = whole_of _ o
  has_written (ends.Fault f) o = whole_of _ o
  has_written _ o = record { part = o.part; front = o.front; wrote = o.appends }

-- where no turn was made, nothing was written
pub nothing_written : (bytes : ℕ → List ℕ) (stages : List plan.Stage) (held : Option (List ℕ)) (flushed : Bool)
    → HasWritten bytes stages held held flushed ends.Memory
nothing_written bytes stages held flushed =
    record { part = []; front = (_, refl); wrote = appends_none held }

-- fewer stages than a byte can count
pub few_nodes : {N : Type 0} (Holds : ℕ → PlanStage → N → Type 0) (stages : List PlanStage) (nodes : List N)
    → plan.IsTree (stages_of stages) → AllFrom Holds 0 stages nodes → length nodes < 256
few_nodes Holds stages nodes tree fits =
    let count = all_length Holds 0 stages nodes fits in
    let bound : length stages ≤ 64 = rw (length-map stages stage_of) at tree.bound in
    omega (arith, count, bound)

-- Where no source can fail, none has failed, and no failed read is told.
none_failed : {S R : Type 0} (reader : Source R) → ((r : R) → reader.failed r ≡ false) → (o : Option (Node S R))
    → or_none false (failed_of reader.failed) o ≡ false
none_failed reader never None = refl
none_failed reader never (Some node) = never_failed reader.failed never node

pub no_read_failed : {S R : Type 0} (reader : Source R) → ((r : R) → reader.failed r ≡ false) → (old new : List (Node S R))
    (k : ℕ) (told : Bool) → failed_at reader k new ≡ (failed_at reader k old || told) → told ≡ false
no_read_failed reader never old new k told e =
    ap (λ b. b || told) (sym (none_failed reader never (slice_get old k))) ∙ sym e
    ∙ none_failed reader never (slice_get new k)

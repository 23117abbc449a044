-- What a run of a plan has written.
use Rattle.std.specs.Prelude.{◌≡◌, ℕ, ◌≤◌, ◌^◌, Bool, true, List, [], ◌++◌, length, Option, Some}
use Rattle.std.specs.Io.KnownBytes.{Appends}
use Rattle.hum_score.specs.Row.{Row, text_of}
use Rattle.hum_stage.specs.declared.faults.End.{End}
use Rattle.hum_stage.specs.declared.faults.End.TheVariants.{Closed, Broken}
use Rattle.hum_turns.specs.declared.result.RunResult.{RunResult}
use Rattle.hum_turns.specs.declared.result.RunResult.TheVariants as ends
use Rattle.hum_turns.specs.Flow.{Flow, Begins}
use Rattle.hum_turns.specs.Text.{text}
use Rattle.hum_turns.specs.Failures.{Now, IsFirst, result, written}
use Rattle.hum_turns.specs.Orders.{Order, Driven}
use Rattle.hum_nodes.specs.Fine.{IsFine}
use Rattle.hum_plan.specs.Stages.{Stage}
use Rattle.hum_nodes.specs.Trees.{Part, plan_of, meaning_of, ending_of}
use Rattle.hum_valid.specs.Records.{AreRecords}
use Rattle.hum_valid.specs.Written.{IsReadAgain}
use Rattle.hum_net.specs.Parts.{parts_of, AllGiveScores}

-- the text of what a tree of stages means
abbrev pub text_of_tree : List Part → List ℕ
text_of_tree parts = text text_of (meaning_of parts).items

-- Valid Humdrum: a score, closed where it ends closed, whose text, where that is no larger than a score
-- may be, is read again as these records and this end.
pub record IsValid (f : Flow Row) : Type 0 where
  pub score : IsFine 4294967295 f
  pub again : length (text text_of f.items) ≤ 2 ^ 40 → IsReadAgain f.items

-- The whole text was written, and nothing else, and flushed; it ends so, by the fault of the
-- lowest-numbered stage that refuses, if one does. Its records are lawful. Unless interpretations are
-- dropped it is valid, and closed where no stage refuses.
pub record WroteAll (bytes : ℕ → List ℕ) (stages : List Stage) (old new : Option (List ℕ))
    (flushed : Bool) (end : End) : Type 0 where
  pub wrote : Appends old new (text_of_tree (parts_of bytes stages))
  pub is_flushed : flushed ≡ true
  pub means : (meaning_of (parts_of bytes stages)).end ≡ Some end
  pub first : end ≡ ending_of (parts_of bytes stages)
  pub records : AreRecords (meaning_of (parts_of bytes stages)).items
  pub valid : AllGiveScores stages → IsValid (meaning_of (parts_of bytes stages))

-- A prefix of the text was written.
pub record WroteFront (parts : List Part) (old new : Option (List ℕ)) : Type 0 where
  pub part : List ℕ
  pub front : Begins part (text_of_tree parts)
  pub wrote : Appends old new part

-- What was written by a run of a plan's stages, over these bytes, that ended so.
abbrev pub HasWritten : (ℕ → List ℕ) → List Stage → Option (List ℕ) → Option (List ℕ) → Bool
    → RunResult → Type 0
HasWritten bytes stages old new flushed ends.Finished =
    WroteAll bytes stages old new flushed Closed
HasWritten bytes stages old new flushed (ends.Fault fault) =
    WroteAll bytes stages old new flushed (Broken fault)
HasWritten bytes stages old new flushed (ends.Read number) =
    WroteFront (parts_of bytes stages) old new
HasWritten bytes stages old new flushed ends.Write = WroteFront (parts_of bytes stages) old new
HasWritten bytes stages old new flushed ends.Memory = WroteFront (parts_of bytes stages) old new

-- The turns that an order has picked in a run of a plan's stages with links of this size, which ended so:
-- from the first moment on it was asked before each turn, and told which actors are ready, until the
-- run was over; this is what is left of it.
pub record HasPicked {O : Type 0} (order : Order O) (bytes : ℕ → List ℕ) (stages : List Stage)
    (link : ℕ) (end : RunResult) (old new : O) : Type 0 where
  pub turns : List ℕ
  pub first : Now Row
  pub last : Now Row
  pub is_first : IsFirst first
  pub driven : Driven order (plan_of (parts_of bytes stages)) link text_of old first turns last new
  pub over : result (plan_of (parts_of bytes stages)) last ≡ Some end

-- The order has picked its turns, and what was written is what the run had written at its last moment,
-- after a failure too.
pub record HasEnded {O : Type 0} (order : Order O) (bytes : ℕ → List ℕ) (stages : List Stage)
    (link : ℕ) (end : RunResult) (old new : O) (held kept : Option (List ℕ)) : Type 0 where
  pub picked : HasPicked order bytes stages link end old new
  pub wrote : Appends held kept (written (plan_of (parts_of bytes stages)) text_of picked.last)

-- The readers gave these bytes, of some with their end. However they go on behind them, the run is one
-- that the order has picked.
pub record HasDriven {O : Type 0} (order : Order O) (stages : List Stage) (link : ℕ)
    (end : RunResult) (old new : O) (held kept : Option (List ℕ)) : Type 0 where
  pub reads : ℕ → List ℕ
  pub over : ℕ → Bool
  pub ends : (rests : ℕ → List ℕ) → ((k : ℕ) → over k ≡ true → rests k ≡ [])
      → HasEnded order (λ k. reads k ++ rests k) stages link end old new held kept

-- Memory ran out before there was a net, and the order was not asked.
abbrev pub IsUnasked : {O : Type 0} → RunResult → O → O → Type 0
IsUnasked end old new = (end ≡ ends.Memory) × (new ≡ old)

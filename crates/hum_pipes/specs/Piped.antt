-- Two plans of which the second reads the first's text, and one plan with the stages of both.
use Rattle.std.specs.Prelude.{◌≡◌, ℕ, pred, ◌+◌, ◌≤◌, List, ◌∷◌, ◌++◌, map, length, Some}
use Rattle.std.specs.Option.{option_map}
use Rattle.hum_score.specs.Row.{Row, text_of}
use Rattle.hum_stage.specs.declared.faults.Fault.{Fault}
use Rattle.hum_stage.specs.declared.faults.End.{End}
use Rattle.hum_stage.specs.declared.faults.End.TheVariants.{Closed, Broken}
use Rattle.hum_stage.specs.Meaning.{KeepsScore}
use Rattle.hum_turns.specs.Flow.{Flow, Begins}
use Rattle.hum_turns.specs.Text.{text}
use Rattle.hum_read.specs.Denoted.{standard}
use Rattle.hum_nodes.specs.Trees.{Part, Reads, Through, Beside, IsTree, part_at, meaning_of}
use Rattle.hum_valid.specs.Trees.{AllKeep}

-- the text that a plan writes
abbrev pub text_of_plan : List Part → List ℕ
text_of_plan parts = text text_of (meaning_of parts).items

-- a stage that is n places further down
abbrev pub moved_part : ℕ → Part → Part
moved_part n (Reads bytes) = Reads bytes
moved_part n (Through from command) =
    Through (from + n) (record command { stage = command.stage + n })
moved_part n (Beside from) = Beside (map (λ s. s + n) from)

-- a fault by the number of its stage there
abbrev pub moved_fault : ℕ → Fault → Fault
moved_fault n fault = record fault { stage = fault.stage + n }

abbrev pub moved_end : ℕ → End → End
moved_end n Closed = Closed
moved_end n (Broken fault) = Broken (moved_fault n fault)

abbrev pub moved_flow : ℕ → Flow Row → Flow Row
moved_flow n flow = record flow { end = option_map (moved_end n) flow.end }

-- The second plan: it reads the first one's text, and these stages come behind its `read`.
abbrev pub second : List Part → List Part → List Part
second first rest = Reads (text_of_plan first) ∷ rest

-- how many places further down they stand in the one plan
abbrev pub places : List Part → ℕ
places first = pred (length first)

-- The one plan: the first, whose last stage stands in the place of that `read`, and then the rest.
abbrev pub one_plan : List Part → List Part → List Part
one_plan first rest = first ++ map (moved_part (places first)) rest

-- Of scores a stage makes scores.
abbrev pub MakesScore : Part → Type 0
MakesScore (Reads bytes) = Unit {0}
MakesScore (Through from command) = KeepsScore command.outcomes
MakesScore (Beside from) = Unit {0}

-- These are plans. The stages of the first make lawful records, and its last one scores; its text has no
-- more bytes than a score may have.
pub record ArePiped (first rest : List Part) : Type 0 where
  pub first_plan : IsTree first
  pub second_plan : IsTree (second first rest)
  pub records : AllKeep first
  pub score : MakesScore (part_at first (places first))
  pub small : length (text_of_plan first) ≤ standard.bytes

-- The one plan is a plan. Where no stage of the first refuses, it means what the second does, to the
-- record and to the end; a fault bears its stage's number in the one plan. Where one does, it ends by
-- that fault, and writes a prefix of what the second writes.
pub record IsOnePlan (first rest : List Part) : Type 0 where
  pub plan : IsTree (one_plan first rest)
  pub same : (meaning_of first).end ≡ Some Closed
      → meaning_of (one_plan first rest) ≡ moved_flow (places first) (meaning_of (second first rest))
  pub refused : (fault : Fault) → (meaning_of first).end ≡ Some (Broken fault)
      → ((meaning_of (one_plan first rest)).end ≡ Some (Broken fault))
      × Begins (text_of_plan (one_plan first rest)) (text_of_plan (second first rest))

abbrev pub PipesArePipes : Type 0
PipesArePipes = (first rest : List Part) → ArePiped first rest → IsOnePlan first rest

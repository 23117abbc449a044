-- Answers to cases.
use Rattle.std.specs.Prelude.{◌≡◌, ℕ, ◌==◌, Bool, true, if◌then◌else◌, List, [], ◌∷◌, ◌++◌, Some, codes, decimal, nat_lt}
use Rattle.hum_packets.specs.Streams.{IsAnswer}
use Rattle.hum_words.specs.Bundle.{largest}
use Rattle.hum_turns.specs.declared.result.RunResult.TheVariants as ends
use Rattle.hum_net.specs.declared.outcome.Outcome.{Outcome}
use Rattle.hum_net.specs.declared.outcome.Outcome.TheVariants as outcome
use Rattle.hum_net.specs.Outcomes.{status_of, line_of}
use Rattle.hum_net.specs.Bundles.{ComesOfBundle, is_refused}
use Rattle.hum_many.specs.Cases.{Named, score_in, size}

-- What is told of an outcome: its status, and the line that tells it.
abbrev pub told : Outcome → List ℕ
told is = if status_of is == 0 then codes "0" else decimal (status_of is) ++ (codes " " ++ line_of is)

-- What comes of a case with this plan, and of nothing else: the text that was written of it, and its outcome.
pub record CaseComes (plan : List ℕ) (case : List Named) (text : List ℕ) (is : Outcome) : Type 0 where
  pub flushed : Bool
  pub comes : ComesOfBundle (nat_lt largest (size case)) plan (score_in case) (Some []) (Some text) flushed is
  pub refused : is_refused is ≡ true → text ≡ []

-- the answer to a case
pub record AnswersCase (plan : List ℕ) (case : List Named) (answer : List ℕ) : Type 0 where
  pub text : List ℕ
  pub end : Outcome
  pub comes : CaseComes plan case text end
  pub is : IsAnswer text (told end) answer

-- one answer for each case, in their order
unfoldable pub AnswerEach : List ℕ → List (List Named) → List (List ℕ) → Type 0
AnswerEach plan [] [] = Unit {0}
AnswerEach plan (case ∷ cases) (answer ∷ answers) = AnswersCase plan case answer × AnswerEach plan cases answers
AnswerEach plan [] (answer ∷ answers) = ⊥
AnswerEach plan (case ∷ cases) [] = ⊥

-- A text is held, so that a write of it fails only where memory runs out.
abbrev pub held_outcome : Outcome → Outcome
held_outcome (outcome.Run ends.Write) = outcome.Run ends.Memory
held_outcome (outcome.Run ends.Finished) = outcome.Run ends.Finished
held_outcome (outcome.Run (ends.Fault fault)) = outcome.Run (ends.Fault fault)
held_outcome (outcome.Run (ends.Read number)) = outcome.Run (ends.Read number)
held_outcome (outcome.Run ends.Memory) = outcome.Run ends.Memory
held_outcome (outcome.Plan fault) = outcome.Plan fault
held_outcome (outcome.NoScore number) = outcome.NoScore number
held_outcome outcome.TooLarge = outcome.TooLarge

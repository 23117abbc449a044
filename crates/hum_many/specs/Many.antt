-- What comes of many cases.
use Rattle.std.specs.Prelude.{◌≡◌, ◌⊎◌, ℕ, ◌<◌, ◌-◌, ◌^◌, min, List, [], ◌++◌, length, Option}
use Rattle.std.specs.List.{concat}
use Rattle.std.specs.Io.KnownBytes.{Appends}
use Rattle.hum_turns.specs.declared.result.RunResult.TheVariants as ends
use Rattle.hum_turns.specs.Flow.{Begins}
use Rattle.hum_plan.specs.Stages.{Stage}
use Rattle.hum_plan.specs.Grammar.{IsPlanOf}
use Rattle.hum_net.specs.declared.outcome.Outcome.{Outcome}
use Rattle.hum_net.specs.declared.outcome.Outcome.TheVariants as outcome
use Rattle.hum_net.specs.Bundles.{IsRefusal}
use Rattle.hum_packets.specs.Lists.{Chain, StopsInList}
use Rattle.hum_packets.specs.Streams.{Is, IsFront, IsAnswer}
use Rattle.hum_many.specs.Cases.{Named, IsCase, IsPlan, StopsInCase}
use Rattle.hum_many.specs.Answers.{told, AnswerEach}
use Rattle.hum_many.specs.declared.end.ManyEnd.{ManyEnd}
use Rattle.hum_many.specs.declared.end.ManyEnd.TheVariants.{Finished, Plan, Broken, Read, Write, Memory}

-- The plan is one, and is answered by an empty text and status 0.
pub record Accepts (plan answer : List ℕ) : Type 0 where
  pub stages : List Stage
  pub is : IsPlanOf plan stages
  pub answers : IsAnswer [] (told (outcome.Run ends.Finished)) answer

-- A plan and cases were read, and each was answered; behind them stands the tail.
pub record AnsweredCases (all tail written : List ℕ) : Type 0 where
  pub plan : List ℕ
  pub behind : List ℕ
  pub read : IsPlan plan all behind
  pub opening : List ℕ
  pub accepts : Accepts plan opening
  pub cases : List (List Named)
  pub whole : Chain IsCase cases behind tail
  pub answers : List (List ℕ)
  pub each : AnswerEach plan cases answers
  pub is : written ≡ opening ++ concat answers

-- The plan was refused, and nothing else read.
pub record RefusedPlan (all : List ℕ) (is : Outcome) (written : List ℕ) : Type 0 where
  pub plan : List ℕ
  pub read : IsPlan plan all []
  pub refused : IsRefusal plan is
  pub answers : IsAnswer [] (told is) written

-- What is read stops in the plan, which is not answered.
pub record StoppedInPlan (all rest written : List ℕ) : Type 0 where
  pub stops : StopsInList all rest
  pub none : written ≡ []

-- What is read stops in a case: those before are answered.
pub record StoppedInCase (all tail rest written : List ℕ) : Type 0 where
  pub answered : AnsweredCases all tail written
  pub stops : StopsInCase tail rest

-- What stands at this byte is no packet that may stand there, or is cut off.
pub record BreaksAt (all written : List ℕ) (at : ℕ) : Type 0 where
  pub before : List ℕ
  pub rest : List ℕ
  pub whole : all ≡ before ++ rest
  pub counts : at ≡ min (length before) (2 ^ 64 - 1)
  pub stops : StoppedInPlan all rest written
      ⊎ ((tail : List ℕ) × (0 < length tail) × StoppedInCase all tail rest written)

-- All that was read is answered, as if the input ended there.
pub record CeasesAt (all written : List ℕ) : Type 0 where
  pub rest : List ℕ
  pub stops : StoppedInPlan all rest written ⊎ ((tail : List ℕ) × StoppedInCase all tail rest written)

-- A front was written of the answers to a front of what was asked.
pub record WroteFront (all written : List ℕ) : Type 0 where
  pub tail : List ℕ
  pub answers : List ℕ
  pub are : (answers ≡ []) ⊎ AnsweredCases all tail answers ⊎ ((is : Outcome) × RefusedPlan all is answers)
  pub front : Begins written answers

-- What was written of these bytes, which are all or those that were read, and how it ended.
abbrev pub Written : Option (List ℕ) → List ℕ → List ℕ → ManyEnd → Type 0
Written known all written Finished = Is known all × AnsweredCases all [] written
Written known all written (Plan is) = IsFront known all × RefusedPlan all is written
Written known all written (Broken at) = Is known all × BreaksAt all written at
Written known all written Read = IsFront known all × CeasesAt all written
Written known all written Write = IsFront known all × WroteFront all written
Written known all written Memory = IsFront known all × WroteFront all written

-- What comes of an input, and what stands behind what the sink had.
pub record ManyCome (known old new : Option (List ℕ)) (is : ManyEnd) : Type 0 where
  pub all : List ℕ
  pub written : List ℕ
  pub wrote : Appends old new written
  pub comes : Written known all written is

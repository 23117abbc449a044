-- Cases were read, and each was answered.
use Rattle.std.proofs.Common.{false, ℕ, List}
use Rattle.hum_plan.specs.Seen.{stages_of}
use Rattle.hum_plan.specs.Grammar.{IsPlanOf}
use Rattle.hum_packets.specs.Streams.{Hands}
use Rattle.hum_many.specs.Talks.{Talked}
use Rattle.hum_many.proofs.many.answer_cases.Given as goal

abbrev pub invariant-loop : goal.invariant-loop
invariant-loop g l = ((plan : List ℕ) → IsPlanOf plan (stages_of l.stages)
    → Talked g.R.Source g.W.Sink plan l.initial.packets l.packets l.initial.answers l.answers)
    × Hands g.W.Sink l.initial.answers l.answers false

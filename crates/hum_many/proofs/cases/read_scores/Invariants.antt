-- Scores were read, and are held; nothing was answered.
use Rattle.std.proofs.Common.{List, false}
use Rattle.hum_packets.specs.Lists.{Chain}
use Rattle.hum_packets.specs.Streams.{Took, Serves}
use Rattle.hum_many.specs.Cases.{Named, IsScore, HoldsCase}
use Rattle.hum_many.proofs.cases.read_scores.Given as goal

abbrev pub invariant-loop : goal.invariant-loop
invariant-loop g l = (scores : List Named) × Took g.R.Source (Chain IsScore scores) l.initial.packets l.packets
    × HoldsCase scores l.case.scores.items l.case.left l.case.is_too_large
    × Serves g.W.Sink l.initial.answers l.answers false

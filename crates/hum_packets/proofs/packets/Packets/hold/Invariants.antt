-- Bytes were read ahead, and nothing was answered.
use Rattle.std.proofs.Common.{◌-◌, length, false}
use Rattle.hum_packets.specs.Streams.{Serves}
use Rattle.hum_packets.specs.Held.{IsFed}
use Rattle.hum_packets.proofs.packets.Packets.hold.Given as goal

abbrev pub invariant-loop-answers : goal.invariant-loop-answers
invariant-loop-answers g l = IsFed g.R.Source l.initial.self l.self × Serves g.W.Sink l.initial.answers l.answers false

abbrev pub decreases-loop-answers : goal.decreases-loop-answers
decreases-loop-answers g l = l.len - length l.self.pending

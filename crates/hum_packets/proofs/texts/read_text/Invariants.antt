-- Packets were read, and their data are held; nothing was answered.
use Rattle.std.proofs.Common.{ℕ, List, false}
use Rattle.std.specs.List.{concat}
use Rattle.hum_packets.specs.Lists.{Chain, IsPacket}
use Rattle.hum_packets.specs.Streams.{Took, Holds, Serves}
use Rattle.hum_packets.proofs.texts.read_text.Given as goal

abbrev pub invariant-loop : goal.invariant-loop
invariant-loop g l = (packets : List (List ℕ)) × Took g.R.Source (Chain IsPacket packets) l.initial.packets l.packets
    × Holds l.most (concat packets) l.text.bytes.items l.text.is_whole
    × Serves g.W.Sink l.initial.answers l.answers false

-- Packets were cut off, and written.
use Rattle.std.proofs.Common.{◌≡◌, ℕ, List, ◌++◌, length, map}
use Rattle.std.specs.List.{concat}
use Rattle.hum_packets.specs.Packets.{packet_of}
use Rattle.hum_packets.proofs.Cutting.{CutSoFar}
use Rattle.hum_packets.proofs.writing.write_list.Given as goal

abbrev pub invariant-loop-rest : goal.invariant-loop-rest
invariant-loop-rest l = (packets : List (List ℕ)) × CutSoFar l.bytes packets l.rest
    × (l.out.items ≡ l.initial.out.items ++ concat (map packet_of packets))

abbrev pub decreases-loop-rest : goal.decreases-loop-rest
decreases-loop-rest l = length l.rest

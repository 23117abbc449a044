-- What is written stands behind what the sink had.
use Rattle.std.proofs.Common.{◌≡◌, ◌-◌, ◌≤◌, length, take}
use Rattle.std.specs.Io.KnownBytes.{Appends}
use Rattle.hum_packets.proofs.answers.hand_on.Given as goal

abbrev pub invariant-loop-written : goal.invariant-loop-written
invariant-loop-written g l = (l.written ≤ length l.bytes)
    × Appends (g.W.Sink.contents l.initial.sink) (g.W.Sink.contents l.sink) (take l.written l.bytes)
    × (g.W.Sink.failed l.sink ≡ g.W.Sink.failed l.initial.sink)

abbrev pub decreases-loop-written : goal.decreases-loop-written
decreases-loop-written g l = length l.bytes - l.written

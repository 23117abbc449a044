use Rattle.std.proofs.Common.{◌≡◌, length}
use Rattle.hum_tests.proofs.example.make_rounds.Given as goal

abbrev pub invariant-loop : goal.invariant-loop
invariant-loop g l = length l.net.actors.items ≡ length l.initial.net.actors.items

abbrev pub invariant-loop-k : goal.invariant-loop-k
invariant-loop-k g l = length l.net.actors.items ≡ length l.initial.net.actors.items

use Rattle.std.proofs.Common.{◌≡◌, ◌++◌, drop, map}
use Rattle.hum_path.specs.Chains.{origin_of}
use Rattle.hum_path.proofs.origins.origins_of.Given as goal

abbrev pub invariant-loop-i : goal.invariant-loop-i
invariant-loop-i l = l.next.items ++ map (origin_of l.each) (drop l.i l.found) ≡ map (origin_of l.each) l.found

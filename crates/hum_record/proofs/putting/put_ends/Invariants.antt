use Rattle.std.proofs.Common.{◌≡◌, ◌++◌, ◌+◌, map, take}
use Rattle.hum_record.proofs.putting.put_ends.Given as goal

abbrev pub invariant-loop-k : goal.invariant-loop-k
invariant-loop-k l =
    take (l.count + l.k) l.places ≡ take l.count l.initial.places ++ map (λ end. l.begin + end) (take l.k l.ends)

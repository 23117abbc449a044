use Rattle.std.proofs.Common.{◌≡◌, ◌≤◌, ◌<◌, ◌^◌, ◌++◌, length, take}
use Rattle.hum_record.specs.Cutting.{set_places}
use Rattle.hum_record.proofs.near.put_places.Given as goal

abbrev pub invariant-loop : goal.invariant-loop
invariant-loop l =
    (take l.end l.places ++ set_places 64 l.start l.rest ≡ take l.count l.fn.places ++ set_places 64 l.start l.bits)
    × (length l.places ≡ length l.fn.places) × (l.end ≤ length l.places) × (l.rest < 2 ^ 64)

abbrev pub invariant-loop-rest : goal.invariant-loop-rest
invariant-loop-rest l =
    (take l.end l.places ++ set_places 64 l.start l.rest ≡ take l.count l.fn.places ++ set_places 64 l.start l.bits)
    × (length l.places ≡ length l.fn.places) × (l.end ≤ length l.places) × (l.rest < 2 ^ 64)

abbrev pub decreases-loop-rest : goal.decreases-loop-rest
decreases-loop-rest l = l.rest

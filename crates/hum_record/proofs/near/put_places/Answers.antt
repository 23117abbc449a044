use Rattle.std.proofs.lemmas.Bool.Decides.{nat_tests}
use Rattle.std.proofs.Common.{◌≡◌, ◌≤◌, ◌<◌, ◌^◌, ◌+◌, ◌++◌, ℕ, List, length, take, ap, refl, arith, length-append}
use Rattle.hum_record.specs.Cutting.{set_places}
use Rattle.hum_record.proofs.Places.{take_count}
use Rattle.hum_record.proofs.Short.{room_left, all_put}
use Rattle.hum_record.proofs.near.put_places.Goals as goal

-- where a bit is left there is room for its place
left : (old places : List ℕ) (count end start bits rest : ℕ)
    → count + length (set_places 64 start bits) ≤ length old
    → (take end places ++ set_places 64 start rest ≡ take count old ++ set_places 64 start bits)
    × (length places ≡ length old) × (end ≤ length places) × (rest < 2 ^ 64)
    → 0 < rest → end < length places
left old places count end start bits rest room put some =
    let front = take_count count old (omega (arith, room)) in
    let size = length-append (take count old) (set_places 64 start bits) in
    let same = put.1 in
    room_left places (take count old ++ set_places 64 start bits) end start rest some put.3 put.2
    (omega (arith, size, front, same, room)) put.0

-- where none is left all places are put
done : (old places : List ℕ) (count end start bits rest : ℕ)
    → count + length (set_places 64 start bits) ≤ length old
    → (take end places ++ set_places 64 start rest ≡ take count old ++ set_places 64 start bits)
    × (length places ≡ length old) × (end ≤ length places) × (rest < 2 ^ 64)
    → rest ≡ 0
    → (end ≡ count + length (set_places 64 start bits)) × (take end places ≡ take count old ++ set_places 64 start bits)
done old places count end start bits rest room put none =
    let front = take_count count old (omega (arith, room)) in
    let size = length-append (take count old) (set_places 64 start bits) in
    let all = all_put places (take count old ++ set_places 64 start bits) end start rest put.0 none in
    let whole = ap length all in (
      omega (arith, whole, take_count end places put.2, size, front),
      all,
    )

pub loop-init : goal.loop-init
loop-init c = (refl, refl, omega (arith, c.requires.room), c.ranges.bits.fits)

pub returns-then-rest-eq0-clause-count : goal.returns-then-rest-eq0-clause-count
returns-then-rest-eq0-clause-count = grind (arith, nat_tests, done)

pub returns-then-rest-eq0-clause-places : goal.returns-then-rest-eq0-clause-places
returns-then-rest-eq0-clause-places = grind (arith, nat_tests, done)

pub put_place-rest-requires-clause-room : goal.put_place-rest-requires-clause-room
put_place-rest-requires-clause-room = grind (arith, nat_tests, left)

pub loop-preserved : goal.loop-preserved
loop-preserved = grind (arith, nat_tests)

pub loop-rest-init : goal.loop-rest-init
loop-rest-init c = c.loop.invariant

pub put_place-rest-requires-in-loop-rest-clause-room :
    goal.put_place-rest-requires-in-loop-rest-clause-room
put_place-rest-requires-in-loop-rest-clause-room = grind (arith, nat_tests, left)

pub loop-rest-preserved : goal.loop-rest-preserved
loop-rest-preserved = grind (arith, nat_tests)

pub returns-clause-count : goal.returns-clause-count
returns-clause-count = grind (arith, nat_tests, done)

pub returns-clause-places : goal.returns-clause-places
returns-clause-places = grind (arith, nat_tests, done)

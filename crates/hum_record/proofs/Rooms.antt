-- Room of records.
use Rattle.std.proofs.lemmas.Bool.Decides.{nat_tests}
use Rattle.std.proofs.Common.{◌≡◌, arith, ℕ, ◌+◌, ◌≤◌, min, map, List, [], ◌∷◌, ◌++◌, Bor}
use Rattle.std.proofs.lemmas.List.{map-append}
use Rattle.hum_score.specs.Row.{Row}
use Rattle.hum_record.specs.Room.{room_for, rooms_for}

pub rooms_append : (a b : List Row) → rooms_for (a ++ b) ≡ rooms_for a + rooms_for b
rooms_append [] b = omega arith
rooms_append (row ∷ a) b = grind (arith, nat_tests, rooms_append a b)

-- one more of those that were looked at
pub one_more : (seen : List (Bor Row)) (row : Bor Row) (before now room : ℕ)
    → before ≤ rooms_for (map (λ r. r.now) seen) → room ≤ room_for row.now
    → now ≡ min (before + room) 18446744073709551615
    → now ≤ rooms_for (map (λ r. r.now) (seen ++ row ∷ []))
one_more seen row before now room h one sum = rw map-append (rw (rooms_append _ _) (omega (arith, h, one, sum)))

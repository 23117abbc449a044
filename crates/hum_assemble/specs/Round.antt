-- Who takes part in a round, and what each of them has there.
use Rattle.std.specs.Prelude.{◌≡◌, ◌==◌, Bool, false, not, ◌&&◌, ◌||◌, if◌then◌else◌}
use Rattle.std.specs.Prelude.{List, [], ◌∷◌, Option, None, Some, is_some, is_none}
use Rattle.std.specs.List.{list_any, AllByRecursion}
use Rattle.hum_score.specs.Row.{Row}
use Rattle.hum_score.specs.Spines.{Path}
use Rattle.hum_stage.specs.declared.faults.End as end
use Rattle.hum_stage.specs.declared.faults.End.TheVariants.{Closed}
use Rattle.hum_assemble.specs.declared.places.Place.{Place}
use Rattle.hum_assemble.specs.declared.places.Place.TheVariants.{Over}
use Rattle.hum_assemble.specs.Source.{Source, place}
use Rattle.hum_assemble.specs.Places.{rank, step, is_shared, earlier}

-- Where a source's next record stands, if that is known. A closed end shows that there is none,
-- but not within a unit; a broken end shows nothing.
abbrev pub next_place : Path → Bool → List Row → Option end.End → Option Place
next_place path due (row ∷ rows) ended = Some (place path row)
next_place path false [] (Some Closed) = Some Over
next_place path due [] ended = None

abbrev pub shown : Source → Option Place
shown s = next_place s.path s.due s.coming s.ended

-- whether a round goes on
abbrev pub any_due : List Source → Bool
any_due = list_any (λ s. s.due)

-- Who is asked: the sources that are due in the round that goes on, or all where one begins.
abbrev pub is_asked : Bool → Source → Bool
is_asked going s = s.due || not going

-- what is asked isn't known yet
abbrev pub is_missing : Bool → Source → Bool
is_missing going s = is_asked going s && is_none (shown s)

-- and can't be known any more
abbrev pub is_lost : Bool → Source → Bool
is_lost going s = is_asked going s && (is_none (shown s) && is_some s.ended)

-- nothing is known as yet of a source that isn't due
abbrev pub waits : Source → Bool
waits s = not s.due && (is_none (shown s) && is_none s.ended)

-- of each all that is asked is known
abbrev pub AllKnown : Bool → List Source → Type 0
AllKnown going = AllByRecursion (λ s. is_missing going s ≡ false)

abbrev pub place_or_over : Option Place → Place
place_or_over None = Over
place_or_over (Some p) = p

-- who isn't asked has nothing at any place
abbrev pub place_at : Bool → Source → Place
place_at going s = if is_asked going s then place_or_over (shown s) else Over

-- the earliest place of those that are asked
abbrev pub earliest : Bool → List Source → Place
earliest going [] = Over
earliest going (s ∷ ss) = earlier (place_at going s) (earliest going ss)

-- Who gives a record at this place: each that has one there, or the leftmost alone.
abbrev pub takes : Bool → Bool → Place → Source → Bool
takes free going p s = free && (rank p == rank (place_at going s))

abbrev pub still_free : Bool → Bool → Place → Source → Bool
still_free free going p s = free && (is_shared p || not (takes free going p s))

-- who has a record at the same step when a round begins is due in it
abbrev pub in_round : Bool → Place → Source → Bool
in_round going p s = if going then s.due else step (place_at going s) == step p

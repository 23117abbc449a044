use Rattle.hum_pattern.proofs.Remembered.{found_set}
use Rattle.hum_pattern.proofs.searched.remember.Goals as goal

pub returns-then-place-len : goal.returns-then-place-len
returns-then-place-len c text h e = found_set text _ c.place_of-place.result c.set.new.self (c.make_places.ensures text h) (c.set.ensures text e)

use Rattle.std.proofs.Common.{refl}
use Rattle.hum_pattern.proofs.Remembered.{found_push, none_finds}
use Rattle.hum_pattern.proofs.searched.make_places.Goals as goal

pub loop-preserved : goal.loop-preserved
loop-preserved c text h =
    rw c.in-Ok.ensures.items (found_push text _ _ (c.loop.invariant text h) (none_finds text _ refl))

pub returns-in-Err : goal.returns-in-Err
returns-in-Err c text h = rw c.in-Err.ensures.items (c.loop.invariant text h)

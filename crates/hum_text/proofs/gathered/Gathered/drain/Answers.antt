use Rattle.std.proofs.Common.{◌≤◌, length, take, arith, subst, length-take}
use Rattle.std.specs.Io.KnownBytes.{Appends}
use Rattle.hum_text.proofs.GatherLemmas.{handed-on}
use Rattle.hum_text.proofs.gathered.Gathered.drain.Goals as goal

pub returns-clause-bytes : goal.returns-clause-bytes
returns-clause-bytes g c =
    let from = c.self.inside in
    let xs = from.room.items in
    let n = c.hand_on-written.result.0 in
    let within : from.len ≤ length xs = omega (arith, c.self.invariant, from.room.ok.0) in
    let appends = subst (λ ys. Appends (g.T.Write.contents from.inner) (g.T.Write.contents c.hand_on-written.new.inner) (take n (take from.len ys)))
    c.deref.ensures.value c.hand_on-written.ensures.bytes in
    let order : n ≤ from.len = omega (arith, c.hand_on-written.ensures.bound, length-take from.len c.deref.result.now) in
    rw (← c.self.view_is) (handed-on _ _ xs c.copy_within.new.self.items n from.len order within appends c.copy_within.ensures.items)

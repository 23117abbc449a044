use Rattle.std.proofs.Common.{◌+◌, ◌≤◌, length, arith, ap, ◌∙◌}
use Rattle.std.specs.Simd.Lanes.{put_chunk}
use Rattle.hum_text.proofs.GatherLemmas.{taken}
use Rattle.hum_text.proofs.gathered.GatheredSink.write_near.Goals as goal

pub returns-clause-bytes : goal.returns-clause-bytes
returns-clause-bytes g c done =
    let from = c.self.inside in
    let bytes = c.args.buf.now in
    let fits : from.len + length bytes ≤ from.room.len = omega (arith, c.if-n-eq0.false, c.if-self-n.false, c.self.invariant) in
    let put = c.put.ensures ∙ ap (λ ys. put_chunk from.len ys bytes) c.deref_mut.ensures.value in
    rw (← c.self.view_is) (taken _ from.room.items c.put.new.held bytes from.len from.room.len from.room.ok.0 fits put)

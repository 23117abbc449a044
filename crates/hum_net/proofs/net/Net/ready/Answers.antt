use Rattle.std.proofs.Common.{◌≤◌, arith}
use Rattle.hum_net.proofs.Stepping.{is_among}
use Rattle.hum_net.proofs.net.Net.ready.Goals as goal

pub ready-requires : goal.ready-requires
ready-requires g c = is_among _ _ c.self.invariant (rw (← c.self.view_is) at c.requires)

pub returns : goal.returns
returns g c start s now here =
    let less = c.requires in
    let count = here.actors in
    let within : c.args.k ≤ s.count = omega (arith, less, count) in
    c.ready.ensures start s now (rw (← c.self.view_is) at here) within

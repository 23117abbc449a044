use Rattle.std.proofs.Common.{arith}
use Rattle.hum_engine.proofs.Moving.{nth}
use Rattle.hum_engine.proofs.net.Net.taker.Goals as goal

pub index-requires : goal.index-requires
index-requires g c = omega (arith, c.requires, c.args.self.now.takers.ok.0)

pub returns : goal.returns
returns g c = nth c.args.self.now.takers.items c.args.k c.index.result.now c.requires c.index.ensures

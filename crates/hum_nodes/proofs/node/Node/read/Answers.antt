use Rattle.std.proofs.Common.{refl}
use Rattle.hum_nodes.proofs.Turns.{new_stands}
use Rattle.hum_nodes.proofs.node.Node.read.Goals as goal

pub returns-clause-stands : goal.returns-clause-stands
returns-clause-stands g c all =
    let e = c.new.ensures in
    record {
      works = new_stands c.args.number all e.fresh e.opening e.stage;
      alone = λ other. refl;
      knows = refl;
      takes = λ other. cc;
    }

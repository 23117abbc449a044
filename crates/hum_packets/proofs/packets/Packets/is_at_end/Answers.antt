use Rattle.std.proofs.lemmas.Result.{err_from_is_err_and}
use Rattle.hum_packets.proofs.Stepping.{lost-ahead}
use Rattle.hum_packets.proofs.packets.Packets.is_at_end.Goals as goal

pub returns-in_err-hold-clause-lost : goal.returns-in_err-hold-clause-lost
returns-in_err-hold-clause-lost g c =
    let p = err_from_is_err_and c.from_residual.result c.from_residual.ensures.1 in
    rw (p.1, p.2) (lost-ahead g.R.Source c.args.self.now c.hold.new.self c.in_err-hold.field-0.0 c.in_err-hold.ensures.fed c.in_err-hold.ensures.held)

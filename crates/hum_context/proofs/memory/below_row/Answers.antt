use Rattle.std.proofs.Common.{ap, arith, length}
use Rattle.hum_context.proofs.Places.{moves_after}
use Rattle.hum_context.proofs.memory.below_row.Goals as goal

pub by-requires : goal.by-requires
by-requires c =
    let each = moves_after c.args.paths.now.path c.args.row.now in
    let found = ap length c.in_ok-found-in-Interpretation.ensures.moves in
    let narrow = c.requires.narrow in
    omega (arith, each, found, narrow)

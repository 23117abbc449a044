use Rattle.std.proofs.Common.{arith}
use Rattle.hum_assemble.proofs.Firsts.{first_room}
use Rattle.hum_assemble.proofs.assemble.+room_of.Goals as goal

pub returns-in-len1-up : goal.returns-in-len1-up
returns-in-len1-up t c =
    let sum = c.saturating_add.ensures in
    first_room c.args.sources.now c.source-item.result _ _ _ _ c.in-len1-up.len_at_least c.source-item.is
    c.room.ensures c.room_of.ensures (omega (arith, sum))

use Rattle.hum_assemble.proofs.Firsts.{first_earliest}
use Rattle.hum_assemble.proofs.round.+earliest.Goals as goal

pub returns-in-len1-up : goal.returns-in-len1-up
returns-in-len1-up t c =
    first_earliest c.args.going c.args.sources.now c.source-item.result _ _ c.place_at.result c.earliest.result
    c.in-len1-up.len_at_least c.source-item.is c.place_at.ensures c.earliest.ensures c.earlier.ensures

use Rattle.hum_assemble.proofs.Firsts.{first_total, first_most, first_holds}
use Rattle.hum_assemble.proofs.assemble.+count.Goals as goal

pub returns-in-len1-up : goal.returns-in-len1-up
returns-in-len1-up t c = record {
  total = first_total c.args.sources.now c.source-item.result _ _ _ c.in-len1-up.len_at_least c.source-item.is
      c.held.ensures.length c.count.ensures.total;
  at_most = first_most c.args.sources.now _ _ c.in-len1-up.len_at_least c.held.ensures.at_most c.count.ensures.at_most;
  each = first_holds c.args.sources.now c.source-item.result _ _ c.in-len1-up.len_at_least c.source-item.is
      c.held.ensures.length c.held.ensures.at_most c.count.ensures.each;
}

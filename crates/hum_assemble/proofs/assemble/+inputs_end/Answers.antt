use Rattle.hum_assemble.proofs.Firsts.{first_open, others_open, all_over}
use Rattle.hum_assemble.proofs.assemble.+inputs_end.Goals as goal

pub returns-in_err-end : goal.returns-in_err-end
returns-in_err-end t c =
    first_open c.args.sources.now c.source-item.result _ c.ended.result _ c.in-len1-up.len_at_least c.source-item.is
    c.ended.ensures c.in_err-end.was c.from_residual.ensures

pub returns-in_err-others : goal.returns-in_err-others
returns-in_err-others t c =
    others_open c.args.sources.now c.source-item.result _ c.ended.result c.inputs_end.result _ _ c.in-len1-up.len_at_least
    c.source-item.is c.ended.ensures c.in_ok-end.was c.inputs_end.ensures c.in_err-others.was
    c.from_residual-in_err-others.ensures

pub returns : goal.returns
returns t c =
    all_over c.args.sources.now c.source-item.result _ c.ended.result c.inputs_end.result _ _ _ c.in-len1-up.len_at_least
    c.source-item.is c.ended.ensures c.in_ok-end.was c.inputs_end.ensures c.in_ok-others.was c.lower.ensures

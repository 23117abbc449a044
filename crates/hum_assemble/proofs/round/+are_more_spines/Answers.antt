use Rattle.std.proofs.Common.{◌≡◌, ◌∙◌}
use Rattle.hum_score.specs.Spines.{width}
use Rattle.hum_assemble.specs.Merge.{moved}
use Rattle.hum_assemble.proofs.Firsts.{more_spines, spines_behind, width_taken, width_left}
use Rattle.hum_assemble.proofs.round.+are_more_spines.Goals as goal
use Rattle.hum_assemble.proofs.round.+are_more_spines.Goals.{then-taken, else-taken}

pub returns-then-width-left : goal.returns-then-width-left
returns-then-width-left t c =
    let own : c.if-taken.width ≡ width (moved c.takes-taken.result c.args.going c.args.p c.source-item.result).path =
    elim c.if-taken.branch [
      | then-taken w ↦ width_taken _ c.args.going c.args.p c.source-item.result _ w.if-taken.true (w.width-is ∙ w.width_ahead-width.ensures)
      | else-taken w ↦ width_left _ c.args.going c.args.p c.source-item.result _ w.if-taken.false (w.width-is ∙ w.width-width.ensures.width)
    ]
    in
    more_spines c.args.free c.args.going c.args.p c.args.left c.args.sources.now c.source-item.result _ c.takes-taken.result _
    c.in-len1-up.len_at_least c.source-item.is c.takes-taken.ensures own c.if-width-left.true

pub returns-else-width-left : goal.returns-else-width-left
returns-else-width-left t c =
    let own : c.if-taken.width ≡ width (moved c.takes-taken.result c.args.going c.args.p c.source-item.result).path =
    elim c.if-taken.branch [
      | then-taken w ↦ width_taken _ c.args.going c.args.p c.source-item.result _ w.if-taken.true (w.width-is ∙ w.width_ahead-width.ensures)
      | else-taken w ↦ width_left _ c.args.going c.args.p c.source-item.result _ w.if-taken.false (w.width-is ∙ w.width-width.ensures.width)
    ]
    in
    spines_behind c.args.free c.args.going c.args.p c.args.left c.args.sources.now c.source-item.result _ c.takes-taken.result _ _ _
    c.in-len1-up.len_at_least c.source-item.is c.takes-taken.ensures c.still_free.ensures own c.if-width-left.false
    c.are_more_spines.ensures

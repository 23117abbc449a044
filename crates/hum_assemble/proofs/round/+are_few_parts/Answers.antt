use Rattle.hum_assemble.proofs.Firsts.{parts_without, parts_over, parts_behind, no_width, some_width, has_taken}
use Rattle.hum_assemble.proofs.round.+are_few_parts.Goals as goal
use Rattle.hum_assemble.proofs.round.+are_few_parts.Goals.{else-not-taken-via-then-not-taken+else-width-eq0, else-not-taken-via-else-not-taken}

pub returns-then-width-eq0 : goal.returns-then-width-eq0
returns-then-width-eq0 t c =
    parts_without c.args.free c.args.going c.args.p c.args.left c.args.sources.now c.source-item.result _ c.takes-taken.result _ _
    c.in-len1-up.len_at_least c.source-item.is c.takes-taken.ensures c.still_free-free_on.ensures
    (no_width _ _ _ c.if-not-taken.true c.width.ensures.width c.if-width-eq0.true) c.are_few_parts.ensures

pub returns-then-left-eq0 : goal.returns-then-left-eq0
returns-then-left-eq0 t c =
    parts_over c.args.free c.args.going c.args.p c.args.left c.args.sources.now c.source-item.result _ c.takes-taken.result
    c.in-len1-up.len_at_least c.source-item.is c.takes-taken.ensures
    (elim c.else-not-taken.branch [
      | else-not-taken-via-then-not-taken+else-width-eq0 w ↦ some_width _ _ _ w.width.ensures.width w.if-width-eq0.false
      | else-not-taken-via-else-not-taken w ↦ has_taken _ _ w.if-not-taken.false
    ]) c.if-left-eq0.true

pub returns-else-left-eq0 : goal.returns-else-left-eq0
returns-else-left-eq0 t c =
    parts_behind c.args.free c.args.going c.args.p c.args.left c.args.sources.now c.source-item.result _ c.takes-taken.result _ _
    c.in-len1-up.len_at_least c.source-item.is c.takes-taken.ensures c.still_free-free_on.ensures
    (elim c.else-not-taken.branch [
      | else-not-taken-via-then-not-taken+else-width-eq0 w ↦ some_width _ _ _ w.width.ensures.width w.if-width-eq0.false
      | else-not-taken-via-else-not-taken w ↦ has_taken _ _ w.if-not-taken.false
    ]) c.if-left-eq0.false c.are_few_parts-else-left-eq0.ensures

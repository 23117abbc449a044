use Rattle.hum_assemble.proofs.Firsts.{more_bytes, bytes_behind}
use Rattle.hum_assemble.proofs.round.+are_more_bytes.Goals as goal

pub returns-then-bytes-left : goal.returns-then-bytes-left
returns-then-bytes-left t c =
    more_bytes c.args.free c.args.going c.args.p c.args.left c.args.sources.now c.source-item.result _ c.takes-taken.result _
    c.in-len1-up.len_at_least c.source-item.is c.takes-taken.ensures c.part_len-bytes.ensures c.if-bytes-left.true

pub returns-else-bytes-left : goal.returns-else-bytes-left
returns-else-bytes-left t c =
    bytes_behind c.args.free c.args.going c.args.p c.args.left c.args.sources.now c.source-item.result _ c.takes-taken.result _ _ _
    c.in-len1-up.len_at_least c.source-item.is c.takes-taken.ensures c.still_free.ensures c.part_len-bytes.ensures
    c.if-bytes-left.false c.are_more_bytes.ensures

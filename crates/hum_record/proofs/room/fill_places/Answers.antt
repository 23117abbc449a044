use Rattle.std.proofs.Common.{arith, rules}
use Rattle.std.proofs.lemmas.List.{take_all}
use Rattle.std.proofs.lemmas.Result.{err_from_is_err_and}
use Rattle.hum_record.proofs.Held.{refilled}
use Rattle.hum_record.proofs.room.fill_places.Goals as goal

pub returns-in_ok-resize-clause-kept : goal.returns-in_ok-resize-clause-kept
returns-in_ok-resize-clause-kept c =
    let places = c.args.places.now in
    let size = c.len.ensures in
    let more = c.if-len-count.true in
    rw c.in_ok-resize.ensures.items (refilled _ c.max-count.result places.items _ (omega (arith, places.ok.0)) (omega (arith, size, more)))

pub returns-else-len-count-clause-kept : goal.returns-else-len-count-clause-kept
returns-else-len-count-clause-kept c = take_all _ c.args.places.now.items (omega (arith, c.args.places.now.ok.0))

pub returns-in_err-resize : goal.returns-in_err-resize
returns-in_err-resize c =
    let places = c.args.places.now in
    let same = c.in_err-resize.ensures in
    let p = err_from_is_err_and c.from_residual.result c.from_residual.ensures.1 in
    rw p.1 (record { kept = rw same.items (take_all _ places.items (omega (arith, places.ok.0))); more = search rules; room = tt; most = search rules; full = search rules })

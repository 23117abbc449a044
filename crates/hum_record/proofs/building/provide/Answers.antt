use Rattle.std.proofs.lemmas.Result.{err_from_is_err_and}
use Rattle.hum_record.proofs.building.provide.Goals as goal

pub returns-in_err-new_body : goal.returns-in_err-new_body
returns-in_err-new_body c =
    let p = err_from_is_err_and c.from_residual.result c.from_residual.ensures.1 in rw p.1 (record { text = tt; ends = tt; there = tt })

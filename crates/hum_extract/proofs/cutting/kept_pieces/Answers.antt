use Rattle.std.proofs.lemmas.Result.{err_from_is_err_and}
use Rattle.hum_extract.proofs.cutting.kept_pieces.Goals as goal

pub returns-in_err-push : goal.returns-in_err-push
returns-in_err-push c =
    let p = err_from_is_err_and c.from_residual.result c.from_residual.ensures.1 in rw p.1 tt

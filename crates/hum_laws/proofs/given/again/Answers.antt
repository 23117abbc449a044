use Rattle.std.proofs.lemmas.Bool.Decides.{nat_tests}
use Rattle.std.proofs.Common.{◌∙◌, arith}
use Rattle.std.proofs.lemmas.Result.{err_from_is_err_and}
use Rattle.hum_laws.proofs.given.again.Goals as goal

pub alone-requires : goal.alone-requires
alone-requires = grind (arith, nat_tests)

pub returns-in_err-once : goal.returns-in_err-once
returns-in_err-once g c =
    grind (arith, nat_tests, err_from_is_err_and c.from_residual.result c.from_residual.ensures.1)

pub returns-in_err-copied : goal.returns-in_err-copied
returns-in_err-copied g c =
    let p = err_from_is_err_and c.from_residual-in_err-copied.result c.from_residual-in_err-copied.ensures.1 in
    rw p.1 tt

pub returns-in_err-again : goal.returns-in_err-again
returns-in_err-again g c =
    let p = err_from_is_err_and c.from_residual-in_err-again.result c.from_residual-in_err-again.ensures.1 in
    rw p.1 tt

pub returns : goal.returns
returns g c m n first second =
    let once = c.in_ok-once.ensures m first in
    let same = c.in_ok-copied.ensures ∙ c.deref.ensures.value in
    (once, rw (same, once.0, once.1) at (c.in_ok-again.ensures n second))

use Rattle.std.proofs.lemmas.Bool.Decides.{nat_tests}
use Rattle.std.proofs.Common.{[], sym, arith, take_all}
use Rattle.std.proofs.lemmas.List.{map_more}
use Rattle.hum_score.specs.Spines.{exclusives}
use Rattle.hum_cells.specs.Rewriting.{is_kern}
use Rattle.hum_cells.proofs.cells.mark_kern.Goals as goal

pub loop-j-preserved : goal.loop-j-preserved
loop-j-preserved c =
    let width = c.width-j-end.ensures.width in
    let at = c.loop-j-test.true in
    let more = map_more is_kern (exclusives c.args.paths.now.path) c.loop-j.j [] (omega (arith, width, at)) in
    rw (c.in_ok-push.ensures.items, c.is_kern.ensures, c.exclusive.ensures, c.loop-j.invariant) (sym more)

pub returns : goal.returns
returns = grind (arith, nat_tests, take_all)

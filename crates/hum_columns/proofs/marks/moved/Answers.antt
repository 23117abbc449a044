use Rattle.std.proofs.Common.{◌≡◌, ◌∙◌, false, get_or}
use Rattle.hum_score.specs.Spines.{source}
use Rattle.hum_path.proofs.Carry.{map_more}
use Rattle.std.proofs.lemmas.Result.{err_from_is_err_and}
use Rattle.hum_columns.proofs.marks.moved.Goals as goal

pub loop-i-preserved : goal.loop-i-preserved
loop-i-preserved c =
    let at : c.mark_at.result ≡ get_or c.args.marks.now (source c.get.result) false = rw (← c.each-flags.ensures) c.mark_at.ensures in
    rw (c.in_ok-push.ensures.items, at)
    (map_more (λ m. get_or c.args.marks.now (source m) false) c.loop-i.each.items c.args.found.now c.loop-i.i c.get.result c.get.ensures
    ∙ c.loop-i.invariant)

pub returns-in_err-push : goal.returns-in_err-push
returns-in_err-push c =
    let p = err_from_is_err_and c.from_residual.result c.from_residual.ensures.1 in rw p.1 tt

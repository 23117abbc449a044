use Rattle.std.proofs.Common.{◌<◌, ◌≤◌, length}
use Rattle.hum_score.specs.Row.{tokens_of, width_of}
use Rattle.std.proofs.lemmas.Result.{err_from_is_err_and}
use Rattle.hum_choices.specs.Extract.{choice_of}
use Rattle.hum_extract.proofs.ChosenTokens.{one_more_flag, no_more_flags}
use Rattle.hum_extract.proofs.choosing.opening_marks.Goals as goal

pub loop-j-preserved : goal.loop-j-preserved
loop-j-preserved c =
    let row = c.args.row.now in
    let within : c.loop-j.j < length (tokens_of row) = rw c.width-j-end.ensures at c.loop-j-test.true in
    rw (c.in_ok-push.ensures.items, c.is_chosen.ensures, c.width.ensures, c.token.ensures.token)
    (one_more_flag (choice_of c.args.choice.now) (width_of row) c.loop-j.j (tokens_of row) _ _ c.loop-j.invariant within)

pub returns : goal.returns
returns c =
    let row = c.args.row.now in
    let past : length (tokens_of row) ≤ c.loop-j.j = rw c.width-j-end.ensures at c.loop-j-test.false in
    no_more_flags (choice_of c.args.choice.now) (width_of row) c.loop-j.j (tokens_of row) _ _ c.loop-j.invariant past

pub returns-in_err-push : goal.returns-in_err-push
returns-in_err-push c =
    let p = err_from_is_err_and c.from_residual.result c.from_residual.ensures.1 in rw p.1 tt

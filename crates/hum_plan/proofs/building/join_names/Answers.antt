use Rattle.std.proofs.Common.{◌∙◌, add-one, refl}
use Rattle.std.proofs.Math.ListN.{drop_of_length-le}
use Rattle.std.proofs.lemmas.Result.{err_from_is_err_and}
use Rattle.hum_options.proofs.Turns.{word_at}
use Rattle.hum_plan.specs.Answers.{names_joined}
use Rattle.hum_plan.proofs.Steps.{fails_as, bar_at}
use Rattle.hum_plan.proofs.building.join_names.Goals as goal

pub returns-in_err-join_name-in-Word : goal.returns-in_err-join_name-in-Word
unfolding names_joined
returns-in_err-join_name-in-Word c =
    let p = err_from_is_err_and c.from_residual.result c.from_residual.ensures.1 in
    let word = word_at c.args.pieces.now c.loop-piece.piece-index c.in-Word.place _ c.in-Word.name
    c.loop-piece-test.true c.in-Word.is in
    rw (p.1, p.2, c.loop-piece.invariant, word) (fails_as _ _ c.in_err-join_name-in-Word.field-0.0
    (λ fault e. rw (← e) refl) c.in_err-join_name-in-Word.ensures)

pub loop-piece-preserved : goal.loop-piece-preserved
unfolding names_joined
loop-piece-preserved c =
    let word = word_at c.args.pieces.now c.loop-piece.piece-index c.in-Word.place _ c.in-Word.name
    c.loop-piece-test.true c.in-Word.is in
    rw add-one (c.loop-piece.invariant ∙ (rw (word, ← c.in_ok-join_name-in-Word.ensures) refl))

pub returns-in-Bar : goal.returns-in-Bar
returns-in-Bar c =
    let none = bar_at c.args.pieces.now c.loop-piece.piece-index _ _ c.loop-piece-test.true c.in-Bar.is in
    rw (c.loop-piece.invariant, none) (c.some_sources.ensures _)

pub returns : goal.returns
returns c = rw (c.loop-piece.invariant, drop_of_length-le c.args.pieces.now c.loop-piece-test.false)
    (c.some_sources-2.ensures _)

use Rattle.std.proofs.Common.{[], ◌∷◌, suc, drop}
use Rattle.std.proofs.lemmas.Result.{err_from_is_err_and}
use Rattle.hum_options.specs.Answers.{Answers}
use Rattle.hum_options.specs.Seen.{words_of}
use Rattle.hum_options.specs.declared.reading.Turn.TheVariants.{Free}
use Rattle.hum_options.proofs.Turns.{passed, word_at}
use Rattle.hum_options.proofs.reading.read_given.Goals as goal

pub returns-in_err-turn-in-Word : goal.returns-in_err-turn-in-Word
returns-in_err-turn-in-Word c =
    let p = err_from_is_err_and c.from_residual.result c.from_residual.ensures.1 in
    let l = c.loop-piece in
    let pieces = c.args.pieces.now in
    let behind = words_of (drop (suc l.piece-index) pieces) in
    let next = word_at pieces l.piece-index c.in-Word.place _ c.in-Word.word c.loop-piece-test.true c.in-Word.is in
    rw (p.1, p.2) (passed
    (Answers c.args.command c.args.number l.given l.turn ((c.in-Word.place, c.in-Word.word.now) ∷ behind))
    (Answers c.args.command c.args.number [] Free (words_of pieces))
    (λ turn. Answers c.args.command c.args.number c.at_word.new.given turn behind)
    c.in_err-turn-in-Word.field-0.0 (c.in_err-turn-in-Word.ensures c.args.number behind)
    (λ answer lawful. l.invariant answer (rw next lawful)))

use Rattle.std.proofs.Common.{◌≡◌, ◌++◌, ◌∷◌, [], refl, arith}
use Rattle.std.proofs.lemmas.List.{map-append}
use Rattle.std.proofs.lemmas.Result.{err_from_is_err_and}
use Rattle.hum_words.specs.Pieces.{item_of}
use Rattle.hum_words.proofs.Cuts.{push}
use Rattle.hum_words.proofs.cutting.cut.Goals as goal

pub returns-in_err-piece : goal.returns-in_err-piece
returns-in_err-piece c =
    let goes = c.loop-rest.invariant.goes in
    let p = err_from_is_err_and c.from_residual.result c.from_residual.ensures.1 in
    rw (p.1, p.2, c.in_err-piece.ensures.number)
    (_, _, goes.0, goes.1, refl, rw (← goes.2) c.in_err-piece.ensures.wrong)

pub loop-rest-preserved : goal.loop-rest-preserved
loop-rest-preserved c =
    let goes = c.loop-rest.invariant.goes in
    let more : c.push.new.self.items ≡ c.loop-rest.pieces.items ++ c.in_ok-piece.piece ∷ []
    = c.in_ok-push.ensures.items in
    let item = item_of c.in_ok-piece.piece in
    let found = rw goes.2 at c.in_ok-piece.ensures.found in
    let ends = c.in_ok-piece.ensures.shorter in
    record {
      text = c.skip_blanks-rest-in-loop-rest.utf8;
      first = c.skip_blanks-rest-in-loop-rest.ensures.first;
      count = omega (arith, ends.0, ends.1, c.number-words.ensures);
      goes = (
        c.in_ok-piece.behind.now,
        rw (more, c.number-words.ensures, map-append item_of c.loop-rest.pieces.items _)
            (push 0 _ _ goes.0 c.args.line.now item c.in_ok-piece.behind.now goes.1 found),
        c.skip_blanks-rest-in-loop-rest.ensures.value,
      );
    }

use Rattle.std.proofs.lemmas.Bool.Decides.{nat_tests}
use Rattle.std.proofs.Common.{arith}
use Rattle.hum_columns.proofs.OneByOne.{tokens_at, lawful_at, front_of, draft_push, drafted, list_push}
use Rattle.hum_columns.proofs.writing.push_all.Goals as goal

pub push_fitting-requires-clause-fits : goal.push_fitting-requires-clause-fits
push_fitting-requires-clause-fits = grind (arith, nat_tests, tokens_at, front_of)

pub loop-piece-preserved : goal.loop-piece-preserved
loop-piece-preserved c =
    let p = c.piece-item.result in
    let next = tokens_at c.args.pieces.now c.loop-piece.piece-index p c.loop-piece-test.true c.piece-item.is in
    let made = draft_push c.loop-piece.builder c.push_fitting.new.self c.token.result.now c.loop-piece.invariant.made c.in_ok-push_fitting.ensures.pushed in
    record {
      made = drafted c.push_fitting.new.self _ made;
      lawful = (lawful_at c.args.pieces.now c.loop-piece.piece-index p c.loop-piece-test.true c.piece-item.is c.loop-piece.invariant.lawful).1;
      list = list_push c.push_fitting.new.self c.loop-piece.builder.tokens c.token.result.now _ _ _ made (rw c.token.ensures next)
          c.loop-piece.invariant.list;
    }

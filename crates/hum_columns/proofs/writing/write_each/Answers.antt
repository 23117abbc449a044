use Rattle.std.proofs.Common.{◌∙◌, arith, drop, sym, subst}
use Rattle.std.proofs.lemmas.List.{length-drop}
use Rattle.std.proofs.lemmas.Result.{err_from_is_err_and}
use Rattle.hum_columns.specs.Writing.{Fit}
use Rattle.hum_columns.proofs.OneByOne.{alone_fits_behind, alone_filled_behind, left_behind, one_written, last_written, all_fits_behind}
use Rattle.hum_columns.proofs.OneByOne.{all_filled_behind, done_fit, done_filled, lawful_behind}
use Rattle.hum_columns.proofs.writing.write_each.Goals as goal

pub alone-requires-clause-fits : goal.alone-requires-clause-fits
alone-requires-clause-fits c =
    rw (c.split_at.ensures.back, c.loop.invariant.before) (alone_fits_behind c.loop.last.tokens (drop c.loop.start c.args.pieces.now) c.loop.invariant.fit)

pub alone-requires-clause-filled : goal.alone-requires-clause-filled
alone-requires-clause-filled c =
    rw (c.split_at.ensures.back, c.loop.invariant.before) (alone_filled_behind c.loop.last.tokens (drop c.loop.start c.args.pieces.now) c.loop.invariant.some)

pub loop-preserved : goal.loop-preserved
loop-preserved c =
    let rest = drop c.loop.start c.args.pieces.now in
    let passed = rw c.split_at.ensures.back at c.in_ok-passed.ensures in
    let left = left_behind c.loop.last.tokens c.pass_join.new.last.tokens c.args.pieces.now c.loop.start c.in_ok-passed.passed.pieces passed.0 in
    let size = length-drop c.loop.start c.args.pieces.now in
    record {
      made = passed.1;
      fit = subst Fit (sym left) (done_fit _ c.loop.invariant.fit);
      some = λ none. done_filled _ c.loop.invariant.some (sym left ∙ none);
      before = omega (arith, passed.2, c.loop.invariant.before);
      less = omega (arith, passed.3, c.loop.invariant.less);
      within = omega (arith, passed.4, size, c.loop.invariant.within);
      list = rw (c.in_ok-push_back.ensures.items, c.in_ok-record.ensures, c.split_at.ensures.back, c.loop.invariant.before)
          (one_written c.loop.out.items c.args.records c.loop.counter c.loop.last.tokens rest _ c.loop-test.true c.loop.invariant.some left
          ∙ c.loop.invariant.list);
    }

pub push_all-requires : goal.push_all-requires
push_all-requires c =
    let right = drop c.loop.start c.args.pieces.now in
    record {
      made = c.loop.invariant.made;
      lawful = rw c.split_at-2.ensures.back (lawful_behind c.loop.last.tokens right c.loop.invariant.fit.lawful);
      fits = rw c.split_at-2.ensures.back (all_fits_behind c.loop.last.tokens right c.loop.invariant.fit);
    }

pub finish-requires-clause-filled : goal.finish-requires-clause-filled
finish-requires-clause-filled c =
    rw (c.in_ok-push_all.ensures, c.split_at-2.ensures.back) (all_filled_behind c.loop.last.tokens (drop c.loop.start c.args.pieces.now) c.loop.invariant.some)

pub returns : goal.returns
returns c =
    rw (c.in_ok-push_back-2.ensures.items, c.finish.ensures, c.in_ok-push_all.ensures, c.split_at-2.ensures.back)
    (last_written c.loop.out.items c.args.records c.loop.counter c.loop.last.tokens (drop c.loop.start c.args.pieces.now) c.loop-test.false
    c.loop.invariant.some ∙ c.loop.invariant.list)

pub returns-in_err-record : goal.returns-in_err-record
returns-in_err-record c =
    let p = err_from_is_err_and c.from_residual.result c.from_residual.ensures.1 in rw p.1 tt

pub returns-in_err-push_back : goal.returns-in_err-push_back
returns-in_err-push_back c =
    let p = err_from_is_err_and c.from_residual-in_err-push_back.result c.from_residual-in_err-push_back.ensures.1 in rw p.1 tt

pub returns-in_err-passed : goal.returns-in_err-passed
returns-in_err-passed c =
    let p = err_from_is_err_and c.from_residual-in_err-passed.result c.from_residual-in_err-passed.ensures.1 in rw p.1 tt

pub returns-in_err-push_all : goal.returns-in_err-push_all
returns-in_err-push_all c =
    let p = err_from_is_err_and c.from_residual-in_err-push_all.result c.from_residual-in_err-push_all.ensures.1 in rw p.1 tt

pub returns-in_err-push_back-2 : goal.returns-in_err-push_back-2
returns-in_err-push_back-2 c =
    let p = err_from_is_err_and c.from_residual-in_err-push_back-2.result c.from_residual-in_err-push_back-2.ensures.1 in rw p.1 tt

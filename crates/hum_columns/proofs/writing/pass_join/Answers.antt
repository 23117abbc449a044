use Rattle.std.proofs.Common.{◌∙◌, ◌∷◌, [], length-append, arith, sym}
use lib.Chars.{codes}
use Rattle.std.proofs.lemmas.Result.{err_from_is_err_and}
use Rattle.hum_columns.proofs.OneByOne.{fit_here, token_lawful, token_fits, null_fits, passed_join, passed_all, draft_push, drafted}
use Rattle.hum_columns.proofs.writing.pass_join.Goals as goal

pub push_fitting-requires-clause-fits : goal.push_fitting-requires-clause-fits
push_fitting-requires-clause-fits c =
    let p = c.index-pieces-i.result in
    let fit = fit_here c.args.last.now.tokens c.loop-i.last.tokens c.args.pieces.now c.loop-i.i p c.loop-i-test.true c.index-pieces-i.is
    c.loop-i.invariant.same c.requires.fit in
    null_fits c.loop-i.last.tokens p _ (sym c.begins.ensures ∙ c.if-begins.true) fit

pub push_fitting-requires-in-loop-i-clause-lawful : goal.push_fitting-requires-in-loop-i-clause-lawful
push_fitting-requires-in-loop-i-clause-lawful c =
    let p = c.index-pieces-i.result in
    let fit = fit_here c.args.last.now.tokens c.loop-i.last.tokens c.args.pieces.now c.loop-i.i p c.loop-i-test.true c.index-pieces-i.is
    c.loop-i.invariant.same c.requires.fit in
    rw (c.token.ensures, c.loop-i.invariant.made) (token_lawful c.loop-i.last.tokens p _ fit)

pub push_fitting-requires-in-loop-i-clause-fits : goal.push_fitting-requires-in-loop-i-clause-fits
push_fitting-requires-in-loop-i-clause-fits c =
    let p = c.index-pieces-i.result in
    let fit = fit_here c.args.last.now.tokens c.loop-i.last.tokens c.args.pieces.now c.loop-i.i p c.loop-i-test.true c.index-pieces-i.is
    c.loop-i.invariant.same c.requires.fit in
    rw c.token.ensures (token_fits c.loop-i.last.tokens p _ fit)

pub returns-then-begins : goal.returns-then-begins
returns-then-begins c =
    let p = c.index-pieces-i.result in
    let made = draft_push c.loop-i.last c.push_fitting.new.self (codes "*") c.loop-i.invariant.made c.in_ok-push_fitting.ensures.pushed in
    let back = c.split_at.ensures.back in
    let done = rw back at c.join_len.ensures.pieces in
    let most = c.join_len.ensures.at_most in
    let right = c.split_at.ensures.back_len in
    let size = length-append c.loop-i.last.tokens (codes "*" ∷ []) in (
      rw made (passed_join c.args.last.now.tokens c.loop-i.last.tokens c.args.pieces.now c.loop-i.i c.join_len.result p c.loop-i-test.true
          c.index-pieces-i.is c.loop-i.invariant.same (sym c.begins.ensures ∙ c.if-begins.true) done),
      drafted c.push_fitting.new.self _ made,
      rw made (omega (arith, size, c.loop-i.invariant.count)),
      omega arith,
      omega (arith, most, right),
    )

pub returns : goal.returns
returns c =
    let at = c.loop-i-test.false in (
      passed_all c.args.last.now.tokens c.loop-i.last.tokens c.args.pieces.now c.loop-i.i at c.loop-i.invariant.same,
      c.loop-i.invariant.made,
      omega (arith, c.loop-i.invariant.count),
      omega arith,
      omega arith,
    )

pub returns-in_err-push_fitting : goal.returns-in_err-push_fitting
returns-in_err-push_fitting c =
    let p = err_from_is_err_and c.from_residual.result c.from_residual.ensures.1 in rw p.1 tt

pub returns-in_err-push_fitting-2 : goal.returns-in_err-push_fitting-2
returns-in_err-push_fitting-2 c =
    let p = err_from_is_err_and c.from_residual-in_err-push_fitting-2.result c.from_residual-in_err-push_fitting-2.ensures.1 in rw p.1 tt

use Rattle.std.proofs.Common.{◌≡◌, ◌∙◌, sym, ◌++◌, [], length, arith}
use Rattle.std.proofs.lemmas.List.{take-append-drop, nil_from_length}
use Rattle.std.proofs.lemmas.Bool.{eqb-true}
use Rattle.std.proofs.lemmas.Result.{err_from_is_err_and}
use Rattle.hum_record.proofs.Cuts.{next_block, all_found}
use Rattle.hum_record.proofs.Plain.{next_marks, head_end, plain_text, some_bytes}
use Rattle.hum_record.proofs.tokens.push_ends.Goals as goal

pub loop-rest-preserved : goal.loop-rest-preserved
loop-rest-preserved c =
    let rest = c.loop-rest.rest.now in
    let block = c.split_at.result.0.now in
    let tail = c.split_at.result.1.now in
    let cut : rest ≡ block ++ tail = rw (c.split_at.ensures.front, c.split_at.ensures.back) (sym (take-append-drop c.min.result rest)) in (
      rw (c.in_ok-push_tabs.ensures, c.holds.ensures)
          (next_block c.args.text.now rest block tail c.loop-rest.start c.loop-rest.ends.items c.loop-rest.has_return c.loop-rest.invariant.0 cut),
      next_marks c.args.text.now rest block tail c.loop-rest.has_mark c.may_have_mark.result c.loop-rest.is_head
          _ c.loop-rest.invariant.1 cut c.may_have_mark.ensures
          (head_end c.loop-rest.is_head block
          (omega (
            arith,
            c.split_at.ensures.front_len,
            c.min.ensures,
            some_bytes rest (sym c.is_empty.ensures
                ∙ c.loop-rest-test.true),
          ))),
    )

pub returns-then-has_return : goal.returns-then-has_return
returns-then-has_return c =
    let done : c.loop-rest.rest.now ≡ [] = nil_from_length c.loop-rest.rest.now
    (eqb-true (length c.loop-rest.rest.now) 0 (sym c.is_empty.ensures ∙ c.loop-rest-test.false)) in
    let all = all_found c.args.text.now c.loop-rest.rest.now c.loop-rest.start c.loop-rest.ends.items c.loop-rest.has_return c.loop-rest.invariant.0 done in
    sym all.0 ∙ c.if-has_return.true

pub returns-then-is_head : goal.returns-then-is_head
returns-then-is_head c =
    let done : c.loop-rest.rest.now ≡ [] = nil_from_length c.loop-rest.rest.now
    (eqb-true (length c.loop-rest.rest.now) 0 (sym c.is_empty.ensures ∙ c.loop-rest-test.false)) in
    let all = all_found c.args.text.now c.loop-rest.rest.now c.loop-rest.start c.loop-rest.ends.items c.loop-rest.has_return c.loop-rest.invariant.0 done in
    (sym all.0 ∙ c.if-has_return.false, c.in_ok-push.ensures.items ∙ all.1)

pub returns-else-is_head : goal.returns-else-is_head
returns-else-is_head c =
    let done : c.loop-rest.rest.now ≡ [] = nil_from_length c.loop-rest.rest.now
    (eqb-true (length c.loop-rest.rest.now) 0 (sym c.is_empty.ensures ∙ c.loop-rest-test.false)) in
    let all = all_found c.args.text.now c.loop-rest.rest.now c.loop-rest.start c.loop-rest.ends.items c.loop-rest.has_return c.loop-rest.invariant.0 done in (
      sym all.0 ∙ c.if-has_return.false,
      c.in_ok-push.ensures.items ∙ all.1,
      plain_text c.args.text.now c.loop-rest.rest.now c.loop-rest.has_mark c.loop-rest.is_head
          c.loop-rest.invariant.1 done c.if-is_head.false.0 c.if-is_head.false.1,
    )

pub returns-in_err-push_tabs : goal.returns-in_err-push_tabs
returns-in_err-push_tabs c =
    let p = err_from_is_err_and c.from_residual.result c.from_residual.ensures.1 in rw p.1 tt

pub returns-in_err-push : goal.returns-in_err-push
returns-in_err-push c =
    let p = err_from_is_err_and c.from_residual-in_err-push.result c.from_residual-in_err-push.ensures.1 in rw p.1 tt

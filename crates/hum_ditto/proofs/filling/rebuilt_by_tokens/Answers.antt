use Rattle.std.proofs.Common.{arith}
use Rattle.hum_score.specs.Row.{tokens_of}
use Rattle.hum_score.specs.declared.records.SpinedKind.TheVariants.{Values}
use Rattle.hum_ditto.proofs.Tokens.{some_filled, fill_more, fill_all}
use Rattle.hum_ditto.proofs.filling.rebuilt_by_tokens.Goals as goal

pub loop-j-preserved : goal.loop-j-preserved
loop-j-preserved c =
    let test = c.loop-j-test.true in
    let width = c.width-j-end.ensures in
    let more = fill_more c.args.memory.now.options.parentheses c.args.memory.now.each (tokens_of c.args.row.now) c.loop-j.j
    (omega (arith, test, width)) c.requires.width in
    record {
      kind = c.in_ok-push_filled.ensures.kind;
      made = rw (c.token.ensures.token, more) at (c.in_ok-push_filled.ensures.pushed _ c.loop-j.invariant.made);
    }

pub finish-requires : goal.finish-requires
finish-requires c =
    let past = c.loop-j-test.false in
    let width = c.width-j-end.ensures in
    let all = fill_all c.args.memory.now.options.parentheses c.args.memory.now.each (tokens_of c.args.row.now) c.loop-j.j
    (omega (arith, past, width)) c.requires.width in (
      Values,
      _,
      rw all at c.loop-j.invariant.made,
      some_filled c.args.memory.now.options.parentheses c.args.memory.now.each (tokens_of c.args.row.now) c.requires.tokens,
    )

pub returns : goal.returns
returns c =
    let past = c.loop-j-test.false in
    let width = c.width-j-end.ensures in
    let all = fill_all c.args.memory.now.options.parentheses c.args.memory.now.each (tokens_of c.args.row.now) c.loop-j.j
    (omega (arith, past, width)) c.requires.width in
    c.finish.ensures _ _ (rw all at c.loop-j.invariant.made)

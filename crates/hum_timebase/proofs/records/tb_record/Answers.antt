use Rattle.std.proofs.Common.{◌∙◌, arith}
use Rattle.hum_score.specs.Row.{tokens_of}
use Rattle.hum_timebase.specs.Timebase.{tb_token}
use Rattle.hum_timebase.proofs.Writing.{one_more, front_fits, has_made, some_named, named_token, tb_short}
use Rattle.hum_timebase.proofs.records.tb_record.Goals as goal

pub push_fitting-requires-clause-fits : goal.push_fitting-requires-clause-fits
push_fitting-requires-clause-fits c =
    let below = c.loop-j-test.true in
    let width = c.width-j-end.ensures in
    let made = named_token c.args.pace.now.text c.deref.result.now _ c.token-in-loop-j.result.now
    c.tb_token.result.now (c.deref.ensures.value ∙ c.in_ok-named.ensures.token)
    c.token-in-loop-j.ensures.token c.tb_token.ensures.token in
    let front = front_fits (tb_token c.args.pace.now.text) (tokens_of c.args.row.now) c.loop-j.builder.tokens _
    c.loop-j.j c.tb_token.result.now (omega (arith, below, width)) made c.loop-j.invariant.made in
    let short = tb_short c.args.pace.now.text (tokens_of c.args.row.now) c.in_ok-named.ensures.short in
    let few = c.requires.few in
    omega (arith, front, short, few)

pub loop-j-preserved : goal.loop-j-preserved
loop-j-preserved c =
    let below = c.loop-j-test.true in
    let width = c.width-j-end.ensures in
    let made = named_token c.args.pace.now.text c.deref.result.now _ c.token-in-loop-j.result.now
    c.tb_token.result.now (c.deref.ensures.value ∙ c.in_ok-named.ensures.token)
    c.token-in-loop-j.ensures.token c.tb_token.ensures.token in
    rw c.in_ok-push_fitting.ensures.pushed (record {
      kind = c.loop-j.invariant.kind;
      unspent = c.loop-j.invariant.unspent;
      made = one_more (tb_token c.args.pace.now.text) (tokens_of c.args.row.now) c.loop-j.builder.tokens _
          c.loop-j.j c.tb_token.result.now (omega (arith, below, width)) made c.loop-j.invariant.made;
    })

pub finish-requires-clause-filled : goal.finish-requires-clause-filled
finish-requires-clause-filled c =
    let past = c.loop-j-test.false in
    let width = c.width-j-end.ensures in
    has_made (tb_token c.args.pace.now.text) (tokens_of c.args.row.now) c.loop-j.builder.tokens c.loop-j.j
    (some_named (tokens_of c.args.row.now) c.requires.named) (omega (arith, past, width))
    c.loop-j.invariant.made

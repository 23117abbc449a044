use Rattle.std.proofs.Common.{◌∙◌, [], arith, take_all}
use Rattle.std.proofs.lemmas.List.{map_more}
use Rattle.hum_score.specs.Row.{tokens_of}
use Rattle.hum_cells.specs.Rewriting.{headed}
use Rattle.hum_cells.specs.Rewriter.{shown}
use Rattle.hum_cells.proofs.Headings.{headed_lawful, token_of_sign}
use Rattle.hum_cells.proofs.heading.with_heading.Goals as goal

pub push-requires : goal.push-requires
push-requires c =
    rw (c.loop-j.invariant.kind, c.headed.ensures) (headed_lawful (shown c.args.heading) _ c.requires.lawful
    (token_of_sign c.args.row.now _ c.requires.kind c.token.ensures.lawful))

pub loop-j-preserved : goal.loop-j-preserved
loop-j-preserved c =
    let width = c.width-j-end.ensures in
    let at = c.loop-j-test.true in
    let more = map_more (headed (shown c.args.heading)) (tokens_of c.args.row.now) c.loop-j.j [] (omega (arith, width, at)) in
    let pushed = c.in_ok-push.ensures.pushed _ _ c.loop-j.invariant.holds in
    record {
      kind = c.in_ok-push.ensures.kind ∙ c.loop-j.invariant.kind;
      holds = rw more (rw (c.headed.ensures, c.token.ensures.token) at pushed);
    }

pub returns : goal.returns
returns c =
    let width = c.width-j-end.ensures in
    let past = c.loop-j-test.false in
    c.finish.ensures _ _ (rw (take_all c.loop-j.j (tokens_of c.args.row.now) (omega (arith, width, past))) at c.loop-j.invariant.holds)

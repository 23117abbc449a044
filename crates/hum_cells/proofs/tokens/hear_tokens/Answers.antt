use Rattle.std.proofs.lemmas.Bool.Decides.{nat_tests}
use Rattle.std.proofs.Common.{subst, take, arith}
use Rattle.hum_score.specs.Row.{tokens_of}
use Rattle.hum_path.specs.Chains.{columns, longer}
use Rattle.hum_cells.specs.Rewriter.{Columns}
use Rattle.hum_cells.proofs.Telling.{as_wide, token_of_data, longer_length, longer_more, all_longer}
use Rattle.hum_cells.proofs.tokens.hear_tokens.Goals as goal

pub hear-requires-clause-lawful : goal.hear-requires-clause-lawful
hear-requires-clause-lawful g c = token_of_data c.args.row.now _ c.requires.kind c.token.ensures.lawful

pub hear-requires-clause-column : goal.hear-requires-clause-column
hear-requires-clause-column g c =
    let m = c.requires.score.1 in
    let front = take c.loop-j.j (tokens_of c.args.row.now) in
    let wide = (as_wide m.past c.args.row.now m.score c.requires.kind).0 in
    let width = c.width-j-end.ensures in
    let at = c.loop-j-test.true in
    let size = longer_length front (columns m.past) in
    record {
      rewriting = m.rewriting;
      above = longer front (columns m.past);
      memory = c.loop-j.invariant m.rewriting m.past m.memory m.score;
      column = omega (arith, wide, width, at, size);
    }

pub loop-j-preserved : goal.loop-j-preserved
loop-j-preserved g c = λ rewriting past h sound.
    let wide = (as_wide past c.args.row.now sound c.requires.kind).0 in
    let width = c.width-j-end.ensures in
    let at = c.loop-j-test.true in
    let next = longer_more (tokens_of c.args.row.now) (columns past) c.loop-j.j c.token.result.now c.token.ensures.token
    (omega (arith, width, at)) (omega (arith, wide, width, at)) in
    subst (λ (x : Columns). g.T.TokenRewriter.follows c.hear.new.self rewriting x) next
    (c.in_ok-hear.ensures rewriting _ (c.loop-j.invariant rewriting past h sound))

pub returns : goal.returns
returns = grind (arith, nat_tests, all_longer)

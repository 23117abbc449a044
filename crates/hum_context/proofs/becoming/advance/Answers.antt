use Rattle.std.proofs.Common.{ap, arith, length, ◌∷◌, [], ◌++◌}
use Rattle.hum_score.specs.declared.records.SpinedKind.TheVariants.{Values}
use Rattle.hum_score.specs.Row.{Row, Spined, token_at, tokens_of}
use Rattle.hum_context.specs.Context.{chain}
use Rattle.hum_context.proofs.Weighing.{becomes_some, sofar_none, sofar_more, sofar_stops, sofar_all, kept_at}
use Rattle.hum_context.proofs.becoming.advance.Goals as goal

pub loop-j-preserved : goal.loop-j-preserved
loop-j-preserved c =
    let same = c.advance_at.ensures.wide in
    let wide = c.loop-j.invariant.wide in
    record {
      wide = omega (arith, same, wide);
      stand = λ o path rows want none knows h.
          c.advance_at.ensures.stand o path rows want none knows
          (c.loop-j.invariant.stand o path rows want none knows h);
      known = λ o path tokens rows want none knows stand.
          let w = c.loop-j.invariant.known o path tokens rows want none knows stand in
          let here = c.loop-j.invariant.stand o path (Spined Values tokens ∷ rows) want none knows stand in
          let known = kept_at o path c.args.held.now.items 0 (Spined Values tokens) rows
          c.index-kept.result.now knows c.requires.within c.index-kept.ensures in
          let columns = ap (λ (r : Row). length (tokens_of r)) known.is in
          let test = c.loop-j-test.true in
          let end = c.width-width.ensures in
          let b = becomes_some o (token_at (Spined Values tokens) c.loop-j.j)
          (chain path (Spined Values tokens ∷ rows) c.loop-j.j) c.in-Some._new
          (rw c.in-Some.is at (c.advance_at.ensures.becomes o path tokens rows want none knows here)) in (
            w.0 ++ b.0 ∷ [],
            sofar_more o path (Spined Values tokens) rows tokens c.loop-j.j w.0 b.0 w.1
                (omega (arith, columns, test, end)) b.1,
          );
    }

pub returns-in_default-clause-stand : goal.returns-in_default-clause-stand
returns-in_default-clause-stand c o path rows want none knows h =
    c.advance_at.ensures.stand o path rows want none knows
    (c.loop-j.invariant.stand o path rows want none knows h)

pub returns-in_default-clause-known : goal.returns-in_default-clause-known
returns-in_default-clause-known c o path tokens rows want none knows stand =
    let w = c.loop-j.invariant.known o path tokens rows want none knows stand in
    let here = c.loop-j.invariant.stand o path (Spined Values tokens ∷ rows) want none knows stand in
    let known = kept_at o path c.args.held.now.items 0 (Spined Values tokens) rows
    c.index-kept.result.now knows c.requires.within c.index-kept.ensures in
    let columns = ap (λ (r : Row). length (tokens_of r)) known.is in
    let test = c.loop-j-test.true in
    let end = c.width-width.ensures in
    sofar_stops o path (Spined Values tokens) rows tokens c.loop-j.j w.0 w.1
    (omega (arith, columns, test, end))
    (rw c.in_default.is at (c.advance_at.ensures.becomes o path tokens rows want none knows here))

pub returns-clause-known : goal.returns-clause-known
returns-clause-known c o path tokens rows want none knows stand =
    let w = c.loop-j.invariant.known o path tokens rows want none knows stand in
    let known = kept_at o path c.args.held.now.items 0 (Spined Values tokens) rows
    c.index-kept.result.now knows c.requires.within c.index-kept.ensures in
    let columns = ap (λ (r : Row). length (tokens_of r)) known.is in
    let over = c.loop-j-test.false in
    let end = c.width-width.ensures in (
      w.0,
      sofar_all o path (Spined Values tokens) rows tokens c.loop-j.j w.0 w.1
          (omega (arith, columns, over, end)),
    )

pub index-kept-requires : goal.index-kept-requires
index-kept-requires c =
    let size = c.args.held.now.ok.0 in
    let some = c.requires.within in
    omega (arith, size, some)

pub loop-j-init : goal.loop-j-init
loop-j-init c = record {
  wide = c.in_ok-widen.ensures.wide;
  stand = λ o path rows want none knows h. c.in_ok-widen.ensures.stand o path rows h;
  known = λ o path tokens rows want none knows stand.
      ([], sofar_none o path (Spined Values tokens) rows tokens);
}

pub advance_at-requires-clause-within : goal.advance_at-requires-clause-within
advance_at-requires-clause-within c =
    let wide = c.loop-j.invariant.wide in
    let test = c.loop-j-test.true in
    omega (arith, wide, test)

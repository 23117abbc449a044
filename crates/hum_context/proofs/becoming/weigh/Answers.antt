use Rattle.std.proofs.Common.{ap, refl, arith, inl, length, ◌∷◌, [], ◌++◌}
use Rattle.hum_score.specs.declared.records.SpinedKind.TheVariants.{Values}
use Rattle.hum_score.specs.Row.{Row, Spined, tokens_of}
use Rattle.hum_context.specs.Walking.{bytes_of}
use Rattle.hum_context.proofs.Following.{none_stand}
use Rattle.hum_context.proofs.Weighing.{sofar_none, sofar_more, sofar_stops, sofar_all, counts_more}
use Rattle.hum_context.proofs.Weighing.{kept_at}
use Rattle.hum_context.proofs.becoming.weigh.Goals as goal

pub loop-j-preserved : goal.loop-j-preserved
loop-j-preserved c = record {
  few = c.plus-size.ensures.few c.loop-j.invariant.few;
  weighs = λ o path tokens rows want none knows.
      let w = c.loop-j.invariant.weighs o path tokens rows want none knows in
      let known = kept_at o path c.args.held.now.items c.args.k (Spined Values tokens) rows
      c.index-kept.result.now knows c.requires.within c.index-kept.ensures in
      let wide = ap (λ (r : Row). length (tokens_of r)) known.is in
      let test = c.loop-j-test.true in
      let end = c.width-j-end.ensures in
      let b = c.new_bytes.ensures.bytes o path tokens rows want none knows
      (rw c.in-Some.is at (c.new_at.ensures o path tokens rows want none knows
      (none_stand o _ _ _ _ refl))) in (
        w.0 ++ b.0 ∷ [],
        sofar_more o path (Spined Values tokens) rows tokens c.loop-j.j w.0 b.0 w.1
            (omega (arith, wide, test, end)) b.1,
        counts_more w.0 b.0 _ _ b.2 (c.plus-size.ensures.counts (bytes_of w.0) w.2),
      );
}

pub returns-in_default : goal.returns-in_default
returns-in_default c o path tokens rows want none knows =
    let w = c.loop-j.invariant.weighs o path tokens rows want none knows in
    let known = kept_at o path c.args.held.now.items c.args.k (Spined Values tokens) rows
    c.index-kept.result.now knows c.requires.within c.index-kept.ensures in
    let wide = ap (λ (r : Row). length (tokens_of r)) known.is in
    let test = c.loop-j-test.true in
    let end = c.width-j-end.ensures in
    sofar_stops o path (Spined Values tokens) rows tokens c.loop-j.j w.0 w.1
    (omega (arith, wide, test, end))
    (rw c.in_default.is at (c.new_at.ensures o path tokens rows want none knows
    (none_stand o _ _ _ _ refl)))

pub returns : goal.returns
returns c o path tokens rows want none knows =
    let w = c.loop-j.invariant.weighs o path tokens rows want none knows in
    let known = kept_at o path c.args.held.now.items c.args.k (Spined Values tokens) rows
    c.index-kept.result.now knows c.requires.within c.index-kept.ensures in
    let wide = ap (λ (r : Row). length (tokens_of r)) known.is in
    let over = c.loop-j-test.false in
    let end = c.width-j-end.ensures in
    rw (sofar_all o path (Spined Values tokens) rows tokens c.loop-j.j w.0 w.1
    (omega (arith, wide, over, end))) (c.weight_of.ensures w.0 w.2)

pub loop-j-init : goal.loop-j-init
loop-j-init c = record {
  few = omega arith;
  weighs = λ o path tokens rows want none knows.
      ([], sofar_none o path (Spined Values tokens) rows tokens, inl refl);
}

use Rattle.std.proofs.Common.{◌≡◌, ◌∙◌, sym, ap, arith, refl, [], ◌∷◌, ◌++◌, length, length-append, ◌+◌}
use Rattle.hum_score.specs.declared.records.SpinedKind.TheVariants.{Values}
use Rattle.hum_score.specs.Row.{Row, Spined, tokens_of}
use Rattle.hum_context.proofs.Weighing.{kept_at, sofar_stops, sofar_all}
use Rattle.hum_context.proofs.Written.{written_none, written_more, first_token, first_kind}
use Rattle.hum_context.proofs.Written.{data_width, some_made}
use Rattle.hum_context.proofs.becoming.write.Goals as goal

pub loop-j-init : goal.loop-j-init
loop-j-init c = record {
  kind = c.new-making.ensures.of_kind;
  held = ([], c.new-making.ensures, refl);
  made = λ o path tokens rows want none knows stand.
      written_none o path tokens rows _ _ c.new-making.ensures;
}

pub returns-in_default : goal.returns-in_default
returns-in_default c o path tokens new rows want none knows stand are =
    let s = c.loop-j.invariant.made o path tokens rows want none knows stand in
    let known = kept_at o path c.args.held.now.items 0 (Spined Values tokens) rows
    c.index-kept.result.now knows c.requires.within c.index-kept.ensures in
    let wide = ap (λ (r : Row). length (tokens_of r)) known.is in
    let test = c.loop-j-test.true in
    let end = c.width-j-end.ensures in
    let zero : c.args.gone + 0 ≡ c.args.gone = omega arith in
    let unknown = sofar_stops o path (Spined Values tokens) rows tokens c.loop-j.j s.made s.sofar
    (omega (arith, wide, test, end))
    (rw c.in_default.is at (c.new_at.ensures o path tokens rows want none
    knows (rw zero stand))) in
    let both = sym unknown ∙ are in cc

pub write_token-requires-clause-token : goal.write_token-requires-clause-token
write_token-requires-clause-token c =
    let test = c.loop-j-test.true in
    let end = c.width-j-end.ensures in
    first_token c.args.held.now.items c.index-kept.result.now c.loop-j.j c.index-kept.ensures c.requires.data
    (omega (arith, test, end))

pub loop-j-preserved : goal.loop-j-preserved
loop-j-preserved c = record {
  kind = c.in_ok-write_token.ensures.kind;
  held =
      let before = c.loop-j.invariant.held in
      let more = c.in_ok-write_token.ensures.grown before.0 before.1 in
      let count = before.2 in
      let sum = length-append before.0 (more.0 ∷ []) in
      (before.0 ++ more.0 ∷ [], more.1, omega (arith, count, sum));
  made = λ o path tokens rows want none knows stand.
      let s = c.loop-j.invariant.made o path tokens rows want none knows stand in
      let known = kept_at o path c.args.held.now.items 0 (Spined Values tokens) rows
      c.index-kept.result.now knows c.requires.within c.index-kept.ensures in
      let wide = ap (λ (r : Row). length (tokens_of r)) known.is in
      let test = c.loop-j-test.true in
      let end = c.width-j-end.ensures in
      let zero : c.args.gone + 0 ≡ c.args.gone = omega arith in
      written_more o path tokens rows c.loop-j.j _ _ _ _ s (omega (arith, wide, test, end))
      (c.in_ok-write_token.ensures.written o path tokens rows want none knows stand
      (rw c.in-Some.is at (c.new_at.ensures o path tokens rows want none knows
      (rw zero stand))));
}

pub finish-requires : goal.finish-requires
finish-requires c =
    let held = c.loop-j.invariant.held in
    let over = c.loop-j-test.false in
    let end = c.width-j-end.ensures in
    let count = held.2 in
    let some = data_width c.index-kept.result.now.row
    (first_kind c.args.held.now.items c.index-kept.result.now c.index-kept.ensures c.requires.data)
    c.kind-kind.ensures.lawful in
    (Values, held.0, held.1, some_made held.0 (omega (arith, over, end, count, some)))

pub returns : goal.returns
returns c o path tokens new rows want none knows stand are =
    let s = c.loop-j.invariant.made o path tokens rows want none knows stand in
    let known = kept_at o path c.args.held.now.items 0 (Spined Values tokens) rows
    c.index-kept.result.now knows c.requires.within c.index-kept.ensures in
    let wide = ap (λ (r : Row). length (tokens_of r)) known.is in
    let over = c.loop-j-test.false in
    let end = c.width-j-end.ensures in
    let all = sofar_all o path (Spined Values tokens) rows tokens c.loop-j.j s.made s.sofar
    (omega (arith, wide, over, end)) in
    let same : s.made ≡ new = (let both = sym all ∙ are in cc) in
    rw same at (c.finish.ensures Values s.made s.holds)

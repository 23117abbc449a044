use Rattle.std.proofs.Common.{◌≡◌, ◌∙◌, refl, subst, length, take, arith}
use Rattle.hum_score.specs.Row.{tokens_of, width_of}
use Rattle.hum_path.specs.Chains.{columns, longer}
use Rattle.hum_stage.proofs.Telling.{answered_on, answered_as}
use Rattle.hum_cells.specs.Rewriter.{Columns}
use Rattle.hum_cells.proofs.Telling.{done_more, refused_at, done_all, as_wide, told_data, fits, too_long, none_done, token_of_data}
use Rattle.hum_cells.proofs.Telling.{longer_length, longer_rest, longer_more, all_longer}
use Rattle.hum_cells.proofs.tokens.tell_tokens.Goals as goal

pub loop-j-init : goal.loop-j-init
loop-j-init g c = record {
  kind = c.new-making.ensures.of_kind;
  told = λ rewriting past h kern sound. (h, none_done rewriting.becomes _ _ _ c.new-making.ensures);
}

pub bounds-kern-j : goal.bounds-kern-j
bounds-kern-j g c =
    let m = c.requires.score in
    let wide = as_wide m.past c.args.row.now m.score c.requires.kind in
    let kerns : length c.args.kern.now ≡ width_of c.args.row.now = rw m.kern_is wide.1 in
    let width = c.width-j-end.ensures in
    let at = c.loop-j-test.true in
    omega (arith, kerns, width, at)

pub push_told-requires-clause-lawful : goal.push_told-requires-clause-lawful
push_told-requires-clause-lawful g c = token_of_data c.args.row.now _ c.requires.kind c.token.ensures.lawful

pub push_told-requires-clause-column : goal.push_told-requires-clause-column
push_told-requires-clause-column g c =
    let m = c.requires.score in
    let front = take c.loop-j.j (tokens_of c.args.row.now) in
    let wide = (as_wide m.past c.args.row.now m.score c.requires.kind).0 in
    let width = c.width-j-end.ensures in
    let at = c.loop-j-test.true in
    let size = longer_length front (columns m.past) in
    record {
      rewriting = m.rewriting;
      above = longer front (columns m.past);
      memory = (c.loop-j.invariant.told m.rewriting m.past m.memory m.kern_is m.score).0;
      column = omega (arith, wide, width, at, size);
    }

pub returns-in_err-push_told : goal.returns-in_err-push_told
returns-in_err-push_told g c =
    answered_on c.from_residual.result c.in_err-push_told.field-0.0 _ _ c.from_residual.ensures.1 c.in_err-push_told.ensures.pushed
    (λ rule pushed rewriting past h kern sound.
    let before = c.loop-j.invariant.told rewriting past h kern sound in
    let p = pushed rewriting _ before.0 in
    let wide = as_wide past c.args.row.now sound c.requires.kind in
    let columns = wide.0 in
    let kerns : length c.args.kern.now ≡ width_of c.args.row.now = rw kern wide.1 in
    let width = c.width-j-end.ensures in
    let at = c.loop-j-test.true in
    let refused = refused_at _ c.args.kern.now _ (tokens_of c.args.row.now) c.loop-j.j _ _ rule
    (omega (arith, kerns, width, at)) (omega (arith, columns, width, at)) (omega (arith, width, at))
    before.1 (rw (c.token.ensures.token, longer_rest (tokens_of c.args.row.now) _ c.loop-j.j) at p.1) in
    (tt, told_data rewriting past c.args.row.now c.requires.kind ∙ rw (← kern, refused) refl))

pub loop-j-preserved : goal.loop-j-preserved
loop-j-preserved g c = record {
  kind = c.in_ok-push_told.ensures.kind;
  told = λ rewriting past h kern sound.
      let before = c.loop-j.invariant.told rewriting past h kern sound in
      let p = c.in_ok-push_told.ensures.pushed rewriting _ before.0 in
      let wide = as_wide past c.args.row.now sound c.requires.kind in
      let many = wide.0 in
      let kerns : length c.args.kern.now ≡ width_of c.args.row.now = rw kern wide.1 in
      let width = c.width-j-end.ensures in
      let at = c.loop-j-test.true in
      let next = longer_more (tokens_of c.args.row.now) (columns past) c.loop-j.j c.token.result.now c.token.ensures.token
      (omega (arith, width, at)) (omega (arith, many, width, at)) in (
        subst (λ (x : Columns). g.T.TokenRewriter.follows c.push_told.new.teller rewriting x) next p.0,
        done_more _ c.args.kern.now _ (tokens_of c.args.row.now) c.loop-j.j _ _ _ _
            (omega (arith, kerns, width, at)) (omega (arith, many, width, at)) (omega (arith, width, at))
            before.1 (rw (c.token.ensures.token, longer_rest (tokens_of c.args.row.now) (columns past) c.loop-j.j) at p.1),
      );
}

pub returns : goal.returns
returns g c = λ rewriting past h kern sound.
    let before = c.loop-j.invariant.told rewriting past h kern sound in
    let width = c.width-j-end.ensures in
    let at = c.loop-j-test.false in
    let d = before.1 in
    let all = done_all _ _ _ _ _ _ _ (omega (arith, width, at)) d in
    let made = rw c.in_ok-made.ensures.made at (c.finish.ensures _ d.done d.holds) in (
      subst (λ (x : Columns). g.T.TokenRewriter.follows c.loop-j.teller rewriting x)
          (all_longer past c.args.row.now c.loop-j.j c.requires.kind (omega (arith, width, at))) before.0,
      told_data rewriting past c.args.row.now c.requires.kind ∙ rw (← kern, all, made.0) (fits d.done made.1),
    )

pub returns-in_err-made : goal.returns-in_err-made
returns-in_err-made g c =
    let long = c.in_err-made.ensures.long in
    answered_as c.from_residual-in_err-made.result c.in_err-made.field-0.0 _ _ c.from_residual-in_err-made.ensures.1 long.0 (λ rewriting past h kern sound.
    let before = c.loop-j.invariant.told rewriting past h kern sound in
    let width = c.width-j-end.ensures in
    let at = c.loop-j-test.false in
    let d = before.1 in
    let all = done_all _ _ _ _ _ _ _ (omega (arith, width, at)) d in
    let made = rw long.1 at (c.finish.ensures _ d.done d.holds) in
    (tt, told_data rewriting past c.args.row.now c.requires.kind ∙ rw (← kern, all) (too_long d.done made)))

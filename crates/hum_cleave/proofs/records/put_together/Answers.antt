use Rattle.std.proofs.Common.{◌∙◌}
use Rattle.hum_score.specs.Row.{tokens_of}
use Rattle.hum_cleave.proofs.Fitted.{some_tokens}
use Rattle.hum_cleave.proofs.Placewise.{put_other, put_one, put_none, put_all, together_filled}
use Rattle.hum_cleave.proofs.records.put_together.Goals as goal
use Rattle.hum_cleave.proofs.records.put_together.Goals.{then-not-mark+in_ok-push, else-not-mark+then-not-is_done+in_ok-push-2, else-not-mark+else-not-is_done}

pub loop-j-preserved : goal.loop-j-preserved
loop-j-preserved c =
    let ts = tokens_of c.args.row.now in
    let at = c.loop-j-test.true in
    let wide = c.requires.as_wide in
    let before = c.loop-j.invariant in
    (elim c.if-not-mark.branch [
      | then-not-mark+in_ok-push w ↦ rw (w.making-is, w.is_done-is) (record {
        kind = w.in_ok-push.ensures.kind ∙ before.kind;
        put = put_other _ _ c.args.marks.now ts c.loop-j.j c.loop-j.is_done _ _ _ _ at wide w.if-not-mark.true before.put
            (λ made held. rw w.token.ensures.token at (w.in_ok-push.ensures.pushed _ made held));
      })
      | else-not-mark+then-not-is_done+in_ok-push-2 w ↦ rw (w.making-is, w.is_done-is) (record {
        kind = w.in_ok-push-2.ensures.kind ∙ before.kind;
        put = put_one _ _ c.args.marks.now ts c.loop-j.j c.loop-j.is_done _ _ _ _ at wide w.if-not-mark.false w.if-not-is_done.true before.put
            (λ made held. w.in_ok-push-2.ensures.pushed _ made held);
      })
      | else-not-mark+else-not-is_done w ↦ rw (w.making-is, w.is_done-is) (record {
        kind = before.kind;
        put = put_none _ _ c.args.marks.now ts c.loop-j.j c.loop-j.is_done _ _ at wide w.if-not-mark.false w.if-not-is_done.false before.put;
      })
    ])

pub finish-requires : goal.finish-requires
finish-requires c =
    let ts = tokens_of c.args.row.now in
    let all = put_all _ _ c.args.marks.now ts c.loop-j.j c.loop-j.is_done _ _ c.loop-j-test.false c.loop-j.invariant.put in (
      c.args.kind,
      _,
      all,
      λ none. some_tokens c.args.kind c.args.row.now c.requires.shape c.requires.valid (together_filled _ c.args.marks.now ts c.requires.as_wide none),
    )

pub returns : goal.returns
returns c =
    let ts = tokens_of c.args.row.now in
    c.finish.ensures _ _ (put_all _ _ c.args.marks.now ts c.loop-j.j c.loop-j.is_done _ _ c.loop-j-test.false c.loop-j.invariant.put)

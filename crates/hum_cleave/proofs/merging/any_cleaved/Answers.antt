use Rattle.std.proofs.lemmas.Bool.Decides.{nat_tests}
use Rattle.std.proofs.Common.{◌≡◌, ◌∙◌, [], get_or, sym, ap, arith}
use Rattle.hum_score.specs.Row.{tokens_of}
use Rattle.hum_score.specs.Sign.{sign_of}
use Rattle.hum_cleave.proofs.Gathering.{any_skips, any_fails, any_holds, any_ended}
use Rattle.hum_cleave.proofs.merging.any_cleaved.Goals as goal
use Rattle.hum_cleave.proofs.merging.any_cleaved.Goals.{else-mark-via-then-mark+else-test, else-mark-via-else-mark}

pub returns-then-test : goal.returns-then-test
returns-then-test g c = λ p h.
    let ts = tokens_of c.args.row.now in
    let j = c.loop-j.j in
    let test : c.test.result ≡ p (sign_of (get_or ts j [])) =
    h _ _ c.test.ensures ∙ ap p (c.token_sign.ensures ∙ ap sign_of c.token.ensures.token) in
    sym (any_holds p sign_of c.args.marks.now ts j c.loop-j-test.true c.requires.as_wide c.if-mark.true (sym test ∙ c.if-test.true))
    ∙ c.loop-j.invariant p h

pub loop-j-preserved : goal.loop-j-preserved
loop-j-preserved g c = λ p h.
    let ts = tokens_of c.args.row.now in
    let j = c.loop-j.j in
    (elim c.else-mark.branch [
      | else-mark-via-then-mark+else-test w ↦
          let test : w.test.result ≡ p (sign_of (get_or ts j [])) =
          h _ _ w.test.ensures ∙ ap p (w.token_sign.ensures ∙ ap sign_of w.token.ensures.token) in
          any_fails p sign_of c.args.marks.now ts j c.loop-j-test.true c.requires.as_wide w.if-mark.true (sym test ∙ w.if-test.false) ∙ c.loop-j.invariant p h
      | else-mark-via-else-mark w ↦
          any_skips p sign_of c.args.marks.now ts j c.loop-j-test.true c.requires.as_wide w.if-mark.false ∙ c.loop-j.invariant p h
    ])

pub returns : goal.returns
returns = grind (arith, nat_tests, any_ended)

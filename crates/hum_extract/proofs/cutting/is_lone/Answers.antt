use Rattle.std.proofs.Common.{◌≡◌, ◌∙◌, [], get_or, sym, ap}
use Rattle.hum_score.specs.Row.{tokens_of}
use Rattle.hum_score.specs.Sign.{sign_of, is_exchange}
use Rattle.hum_extract.proofs.Placewise.{lone_first, lone_other}
use Rattle.hum_extract.proofs.cutting.is_lone.Goals as goal
use Rattle.hum_extract.proofs.cutting.is_lone.Goals.{then-is_exchange+in-None, else-is_exchange}

pub loop-j-preserved : goal.loop-j-preserved
loop-j-preserved c =
    let j = c.loop-j.j in
    let sign : c.is_exchange.result ≡ is_exchange (sign_of (get_or (tokens_of c.args.row.now) j [])) =
    c.is_exchange.ensures ∙ ap is_exchange (c.token_sign.ensures ∙ ap sign_of c.token.ensures.token) in
    (elim c.if-is_exchange.branch [
      | then-is_exchange+in-None w ↦ rw w.first-is
          (lone_first c.loop-j.first c.args.marks.now (tokens_of c.args.row.now) j c.loop-j-test.true c.requires w.in-None.is (sym sign
          ∙ w.if-is_exchange.true) ∙ c.loop-j.invariant)
      | else-is_exchange w ↦ rw w.first-is
          (lone_other c.loop-j.first c.args.marks.now (tokens_of c.args.row.now) j c.loop-j-test.true c.requires (sym sign ∙ w.if-is_exchange.false)
          ∙ c.loop-j.invariant)
    ])

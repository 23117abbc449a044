use Rattle.std.proofs.Common.{◌≡◌, ◌∙◌, [], get_or, sym, ap}
use Rattle.std.proofs.lemmas.Bool.{false≢true}
use Rattle.hum_score.specs.Row.{tokens_of}
use Rattle.hum_score.specs.Sign.{sign_of, is_exchange}
use Rattle.hum_extract.proofs.Placewise.{between_ends, between_inside, between_outside}
use Rattle.hum_extract.proofs.cutting.chosen_between.Goals as goal
use Rattle.hum_extract.proofs.cutting.chosen_between.Goals.{else-inside-via-then-inside+else-exchanges, else-inside-via-else-inside}
use Rattle.hum_extract.proofs.cutting.chosen_between.Goals.{else-inside-2-via-then-inside-2+else-mark, else-inside-2-via-else-inside-2}

pub returns-then-exchanges : goal.returns-then-exchanges
returns-then-exchanges c =
    let j = c.loop-j.j in
    let sign : c.is_exchange-exchanges.result ≡ is_exchange (sign_of (get_or (tokens_of c.args.row.now) j [])) =
    c.is_exchange-exchanges.ensures ∙ ap is_exchange (c.token_sign.ensures ∙ ap sign_of c.token.ensures.token) in
    sym (between_ends c.loop-j.inside c.args.marks.now (tokens_of c.args.row.now) j c.loop-j-test.true c.requires c.if-inside.true (sym sign
    ∙ c.if-exchanges.true)) ∙ c.loop-j.invariant

pub loop-j-preserved : goal.loop-j-preserved
loop-j-preserved c =
    let j = c.loop-j.j in
    let sign : c.is_exchange-exchanges.result ≡ is_exchange (sign_of (get_or (tokens_of c.args.row.now) j [])) =
    c.is_exchange-exchanges.ensures ∙ ap is_exchange (c.token_sign.ensures ∙ ap sign_of c.token.ensures.token) in
    rw sign (elim c.else-inside.branch [
      | else-inside-via-then-inside+else-exchanges w ↦ (elim c.else-inside-2.branch [
        | else-inside-2-via-then-inside-2+else-mark v ↦
            between_inside c.loop-j.inside c.args.marks.now (tokens_of c.args.row.now) j c.loop-j-test.true c.requires w.if-inside.true (sym sign
            ∙ w.if-exchanges.false) v.if-mark.false ∙ c.loop-j.invariant
        | else-inside-2-via-else-inside-2 v ↦ absurd (false≢true (sym v.if-inside-2.false ∙ w.if-inside.true))
      ])
      | else-inside-via-else-inside w ↦
          between_outside c.loop-j.inside c.args.marks.now (tokens_of c.args.row.now) j c.loop-j-test.true c.requires w.if-inside.false ∙ c.loop-j.invariant
    ])

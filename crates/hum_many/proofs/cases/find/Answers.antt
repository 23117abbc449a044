use Rattle.std.proofs.Common.{◌∙◌, sym, ap}
use Rattle.std.specs.Str.{bytes_eq}
use Rattle.hum_many.proofs.Holding.{find-here, find-next, find-none}
use Rattle.hum_many.proofs.cases.find.Goals as goal

pub returns-then-eq : goal.returns-then-eq
returns-then-eq c =
    find-here c.args.scores.now c.args.name.now c.parts.result.1.now c.loop-score.score-index c.score-item.result c.loop-score.invariant
    c.loop-score-test.true c.score-item.is
    (ap (λ n. bytes_eq n c.args.name.now) (sym c.parts.ensures.name) ∙ sym c.eq.ensures ∙ c.if-eq.true) c.parts.ensures.text

pub loop-score-preserved : goal.loop-score-preserved
loop-score-preserved c =
    find-next c.args.scores.now c.args.name.now c.loop-score.score-index c.score-item.result c.loop-score.invariant
    c.loop-score-test.true c.score-item.is
    (ap (λ n. bytes_eq n c.args.name.now) (sym c.parts.ensures.name) ∙ sym c.eq.ensures ∙ c.if-eq.false)

pub returns : goal.returns
returns c = find-none c.args.scores.now c.args.name.now c.loop-score.score-index c.loop-score.invariant c.loop-score-test.false

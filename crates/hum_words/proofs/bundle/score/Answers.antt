use Rattle.std.proofs.lemmas.Bool.Decides.{nat_tests}
use Rattle.std.proofs.Common.{◌≡◌, ◌∙◌, ap, sym, true, false, rules, arith}
use Rattle.hum_words.specs.Bundle.{score_in, lines, name_in, names}
use Rattle.hum_words.proofs.BundleCuts.{found, other, no_score}
use Rattle.hum_words.proofs.bundle.score.Goals as goal

pub returns-then-names : goal.returns-then-names
returns-then-names c =
    let named : names (name_in c.cut_line.result.0.now) c.args.name.now ≡ true = search rules in
    rw c.before_name.ensures (sym (c.loop-rest.invariant ∙ ap (score_in c.args.name.now) c.cut_line.ensures.first
    ∙ found c.args.name.now c.cut_line.result.0.now (lines c.cut_line.result.1.now) named))

pub loop-rest-preserved : goal.loop-rest-preserved
loop-rest-preserved c =
    let plain : names (name_in c.cut_line.result.0.now) c.args.name.now ≡ false = search rules in
    c.loop-rest.invariant ∙ ap (score_in c.args.name.now) c.cut_line.ensures.first
    ∙ other c.args.name.now c.cut_line.result.0.now (lines c.cut_line.result.1.now) plain

pub returns : goal.returns
returns = grind (arith, nat_tests, no_score)

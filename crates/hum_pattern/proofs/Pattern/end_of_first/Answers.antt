use Rattle.std.proofs.Common.{◌∙◌}
use Rattle.hum_pattern.proofs.Barline.{barline_end}
use Rattle.hum_pattern.proofs.Pattern.end_of_first.Goals.{in-Barlines, in-Expression}
use Rattle.hum_pattern.proofs.Pattern.end_of_first.Goals as goal

pub returns-clause-found : goal.returns-clause-found
returns-clause-found c = rw (← c.self.view_is) (elim c.match-self.branch [
  | in-Barlines w ↦ rw w.in-Barlines.is (w.result-is ∙ w.barline_end.ensures ∙ barline_end c.args.token.now)
  | in-Expression w ↦ rw w.in-Expression.is (w.result-is ∙ w.end_of_first.ensures.found)
])

use Rattle.std.proofs.Common.{◌∙◌}
use Rattle.hum_pattern.proofs.Barline.{barline_found}
use Rattle.hum_pattern.proofs.Pattern.matches.Goals.{in-Barlines, in-Expression}
use Rattle.hum_pattern.proofs.Pattern.matches.Goals as goal

pub returns-clause-found : goal.returns-clause-found
returns-clause-found c = rw (← c.self.view_is) (elim c.match-self.branch [
  | in-Barlines w ↦ rw w.in-Barlines.is (w.result-is ∙ w.begins_barline.ensures ∙ barline_found c.args.token.now)
  | in-Expression w ↦ rw w.in-Expression.is (w.result-is ∙ w.finds.ensures.found)
])

use Rattle.std.proofs.Common.{◌∙◌, sym}
use Rattle.hum_cells.proofs.Telling.{same_data}
use Rattle.hum_cells.proofs.cells.tell_data.Goals as goal

pub hear_tokens-requires-clause-score : goal.hear_tokens-requires-clause-score
hear_tokens-requires-clause-score g c = (c.args.kern.now, c.requires.score)

pub returns-in_ok-hear_tokens : goal.returns-in_ok-hear_tokens
returns-in_ok-hear_tokens g c = λ rewriting past h kern sound. (
  c.in_ok-hear_tokens.ensures rewriting past h sound,
  same_data rewriting past c.args.row.now c.requires.kind c.requires.at_most (rw kern at (sym c.any_told.ensures ∙ c.if-any_told.false)),
)

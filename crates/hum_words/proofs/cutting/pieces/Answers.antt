use Rattle.hum_words.proofs.Cuts.{exact, only}
use Rattle.hum_words.proofs.cutting.pieces.Goals as goal

pub returns-clause-only : goal.returns-clause-only
returns-clause-only c = only _ _ c.cut.ensures

pub returns-clause-exact : goal.returns-clause-exact
returns-clause-exact c = exact _ _ c.cut.ensures

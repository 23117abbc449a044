use Rattle.std.proofs.Common.{[]}
use Rattle.hum_cells.proofs.Keeping.{rewrite_keeps}
use Rattle.hum_cells.proofs.cells.CellsDecides.begin.Goals as goal

pub returns-clause-keeps : goal.returns-clause-keeps
returns-clause-keeps g c = λ _.
    rewrite_keeps _ (g.met.T.TokenRewriter.lawful c.begin.result _ [] c.begin.ensures)

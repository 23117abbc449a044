use Rattle.std.proofs.Common.{◌∙◌, sym}
use Rattle.hum_cells.proofs.Framing.{kern_stays}
use Rattle.hum_cells.proofs.cells.mark_after.Goals as goal

pub returns-then-not-steers : goal.returns-then-not-steers
returns-then-not-steers c = λ past kern at sound. kern ∙ kern_stays past c.args.row.now (sym c.steers.ensures ∙ c.if-not-steers.true) sound

use Rattle.std.proofs.Common.{◌∙◌, ap, Some}
use Rattle.hum_turns.specs.declared.order.Side.TheVariants as side
use Rattle.hum_engine.proofs.Telling.{leaned}
use Rattle.hum_engine.proofs.net.Net.run_on.Goals as goal

pub returns-then-is_row : goal.returns-then-is_row
returns-then-is_row g c = leaned side.Left (rw (c.in-Some-Left.is ∙ ap Some c.in-Some-Left.field-0-is) at c.side.ensures) c.run_from_left.ensures

pub returns-else-is_row : goal.returns-else-is_row
returns-else-is_row g c = leaned side.Left (rw (c.in-Some-Left.is ∙ ap Some c.in-Some-Left.field-0-is) at c.side.ensures) c.run_tree_from_left.ensures

pub returns-in-Some-Right : goal.returns-in-Some-Right
returns-in-Some-Right g c = leaned side.Right (rw (c.in-Some-Right.is ∙ ap Some c.in-Some-Right.field-0-is) at c.side.ensures) c.run_from_right.ensures

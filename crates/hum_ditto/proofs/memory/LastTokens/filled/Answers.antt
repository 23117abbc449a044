use Rattle.hum_ditto.proofs.Passing.{held_filled_if}
use Rattle.hum_ditto.proofs.memory.LastTokens.filled.Goals as goal

pub returns-in-Given : goal.returns-in-Given
returns-in-Given c =
    held_filled_if c.args.self.now c.self.inside.options c.self.inside.holding c.in-Given.above c.in-Given.field-1 c.self.view_is c.in-Given.is
    (rw c.in-Given.is at c.self.invariant) c.args.row.now c.filled_from.result c.kind-kind.ensures.lawful
    c.filled_from.ensures.made c.filled_from.ensures.at_most

use Rattle.std.proofs.Common.{◌∙◌, ap, length}
use Rattle.std.specs.Prelude.{◌==◌, not}
use Rattle.hum_timebase.proofs.Placed.{some_placed}
use Rattle.hum_timebase.proofs.grid.has_note.Goals as goal

pub returns : goal.returns
returns c = λ columns is. ap not c.is_empty.ensures ∙ ap (λ notes. not (length notes == 0)) is ∙ some_placed columns 0

use Rattle.std.proofs.Common.{◌∙◌, sym}
use Rattle.hum_timebase.proofs.Striking.{goes_local}
use Rattle.hum_timebase.proofs.grid.GridDecides.step.Goals as goal

pub returns-in-Local : goal.returns-in-Local
returns-in-Local c = λ decide past h sound.
    let step = goes_local _ _ _ _ decide past h c.args.next c.keep_timed.new.self (sym c.kind.ensures.kind
    ∙ c.in-Local.is) c.keep_timed.ensures in
    rw c.put-in-Local.ensures step

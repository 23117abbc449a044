use Rattle.std.proofs.Common.{◌∙◌}
use Rattle.hum_timebase.proofs.Settled.{none_before}
use Rattle.hum_timebase.proofs.clock.Clock.count_before.Goals as goal

pub returns-then-self : goal.returns-then-self
returns-then-self c =
    let time = rw (← c.self.view_is) at c.requires.time in
    rw (← c.self.view_is) (none_before c.args.step _ c.args.time (c.self.invariant c.if-self.true ∙ time))

use Rattle.std.proofs.Common.{sym, ◌∙◌}
use Rattle.hum_timebase.proofs.Lasting.{all_rested}
use Rattle.hum_timebase.proofs.clock.Clock.keep_timed.Goals as goal

pub returns-then-all : goal.returns-then-all
returns-then-all c = sym (all_rested c.args.timed.now c.args.self.now (sym c.all.ensures ∙ c.if-all.true))

use Rattle.hum_pattern.proofs.Barline.{barline_is}
use Rattle.hum_pattern.proofs.Pattern.new.Goals as goal

pub returns-then-is_barline-clause-valid : goal.returns-then-is_barline-clause-valid
returns-then-is_barline-clause-valid c = rw (c.is_barline.ensures c.if-is_barline.true) barline_is

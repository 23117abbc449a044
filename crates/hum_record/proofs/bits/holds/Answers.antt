use Rattle.std.proofs.Common.{◌∙◌, ap, not}
use Rattle.std.specs.Prelude.{◌==◌}
use Rattle.hum_record.proofs.Places.{any_bit}
use Rattle.hum_record.proofs.bits.holds.Goals as goal

pub returns : goal.returns
returns c = ap (λ n. not (n == 0)) c.bits_of.ensures ∙ any_bit c.args.byte c.args.text.now

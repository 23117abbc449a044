use Rattle.hum_kern.proofs.UsualParts.{plain_at}
use Rattle.hum_kern.proofs.runs.is_plain.Goals as goal

pub returns : goal.returns
returns c = plain_at c.args.b c.ranges.b.fits

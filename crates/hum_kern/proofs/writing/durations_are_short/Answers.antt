use Rattle.hum_kern.proofs.Short.{recip_short}
use Rattle.hum_kern.proofs.writing.durations_are_short.Goals as goal

pub returns : goal.returns
returns c = recip_short

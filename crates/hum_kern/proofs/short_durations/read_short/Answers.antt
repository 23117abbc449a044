use Rattle.hum_kern.specs.Usual.{leading_of}
use Rattle.hum_kern.proofs.ShortParts.{answered_short}
use Rattle.hum_kern.proofs.short_durations.read_short.Goals as goal

pub returns-in-Some : goal.returns-in-Some
returns-in-Some c = answered_short c.args.bytes.now (leading_of c.in-Some.found) c.by_number.result c.in-Some.ensures.exact c.by_number.ensures

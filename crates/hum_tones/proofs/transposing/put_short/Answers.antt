use Rattle.std.proofs.Common.{Ok}
use Rattle.hum_kern.proofs.Found.{within}
use Rattle.hum_tones.proofs.transposing.put_short.Goals as goal

pub put_with_pitch-requires-clause-end : goal.put_with_pitch-requires-clause-end
put_with_pitch-requires-clause-end c = (within c.args.part.now (Ok c.args.found) c.requires.read).1

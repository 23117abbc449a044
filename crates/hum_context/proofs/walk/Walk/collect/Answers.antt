use Rattle.std.proofs.Common.{sym}
use Rattle.hum_context.proofs.Passing.{data_goes_on}
use Rattle.hum_context.proofs.walk.Walk.collect.Goals as goal

pub returns-clause-column : goal.returns-clause-column
returns-clause-column c = sym (data_goes_on c.args.next.now c.args.c c.requires.taken).0

pub returns-clause-ended : goal.returns-clause-ended
returns-clause-ended c = sym (data_goes_on c.args.next.now c.args.c c.requires.taken).1

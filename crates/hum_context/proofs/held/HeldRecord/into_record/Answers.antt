use Rattle.std.proofs.Common.{subst}
use Rattle.hum_context.specs.Held.{MayHold}
use Rattle.hum_context.proofs.Nulls.{some_null}
use Rattle.hum_context.proofs.held.HeldRecord.into_record.Goals as goal

pub null_record-requires-clause-some : goal.null_record-requires-clause-some
null_record-requires-clause-some c =
    let held = subst MayHold c.in-Nulls.is c.self.invariant in
    some_null c.in-Nulls.width held.1

pub null_record-requires-clause-fits : goal.null_record-requires-clause-fits
null_record-requires-clause-fits c = (subst MayHold c.in-Nulls.is c.self.invariant).3

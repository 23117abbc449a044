use Rattle.std.proofs.Common.{◌≡◌, take}
use Rattle.hum_laws.proofs.given.copied.Given as goal

abbrev pub invariant-loop-record : goal.invariant-loop-record
invariant-loop-record l = l.copies.items ≡ take l.record-index l.records

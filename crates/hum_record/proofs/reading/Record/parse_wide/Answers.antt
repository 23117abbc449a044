use Rattle.std.proofs.Common.{refl}
use Rattle.hum_record.proofs.Short.{line_read}
use Rattle.hum_record.proofs.reading.Record.parse_wide.Goals as goal

pub invariant_of-result : goal.invariant_of-result
invariant_of-result c =
    let put = c.if-put_far.ensures refl in
    rw put.3 (line_read c.args.held.now c.put_far.new.self.ends put.0 put.1 put.2 put.4).0

pub returns-then-put_far : goal.returns-then-put_far
returns-then-put_far c =
    let put = c.if-put_far.ensures refl in
    rw put.3 (line_read c.args.held.now c.put_far.new.self.ends put.0 put.1 put.2 put.4).1

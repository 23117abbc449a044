use Rattle.std.proofs.Common.{take, refl, arith}
use Rattle.hum_record.specs.Plain.{HasPlaces}
use Rattle.hum_record.proofs.Short.{line_read}
use Rattle.hum_record.proofs.Words.{second_word}
use Rattle.hum_record.proofs.reading.Record.parse_longer.Goals as goal

pub invariant_of-result : goal.invariant_of-result
invariant_of-result c =
    let held = c.args.held.now in
    let end = c.in_ok-end.end in
    let filled = c.if-held.false in
    let near = c.in_ok-end.ensures.near in
    let put = c.if-put_pair.ensures in
    let far = second_word held c.bits_at-ends.result end.len end.size end.ends (omega (arith, filled)) c.bits_at-ends.ensures
    (c.requires.free (omega (arith, filled))).1 (c.is_apart.ensures c.if-not-is_apart.false) near c.in_ok-end.ensures.ends in
    let plain : HasPlaces (take end.len held) c.put_pair.new.self.ends = rw (put.ends refl) far.plain in
    rw (put.text refl) (line_read held c.put_pair.new.self.ends end.len far.line (omega (arith, near)) plain).0

pub returns-then-put_pair : goal.returns-then-put_pair
returns-then-put_pair c =
    let held = c.args.held.now in
    let end = c.in_ok-end.end in
    let filled = c.if-held.false in
    let near = c.in_ok-end.ensures.near in
    let put = c.if-put_pair.ensures in
    let far = second_word held c.bits_at-ends.result end.len end.size end.ends (omega (arith, filled)) c.bits_at-ends.ensures
    (c.requires.free (omega (arith, filled))).1 (c.is_apart.ensures c.if-not-is_apart.false) near c.in_ok-end.ensures.ends in
    let plain : HasPlaces (take end.len held) c.put_pair.new.self.ends = rw (put.ends refl) far.plain in
    rw (put.text refl) (line_read held c.put_pair.new.self.ends end.len far.line (omega (arith, near)) plain).1

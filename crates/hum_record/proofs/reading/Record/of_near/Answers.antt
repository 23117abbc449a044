use Rattle.std.proofs.Common.{take, refl, arith}
use Rattle.hum_record.proofs.Short.{short_places, near_ends, near_free, front_line, line_text, line_read, line_read_to}
use Rattle.hum_record.proofs.reading.Record.of_near.Goals as goal

pub invariant_of-result : goal.invariant_of-result
invariant_of-result g c =
    let held = c.args.held.now in
    let len = c.args.end.len in
    let ends = c.requires.ends in
    let near = c.requires.near in
    let few = c.requires.few in
    let put = c.if-put_near.ensures in
    let line = front_line held len ends.lf (near_free held len c.args.end.size c.args.end.ends ends) ends.behind in
    let text = line_text held len line in
    let places = short_places (take len held) c.put_near.new.self.ends c.args.end.ends (omega (arith, text.1, near, few)) (near_ends held len c.args.end.size c.args.end.ends ends) (put.ends refl) in
    rw (put.text refl) (line_read held c.put_near.new.self.ends len line (omega (arith, near, few)) places).0

pub returns-then-put_near : goal.returns-then-put_near
returns-then-put_near g c =
    let held = c.args.held.now in
    let len = c.args.end.len in
    let ends = c.requires.ends in
    let near = c.requires.near in
    let few = c.requires.few in
    let put = c.if-put_near.ensures in
    let line = front_line held len ends.lf (near_free held len c.args.end.size c.args.end.ends ends) ends.behind in
    let text = line_text held len line in
    let places = short_places (take len held) c.put_near.new.self.ends c.args.end.ends (omega (arith, text.1, near, few)) (near_ends held len c.args.end.size c.args.end.ends ends) (put.ends refl) in
    rw (put.text refl) (line_read_to held c.put_near.new.self.ends len ends.lf c.args.end.size
    (near_free held len c.args.end.size c.args.end.ends ends) ends.behind ends.whole (omega (arith, near, few)) places)

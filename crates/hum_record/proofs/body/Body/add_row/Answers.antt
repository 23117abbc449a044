use Rattle.std.proofs.Common.{◌≡◌, ◌∙◌, length, arith, ap}
use Rattle.std.proofs.lemmas.List.Splits.{join_with_byte-slice_split}
use Rattle.hum_score.specs.Spelling.{parts}
use Rattle.hum_record.proofs.Held.{lf_within}
use Rattle.hum_record.proofs.Added.{counts, more_bytes, more_places, added_text, rows_ends}
use Rattle.hum_record.proofs.Rows.{ends_within}
use Rattle.hum_record.proofs.body.Body.add_row.Goals as goal

pub put_ends-requires-clause-few : goal.put_ends-requires-clause-few
put_ends-requires-clause-few c =
    let new = c.put_behind-end.new.text in
    let size : length new ≡ c.make_room.new.held.len = omega (arith, c.put_behind-end.auto.text, c.deref_mut.ensures.len) in
    let within = lf_within new c.put_behind-end.result c.put_behind-end.ensures.ended in
    let room = c.self.invariant.3 in
    let more = c.make_room.ensures.bytes.most in
    let short = c.if-self-text-ge-MOST_BYTES.false in
    let whole = ap length (join_with_byte-slice_split 9 c.args.other.now.text) in
    let text = ap length c.text-text.ensures in
    rw (c.ends-ends.ensures, c.requires.cut)
    (ends_within _ 0 _ (parts c.args.other.now.text)
    (omega (arith, size, within, room, more, short, whole, c.put_behind-end.ensures.end, text)))

pub returns-clause-text : goal.returns-clause-text
returns-clause-text c _ =
    let held = c.self.inside.held in
    let places = c.self.inside.places in
    let wider = c.make_room.new.held in
    let new = c.put_behind-end.new.text in
    let given = c.make_room.ensures.bytes in
    let old = counts _ _ _ _ held.items places.items _ c.self.view_is c.self.invariant.0 c.self.invariant.1 held.ok.0 places.ok.0 in
    let more = given.more in
    let before = more_bytes _ _ _ held.items _ _ _ wider.items held.ok.0 given.kept (omega (arith, more, wider.ok.0)) old in
    let size : length new ≡ wider.len = omega (arith, c.put_behind-end.auto.text, c.deref_mut.ensures.len) in
    let put = rw c.deref_mut.ensures.value at c.put_behind-end.ensures.text in
    rw (← c.text-text.ensures) (added_text _ _ _ wider.len wider.items places.items _ _ new c.text-text.result.now before size put)

pub returns-clause-ends : goal.returns-clause-ends
returns-clause-ends c _ =
    let held = c.self.inside.held in
    let places = c.self.inside.places in
    let wider = c.make_room.new.places in
    let new = c.put_ends.new.places in
    let given = c.make_room.ensures.places in
    let old = counts _ _ _ _ held.items places.items _ c.self.view_is c.self.invariant.0 c.self.invariant.1 held.ok.0 places.ok.0 in
    let more = given.more in
    let before = more_places _ _ _ _ places.items _ _ wider.items places.ok.0 given.kept (omega (arith, more, wider.ok.0)) old in
    let size : length new ≡ wider.len = omega (arith, c.put_ends.auto.places, c.deref_mut-2.ensures.len) in
    let put = rw c.deref_mut-2.ensures.value at c.put_ends.ensures in
    rw (← c.text-text.ensures)
    (rows_ends _ _ _ held.items wider.items _ _ c.text-text.result.now before c.put_behind-end.ensures.end wider.len new
    c.ends-ends.result.now size (rw c.text-text.ensures (c.ends-ends.ensures ∙ c.requires.cut)) put)

use Rattle.std.proofs.Common.{◌≡◌, ◌∙◌, length, arith}
use Rattle.std.proofs.lemmas.List.{take-set}
use Rattle.hum_record.proofs.Held.{front_written, fronts}
use Rattle.hum_record.proofs.Short.{apart_places}
use Rattle.hum_record.proofs.body.Body.put_pair.Goals as goal

pub put_places-count-requires-clause-room : goal.put_places-count-requires-clause-room
put_places-count-requires-clause-room c =
    let few = apart_places 64 0 1 c.args.ends (omega arith) c.requires.apart in
    omega (arith, few, c.if-len-lt-NEAR.false, c.len-2.ensures, c.deref_mut-2.ensures.len)

pub put_places-all-requires-clause-room : goal.put_places-all-requires-clause-room
put_places-all-requires-clause-room c =
    let few = apart_places 64 0 1 c.args.ends (omega arith) c.requires.apart in
    let more = apart_places 64 64 _ c.args.end.ends (omega (arith, c.ranges.ends.fits)) c.requires.next_apart in
    omega (arith, few, more, c.put_places-count.ensures.count, c.if-len-lt-NEAR.false, c.len-2.ensures, c.deref_mut-3.ensures.len)

pub returns-clause-text : goal.returns-clause-text
returns-clause-text c _ =
    let held = c.self.inside.held in
    let new = c.copy_words.new.text in
    let len = c.args.end.len in
    let short = c.requires.short in
    let size : length new ≡ held.len = omega (arith, c.copy_words.auto.text, c.deref_mut.ensures.len) in
    take-set _ len 10 ∙ front_written len held.len new held.items size
    ∙ fronts len 128 new c.args.held.now (omega (arith, short)) c.copy_words.ensures

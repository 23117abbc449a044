use Rattle.std.proofs.Common.{◌≡◌, ◌∙◌, ◌<◌, length, take, ap, arith}
use Rattle.std.proofs.lemmas.List.{take-set}
use Rattle.hum_record.proofs.Held.{written_back, front_put, ended_set}
use Rattle.hum_record.proofs.Short.{apart_places}
use Rattle.hum_record.proofs.body.Body.put_near.Goals as goal

pub put_places-count-requires-clause-room : goal.put_places-count-requires-clause-room
put_places-count-requires-clause-room g c =
    let few = apart_places 64 0 1 c.args.ends (omega arith) c.requires.apart in
    omega (arith, few, c.if-len-lt-MOST_NEAR.false, c.len-2.ensures, c.deref_mut-2.ensures.len)

pub returns-clause-text : goal.returns-clause-text
returns-clause-text g c _ =
    let held = c.self.inside.held in
    let put = rw c.deref_mut.ensures.value at c.copy_near.ensures in
    let size : length c.copy_near.new.text ≡ held.len = omega (arith, c.copy_near.auto.text, c.deref_mut.ensures.len) in
    take-set _ c.args.len 10
    ∙ ap (take c.args.len) (written_back held.len c.copy_near.new.text held.items size ∙ put)
    ∙ front_put held.items c.args.held.now g.row.N c.args.len
    (omega (arith, c.if-len-lt-NEAR.false, c.len.ensures, held.ok.0, c.requires.few)) c.requires.filled (omega (arith, c.requires.short))

pub returns-clause-ends : goal.returns-clause-ends
returns-clause-ends g c _ =
    let places = c.self.inside.places in
    let new = c.put_places-count.new.places in
    let size : length new ≡ places.len = omega (arith, c.put_places-count.auto.places, c.deref_mut-2.ensures.len) in
    ap (take _) (written_back places.len new places.items size) ∙ c.put_places-count.ensures.places

pub invariant_of-self : goal.invariant_of-self
invariant_of-self g c =
    let held = c.self.inside.held in
    let new = c.copy_near.new.text in
    let few = apart_places 64 0 1 c.args.ends (omega arith) c.requires.apart in
    let size : length new ≡ held.len = omega (arith, c.copy_near.auto.text, c.deref_mut.ensures.len) in
    let room : c.args.len < held.len = omega (arith, c.if-len-lt-NEAR.false, c.len.ensures, c.requires.few, c.requires.short) in (
      omega (arith, room),
      omega (arith, few, c.put_places-count.ensures.count, c.if-len-lt-MOST_NEAR.false, c.len-2.ensures),
      ended_set held.len c.args.len new held.items size room,
      omega (arith, c.if-len-gt-SHORT_BYTES.false, c.len-else-len-lt-NEAR.ensures),
      omega (arith, c.if-len-gt-SHORT_PLACES.false, c.len-else-len-lt-MOST_NEAR.ensures),
    )

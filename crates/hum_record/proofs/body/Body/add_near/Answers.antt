use Rattle.std.proofs.Common.{◌≡◌, ◌<◌, length, arith}
use Rattle.hum_record.proofs.Held.{lf_within, ended_back}
use Rattle.hum_record.proofs.Added.{counts, added_text, added_ends}
use Rattle.hum_record.proofs.body.Body.add_near.Goals as goal

pub returns-clause-text : goal.returns-clause-text
returns-clause-text c _ =
    let held = c.self.inside.held in
    let places = c.self.inside.places in
    let new = c.put_behind-end.new.text in
    let before = counts _ _ _ _ held.items places.items _ c.self.view_is c.self.invariant.0 c.self.invariant.1 held.ok.0 places.ok.0 in
    let size : length new ≡ held.len = omega (arith, c.put_behind-end.auto.text, c.deref_mut.ensures.len) in
    let put = rw c.deref_mut.ensures.value at c.put_behind-end.ensures.text in
    added_text _ _ _ held.len held.items places.items _ _ new c.args.token.now before size put

pub returns-clause-ends : goal.returns-clause-ends
returns-clause-ends c _ =
    let held = c.self.inside.held in
    let places = c.self.inside.places in
    let new = c.put_behind-end.new.text in
    let before = counts _ _ _ _ held.items places.items _ c.self.view_is c.self.invariant.0 c.self.invariant.1 held.ok.0 places.ok.0 in
    let size : length new ≡ held.len = omega (arith, c.put_behind-end.auto.text, c.deref_mut.ensures.len) in
    let put = rw c.deref_mut.ensures.value at c.put_behind-end.ensures.text in
    let most = c.self.invariant.1 in
    let some = c.if-len-count.false in
    let len = c.len-else-len-self.ensures in
    let room : c.self.inside.count < length places.items = omega (arith, most, some, len, places.ok.0) in
    added_ends _ _ _ held.len held.items places.items _ _ new c.args.token.now before size put room c.put_behind-end.ensures.end

pub invariant_of-self : goal.invariant_of-self
invariant_of-self c =
    let held = c.self.inside.held in
    let new = c.put_behind-end.new.text in
    let end = c.put_behind-end.result in
    let ended = c.put_behind-end.ensures.ended in
    let size : length new ≡ held.len = omega (arith, c.put_behind-end.auto.text, c.deref_mut.ensures.len) in
    let most = c.self.invariant.1 in
    let some = c.if-len-count.false in
    let len = c.len-else-len-self.ensures in (
      omega (arith, size, lf_within new end ended),
      omega (arith, most, some, len),
      ended_back held.len end new held.items size (λ _. ended),
      (let room = c.self.invariant.3 in let more = c.put_behind-end.ensures.end in omega (arith, room, more)),
      (let room = c.self.invariant.4 in omega (arith, room)),
    )

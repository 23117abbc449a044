use Rattle.std.proofs.Common.{◌≡◌, ◌∙◌, ◌++◌, length, take, drop, ap, arith, rules}
use Rattle.hum_record.specs.Fields.{written}
use Rattle.hum_record.proofs.Held.{written_back, front_put, same_place, ended_back}
use Rattle.hum_record.proofs.body.Body.copy_short.Goals as goal

pub returns-then-len-le-SHORT_PLACES-clause-copied : goal.returns-then-len-le-SHORT_PLACES-clause-copied
returns-then-len-le-SHORT_PLACES-clause-copied c _ =
    let other = c.other.inside in
    let held = c.self.inside.held in
    let places = c.self.inside.places in
    let bytes = c.copy_near.new.text in
    let ends = c.copy_places.new.places in
    let bytes_size : length bytes ≡ held.len = omega (arith, c.copy_near.auto.text, c.deref_mut.ensures.len) in
    let ends_size : length ends ≡ places.len = omega (arith, c.copy_places.auto.places, c.deref_mut-then-len-le-SHORT_PLACES.ensures.len) in
    let text_is : take other.len (take held.len (bytes ++ drop (length bytes) held.items)) ≡ take other.len other.held.items =
    ap (take other.len) (written_back held.len bytes held.items bytes_size
    ∙ rw (c.deref_mut.ensures.value, c.deref.ensures.value) at c.copy_near.ensures)
    ∙ front_put held.items other.held.items 64 other.len (omega (arith, held.ok.0)) (omega (arith, other.held.ok.0)) (omega arith) in
    let ends_are : take other.count (take places.len (ends ++ drop (length ends) places.items)) ≡ take other.count other.places.items =
    ap (take other.count) (written_back places.len ends places.items ends_size
    ∙ rw (c.deref_mut-then-len-le-SHORT_PLACES.ensures.value, c.deref-then-len-le-SHORT_PLACES.ensures.value) at c.copy_places.ensures)
    ∙ front_put places.items other.places.items 8 other.count (omega (arith, places.ok.0)) (omega (arith, other.places.ok.0)) (omega arith) in
    ap (λ t. written t (take other.count (take places.len (ends ++ drop (length ends) places.items)))) text_is
    ∙ ap (written (take other.len other.held.items)) ends_are ∙ c.other.view_is

pub invariant_of-self : goal.invariant_of-self
invariant_of-self c =
    let other = c.other.inside in
    let held = c.self.inside.held in
    let bytes = c.copy_near.new.text in
    let size : length bytes ≡ held.len = omega (arith, c.copy_near.auto.text, c.deref_mut.ensures.len) in
    let front = ap (take 64) (rw (c.deref_mut.ensures.value, c.deref.ensures.value) at c.copy_near.ensures)
    ∙ front_put held.items other.held.items 64 64 (omega (arith, held.ok.0)) (omega (arith, other.held.ok.0)) (omega arith) in (
      omega arith,
      omega arith,
      ended_back held.len other.len bytes held.items size
          (λ some. same_place other.len 64 bytes other.held.items (omega arith) front ∙ (c.other.invariant.2 some).1),
      search rules,
      search rules,
    )

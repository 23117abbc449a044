use Rattle.std.proofs.Common.{◌≡◌, ◌∙◌, ◌*◌, ◌+◌, ◌/◌, ◌++◌, length, take, drop, ap, arith, rules}
use Rattle.hum_record.specs.Fields.{written}
use Rattle.hum_record.proofs.Held.{front_written, fronts, same_place, ended_back}
use Rattle.hum_record.proofs.body.Body.copy_far.Goals as goal

pub returns-clause-copied : goal.returns-clause-copied
returns-clause-copied c _ =
    let other = c.other.inside in
    let held = c.self.inside.held in
    let places = c.self.inside.places in
    let bytes = c.copy_words.new.text in
    let ends = c.copy_groups.new.places in
    let bytes_size : length bytes ≡ held.len = omega (arith, c.copy_words.auto.text, c.deref_mut.ensures.len) in
    let ends_size : length ends ≡ places.len = omega (arith, c.copy_groups.auto.places, c.deref_mut-2.ensures.len) in
    let text_is : take other.len (take held.len (bytes ++ drop (length bytes) held.items)) ≡ take other.len other.held.items =
    front_written other.len held.len bytes held.items bytes_size
    ∙ fronts other.len (64 * (other.len / 64 + 1)) bytes other.held.items (omega arith) (rw c.deref.ensures.value at c.copy_words.ensures) in
    let ends_are : take other.count (take places.len (ends ++ drop (length ends) places.items)) ≡ take other.count other.places.items =
    front_written other.count places.len ends places.items ends_size
    ∙ fronts other.count (8 * (other.count / 8 + 1)) ends other.places.items (omega arith) (rw c.deref-2.ensures.value at c.copy_groups.ensures) in
    ap (λ t. written t (take other.count (take places.len (ends ++ drop (length ends) places.items)))) text_is
    ∙ ap (written (take other.len other.held.items)) ends_are ∙ c.other.view_is

pub invariant_of-self : goal.invariant_of-self
invariant_of-self c =
    let other = c.other.inside in
    let held = c.self.inside.held in
    let bytes = c.copy_words.new.text in
    let size : length bytes ≡ held.len = omega (arith, c.copy_words.auto.text, c.deref_mut.ensures.len) in
    let same = same_place other.len (64 * (other.len / 64 + 1)) bytes other.held.items (omega arith) (rw c.deref.ensures.value at c.copy_words.ensures) in (
      omega arith,
      omega arith,
      ended_back held.len other.len bytes held.items size (λ some. same ∙ (c.other.invariant.2 some).1),
      search rules,
      search rules,
    )

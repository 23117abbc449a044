use Rattle.std.proofs.Common.{◌≡◌, ◌∙◌, ◌*◌, length, arith}
use Rattle.std.proofs.lemmas.List.{take-set}
use Rattle.hum_record.proofs.Held.{front_written, fronts}
use Rattle.hum_record.proofs.holding.hold_far.Goals as goal

pub returns-clause-text : goal.returns-clause-text
returns-clause-text c =
    let held = c.give_bytes.new.held in
    let new = c.copy_words.new.text in
    let far = c.in_ok-far.far in
    let last = c.in_ok-far.ensures.last in
    let size : length new ≡ held.len = omega (arith, c.copy_words.auto.text, c.deref_mut.ensures.len) in
    take-set _ far.len 10 ∙ front_written far.len held.len new held.items size
    ∙ fronts far.len (64 * far.words) new c.args.line.now (omega (arith, last)) c.copy_words.ensures

use Rattle.std.proofs.Common.{◌≡◌, ◌∙◌, ◌+◌, ◌*◌, ◌++◌, List, ℕ, length, sym, ap, arith}
use Rattle.std.proofs.lemmas.Simd.{length-chunk, length-put_chunk, take_more_put_chunk}
use Rattle.std.specs.Simd.Lanes.{chunk}
use Rattle.hum_record.proofs.Words.{joined}
use Rattle.hum_record.proofs.wide.copy_groups.Goals as goal

pub loop-k-preserved : goal.loop-k-preserved
loop-k-preserved c =
    let l = c.loop-k in
    let held = c.args.held.now in
    let at = 8 * l.k in
    let word = chunk at 8 held in
    let test = c.loop-k-test.true in
    let same = l.invariant.1 in
    let size : length word ≡ 8 = length-chunk at 8 held (omega (arith, c.requires.filled, test)) in (
      take_more_put_chunk at l.places word (8 * (l.k + 1)) (omega (arith, size)) (omega (arith, same, c.requires.room, test))
          ∙ ap (λ (xs : List ℕ). xs ++ word) l.invariant.0 ∙ sym (joined at 8 (8 * (l.k + 1)) held (omega arith)),
      length-put_chunk at l.places word ∙ same,
    )

-- Bytes that are moved by the first of them and the last, which may overlap.
use Rattle.std.proofs.lemmas.Bool.Decides.{nat_tests}
use Rattle.std.proofs.Common.{◌≡◌, ◌∙◌, ℕ, ◌+◌, ◌-◌, ◌*◌, ◌<◌, ◌≤◌, List, length, drop, get_or, ⊎_elim, sym, ap, arith, append_assoc, drop-drop}
use Rattle.std.proofs.lemmas.Bool.{cases_lt}
use Rattle.std.proofs.lemmas.List.{ext_get_or}
use Rattle.std.proofs.lemmas.Simd.{length-chunk, get_or-chunk, length-put_chunk, put_chunk_is}
use Rattle.std.proofs.lemmas.Simd.{get_or-put_chunk_below, get_or-put_chunk_at, get_or-put_chunk_above}
use Rattle.std.specs.Simd.Lanes.{chunk, put_chunk}
use Rattle.std.proofs.Math.Seq.{paste}

-- what stands in a store of what stood elsewhere
stored : (a b : List ℕ) (i from k m : ℕ) → from + k ≤ length a → i + k ≤ length b → i ≤ m → m < i + k
    → get_or (put_chunk i b (chunk from k a)) m 0 ≡ get_or a (from + (m - i)) 0
stored = grind (arith, nat_tests, length-chunk, get_or, get_or-put_chunk_at, get_or-chunk)

module _ (a b : List ℕ) (from end to : ℕ) (order : from ≤ end) (within : end ≤ length a) (room : to + (end - from) ≤ length b) where
  -- all at once
  at_once : put_chunk to b (chunk from (end - from) a) ≡ paste b to (drop from a) (end - from)
  at_once = grind (arith, nat_tests, length-chunk, put_chunk_is, append_assoc, drop-drop)

  module _ (k : ℕ) (few : from + k ≤ end) (many : end ≤ from + 2 * k) where
    abbrev last : ℕ
    last = to + (end - k - from)

    abbrev first_stored : List ℕ
    first_stored = put_chunk to b (chunk from k a)

    abbrev both_stored : List ℕ
    both_stored = put_chunk last first_stored (chunk (end - k) k a)

    same_at : (m : ℕ) → get_or both_stored m 0 ≡ get_or (put_chunk to b (chunk from (end - from) a)) m 0
    same_at m =
        let one = length-chunk from k a (omega (arith, few, within)) in
        let two = length-chunk (end - k) k a (omega (arith, few, within)) in
        let whole = length-chunk from (end - from) a (omega (arith, order, within)) in
        let size = length-put_chunk to b (chunk from k a) in
        ⊎_elim
        (λ (below : m < to).
        get_or-put_chunk_below last first_stored (chunk (end - k) k a) m 0 (omega (arith, below))
        ∙ get_or-put_chunk_below to b (chunk from k a) m 0 below
        ∙ sym (get_or-put_chunk_below to b (chunk from (end - from) a) m 0 below))
        (λ (least : to ≤ m). ⊎_elim
        (λ (early : m < last).
        get_or-put_chunk_below last first_stored (chunk (end - k) k a) m 0 early
        ∙ stored a b to from k m (omega (arith, few, within)) (omega (arith, few, room)) least (omega (arith, early, many, few))
        ∙ sym (stored a b to from (end - from) m (omega (arith, order, within)) room least (omega (arith, early, many, few))))
        (λ (late : last ≤ m). ⊎_elim
        (λ (inside : m < to + (end - from)).
        stored a first_stored last (end - k) k m (omega (arith, few, within)) (omega (arith, few, room, size)) late
        (omega (arith, inside, few, late))
        ∙ ap (λ n. get_or a n 0) (omega (arith, inside, few, late, least))
        ∙ sym (stored a b to from (end - from) m (omega (arith, order, within)) room least inside))
        (λ (above : to + (end - from) ≤ m).
        get_or-put_chunk_above last first_stored (chunk (end - k) k a) m 0 (omega (arith, two, above, few))
        ∙ get_or-put_chunk_above to b (chunk from k a) m 0 (omega (arith, one, above, few))
        ∙ sym (get_or-put_chunk_above to b (chunk from (end - from) a) m 0 (omega (arith, whole, above))))
        (cases_lt m (to + (end - from)))) (cases_lt m last)) (cases_lt m to)

    pub by_both : put_chunk (to + (end - k - from)) (put_chunk to b (chunk from k a)) (chunk (end - k) k a)
        ≡ paste b to (drop from a) (end - from)
    by_both =
        ext_get_or 0 both_stored (put_chunk to b (chunk from (end - from) a))
        (length-put_chunk last first_stored (chunk (end - k) k a) ∙ length-put_chunk to b (chunk from k a)
        ∙ sym (length-put_chunk to b (chunk from (end - from) a)))
        (λ m less. same_at m) ∙ at_once

-- a whole text
pub whole_by_both : (a b : List ℕ) (to k : ℕ) → k ≤ length a → length a ≤ 2 * k → to + length a ≤ length b
    → put_chunk (to + (length a - k)) (put_chunk to b (chunk 0 k a)) (chunk (length a - k) k a) ≡ paste b to a (length a)
whole_by_both a b to k few many room =
    ap (λ n. put_chunk (to + n) (put_chunk to b (chunk 0 k a)) (chunk (length a - k) k a)) (omega arith)
    ∙ by_both a b 0 (length a) to (omega arith) (omega arith) (omega (arith, room)) k (omega (arith, few)) (omega (arith, many))
    ∙ ap (paste b to a) (omega arith)

-- The first LF, found by the bits of the first bytes.
use Rattle.std.proofs.lemmas.Bool.Decides.{nat_tests}
use Rattle.std.proofs.Common.{◌≡◌, ℕ, ◌+◌, ◌<◌, ◌≤◌, Bool, false, not, List, [], ◌∷◌, length, map, sym, ap, ◌∙◌, arith, Some, get_or, eqb, ⊎_elim}
use Rattle.std.proofs.lemmas.Bool.{cases_lt, cond-true}
use Rattle.std.specs.List.{prefix_len}
use Rattle.std.specs.Simd.Lanes.{chunk, mask_l}
use Rattle.std.specs.Int.Count.{count_trailing_zeros}
use Rattle.std.proofs.lemmas.Simd.{length-chunk, trailing_mask_l, first_set_mask_l, run_in_chunk_fails, run_in_chunk_stops}
use Rattle.memchr.specs.Find.{IsFirstByte, is_byte}

-- where some byte passes, fewer than all come before the first
stops : (p : ℕ → Bool) (xs : List ℕ) → 0 < mask_l (map p xs) → prefix_len (λ x. not (p x)) xs < length xs
stops p [] some = absurd (omega arith)
stops p (x ∷ xs) some = grind (arith, nat_tests, stops p xs)

-- no LF stands in these bytes either, where no bit is set
pub none-near : (xs : List ℕ) (at bits : ℕ) → at + 32 ≤ length xs
    → ((k : ℕ) → k < at → is_byte 10 (get_or xs k 0) ≡ false)
    → bits ≡ mask_l (map (is_byte 10) (chunk at 32 xs)) → bits ≡ 0
    → (k : ℕ) → k < at + 32 → is_byte 10 (get_or xs k 0) ≡ false
none-near xs at bits room earlier is none k low =
    let size : length (chunk at 32 xs) ≡ 32 = length-chunk at 32 xs room in
    let zero : mask_l (map (is_byte 10) (chunk at 32 xs)) ≡ 0 = sym is ∙ none in
    let counted : 32 ≡ prefix_len (λ x. not (is_byte 10 x)) (chunk at 32 xs) =
    sym (cond-true (eqb (mask_l (map (is_byte 10) (chunk at 32 xs))) 0) _ _ (ap (λ m. eqb m 0) zero))
    ∙ first_set_mask_l (is_byte 10) (chunk at 32 xs) 32 size (omega arith) in
    ⊎_elim (λ less. earlier k less) (λ more. run_in_chunk_fails (is_byte 10) xs at 32 32 0 room counted k more low) (cases_lt k at)

-- the lowest bit is the first LF, where none stands before these bytes
pub first-near : (xs : List ℕ) (at bits r : ℕ) → at + 32 ≤ length xs
    → ((k : ℕ) → k < at → is_byte 10 (get_or xs k 0) ≡ false)
    → bits ≡ mask_l (map (is_byte 10) (chunk at 32 xs)) → 0 < bits → r ≡ at + count_trailing_zeros 64 bits
    → IsFirstByte (is_byte 10) xs (Some r)
first-near xs at bits r room earlier is some place =
    let t = count_trailing_zeros 64 bits in
    let size : length (chunk at 32 xs) ≡ 32 = length-chunk at 32 xs room in
    let some_here : 0 < mask_l (map (is_byte 10) (chunk at 32 xs)) = rw is at some in
    let counted : t ≡ prefix_len (λ x. not (is_byte 10 x)) (chunk at 32 xs) =
    ap (count_trailing_zeros 64) is ∙ trailing_mask_l (is_byte 10) 64 (chunk at 32 xs) (omega (arith, size)) some_here in
    let before : prefix_len (λ x. not (is_byte 10 x)) (chunk at 32 xs) < length (chunk at 32 xs) =
    stops (is_byte 10) (chunk at 32 xs) some_here in
    let near : t < 32 = omega (arith, counted, before, size) in (
      record {
        low = omega arith;
        high = omega (arith, near, room, place);
        before = λ k low high ten.
            let no : is_byte 10 (get_or xs k 0) ≡ false = ⊎_elim
            (λ less. earlier k less)
            (λ more. run_in_chunk_fails (is_byte 10) xs at 32 t 0 room counted k more (omega (arith, high, place)))
            (cases_lt k at) in
            cc;
      },
      ap (λ n. is_byte 10 (get_or xs n 0)) place ∙ run_in_chunk_stops (is_byte 10) xs at 32 t 0 room counted near,
    )

-- Texts that are put by pieces, and what is held in front of a writer.
use Rattle.std.proofs.lemmas.Bool.Decides.{nat_tests}
use Rattle.std.proofs.Common.{◌≡◌, ◌∙◌, ℕ, zero, suc, ◌+◌, ◌-◌, ◌*◌, ◌<◌, ◌≤◌, min, List, [], ◌∷◌, ◌++◌, length, take, drop, get_or, ⊎_elim, refl, sym, ap}
use Rattle.std.proofs.Common.{arith, length-take, length-drop, Option}
use Rattle.std.proofs.lemmas.Bool.{cases_lt}
use Rattle.std.proofs.lemmas.List.{ext_get_or, get_or-take, take_all, take_at, take-take}
use Rattle.std.proofs.lemmas.Simd.{length-chunk, get_or-chunk, length-put_chunk, take_more_put_chunk}
use Rattle.std.proofs.lemmas.Simd.{get_or-put_chunk_below, get_or-put_chunk_at, get_or-put_chunk_above}
use Rattle.std.proofs.Math.Seq.{take-add, take-paste}
use Rattle.std.proofs.KnownBytes.{append_known-moved, append_known-grown, Keeps-refl}
use Rattle.std.specs.Io.KnownBytes.{Appends, Keeps, append_known}
use Rattle.std.specs.List.{copy_within}
use Rattle.std.specs.Simd.Lanes.{chunk, put_chunk}

-- no byte is put
put-none : (at : ℕ) (old : List ℕ) → put_chunk at old [] ≡ old
put-none at [] = refl
put-none zero (x ∷ xs) = refl
put-none (suc at) (x ∷ xs) = ap (λ (ys : List ℕ). x ∷ ys) (put-none at xs)

-- what stands where bytes were put
put-at : (at : ℕ) (old bytes : List ℕ) (m : ℕ) → at ≤ m → m < at + length bytes → at + length bytes ≤ length old
    → get_or (put_chunk at old bytes) m 0 ≡ get_or bytes (m - at) 0
put-at = grind (arith, nat_tests, get_or, get_or-put_chunk_at)

module _ (bytes old : List ℕ) (at k : ℕ) (room : at + length bytes ≤ length old) where
  -- the first n bytes have been put
  abbrev front : ℕ → List ℕ
  front n = put_chunk at old (take n bytes)

  front-at : (n m : ℕ) → n ≤ length bytes → at ≤ m → m < at + n → get_or (front n) m 0 ≡ get_or bytes (m - at) 0
  front-at = grind (arith, nat_tests, length-take, put-at, get_or-take)

  front-above : (n m : ℕ) → n ≤ length bytes → at + n ≤ m → get_or (front n) m 0 ≡ get_or old m 0
  front-above = grind (arith, nat_tests, length-take, get_or-put_chunk_above)

  module _ (from n : ℕ) (low : from ≤ n) (high : n ≤ from + k) (within : from + k ≤ length bytes) where
    abbrev piece : List ℕ
    piece = chunk from k bytes

    same-at : (m : ℕ) → get_or (put_chunk (at + from) (front n) piece) m 0 ≡ get_or (front (from + k)) m 0
    same-at m =
        let size = length-chunk from k bytes within in
        let long = length-put_chunk at old (take n bytes) in
        ⊎_elim
        (λ (below : m < at).
        get_or-put_chunk_below (at + from) (front n) piece m 0 (omega (arith, below))
        ∙ get_or-put_chunk_below at old (take n bytes) m 0 below
        ∙ sym (get_or-put_chunk_below at old (take (from + k) bytes) m 0 below))
        (λ (least : at ≤ m). ⊎_elim
        (λ (early : m < at + from).
        get_or-put_chunk_below (at + from) (front n) piece m 0 early
        ∙ front-at n m (omega (arith, high, within)) least (omega (arith, early, low))
        ∙ sym (front-at (from + k) m within least (omega (arith, early))))
        (λ (late : at + from ≤ m). ⊎_elim
        (λ (inside : m < at + from + k).
        put-at (at + from) (front n) piece m late (omega (arith, size, inside)) (omega (arith, size, long, within, room))
        ∙ get_or-chunk from k bytes (m - (at + from)) 0 (omega (arith, late, inside))
        ∙ ap (λ j. get_or bytes j 0) (omega (arith, late))
        ∙ sym (front-at (from + k) m within least (omega (arith, inside))))
        (λ (above : at + from + k ≤ m).
        get_or-put_chunk_above (at + from) (front n) piece m 0 (omega (arith, size, above))
        ∙ front-above n m (omega (arith, high, within)) (omega (arith, above, high))
        ∙ sym (front-above (from + k) m within (omega (arith, above))))
        (cases_lt m (at + from + k))) (cases_lt m (at + from))) (cases_lt m at)

    -- one piece more
    piece-put : put_chunk (at + from) (front n) piece ≡ front (from + k)
    piece-put =
        ext_get_or 0 (put_chunk (at + from) (front n) piece) (front (from + k))
        (length-put_chunk (at + from) (front n) piece ∙ length-put_chunk at old (take n bytes)
        ∙ sym (length-put_chunk at old (take (from + k) bytes)))
        (λ m less. same-at m)

  next-put : (h : List ℕ) (from n : ℕ) → h ≡ front n → from ≤ n → n ≤ from + k → from + k ≤ length bytes
      → put_chunk (at + from) h (chunk from k bytes) ≡ front (from + k)
  next-put = grind (arith, nat_tests, piece-put)

  -- all bytes are put by four pieces
  pub four-put : (one two three four : List ℕ) (a b c : ℕ) → k ≤ length bytes → length bytes ≤ 4 * k
      → c ≡ length bytes - k → a ≡ min c k → b ≡ min c (2 * k)
      → one ≡ put_chunk (at + 0) old (chunk 0 k bytes) → two ≡ put_chunk (at + a) one (chunk a k bytes)
      → three ≡ put_chunk (at + b) two (chunk b k bytes) → four ≡ put_chunk (at + c) three (chunk c k bytes)
      → four ≡ put_chunk at old bytes
  four-put = grind (arith, nat_tests, put-none, next-put, take_all)

-- the first n of e bytes were handed on, and the others were moved to the front
pub handed-on : (a b : Option (List ℕ)) (xs items : List ℕ) (n e : ℕ) → n ≤ e → e ≤ length xs
    → Appends a b (take n (take e xs)) → items ≡ copy_within xs n e 0
    → Keeps (append_known a (take e xs)) (append_known b (take (e - n) items))
handed-on a b xs items n e order within appends moved =
    let size : e - n ≡ 0 + (e - n) = omega arith in
    let rest : take (e - n) items ≡ take (e - n) (drop n xs) =
    ap (take (e - n)) moved ∙ ap (λ k. take k (copy_within xs n e 0)) size
    ∙ take-paste xs 0 (drop n xs) (e - n) (omega arith) (omega (arith, length-drop n xs, within)) in
    let all : e ≡ n + (e - n) = omega (arith, order) in
    let both : take e xs ≡ take n (take e xs) ++ take (e - n) items =
    grind (arith, nat_tests, take-add, take-take) in
    append_known-moved a b (take n (take e xs)) (take (e - n) items) (take e xs) appends both

-- bytes were put behind the first e, in a buffer that is as long as before
pub taken : (a : Option (List ℕ)) (xs ys bytes : List ℕ) (e room : ℕ) → room ≡ length xs → e + length bytes ≤ room
    → ys ≡ put_chunk e xs bytes
    → Appends (append_known a (take e xs))
    (append_known a (take (e + length bytes) (take room (ys ++ drop (length ys) xs)))) bytes
taken a xs ys bytes e room size fits put =
    let long : length ys ≡ length xs = ap length put ∙ length-put_chunk e xs bytes in
    let whole : take room (ys ++ drop (length ys) xs) ≡ ys = take_at ys (drop (length ys) xs) room (omega (arith, size, long)) in
    let more : take (e + length bytes) (take room (ys ++ drop (length ys) xs)) ≡ take e xs ++ bytes =
    grind (arith, nat_tests, take_more_put_chunk) in
    append_known-grown (append_known a (take e xs)) a (take e xs) _ bytes (Keeps-refl _) more

-- What bytes begin with.
use Rattle.std.proofs.lemmas.Grind.{common_steps}
use Rattle.std.proofs.Common.{◌≡◌, ℕ, ◌-◌, ◌<◌, ◌≤◌, List, [], ◌++◌, length, take, drop, get_or, refl, sym, ap, ◌∙◌, arith, Some, None, Option, take-append-drop, length-drop, length-append, ◌⊎◌}
use Rattle.std.proofs.lemmas.List.{length-take-le, drop_all}
use Rattle.std.proofs.lemmas.Bool.Decides.{nat_tests}
use Rattle.hum_packets.specs.Packets.{size_at, size_by, joined, pair_of, front, front_by, packet, end, neither}

pub size_at_short : (bs : List ℕ) → length bs < 4 → size_at bs ≡ None
unfolding size_at
size_at_short = grind (arith, nat_tests)

pub size_at_four : (bs : List ℕ) → 4 ≤ length bs
    → size_at bs ≡ size_by (joined 256 (pair_of (get_or bs 0 0) (get_or bs 1 0)) (pair_of (get_or bs 2 0) (get_or bs 3 0)))
unfolding size_at
size_at_four = grind (arith, common_steps)

-- what stands behind says nothing
pub size_at-append : (bs rest : List ℕ) → 4 ≤ length bs → size_at (bs ++ rest) ≡ size_at bs
unfolding size_at
size_at-append = grind (arith, nat_tests)

drop-four : (bs rest : List ℕ) → 4 ≤ length bs → drop 4 (bs ++ rest) ≡ drop 4 bs ++ rest
drop-four = grind (arith, nat_tests)

size_at-front : (bs rest : List ℕ) (n : ℕ) → 4 ≤ n → n ≤ length bs → size_at (take n bs ++ rest) ≡ size_at bs
size_at-front bs rest n some h =
    let long : 4 ≤ length (take n bs) = omega (arith, length-take-le n bs h, some) in
    size_at-append (take n bs) rest long ∙ sym (size_at-append (take n bs) (drop n bs) long)
    ∙ ap (λ (xs : List ℕ). size_at xs) (take-append-drop n bs)

-- a size is 0, or that of a packet
pub sized : (o : Option ℕ) (n : ℕ) → size_by o ≡ Some n → (n ≡ 0) ⊎ (4 ≤ n)
sized = grind (arith, nat_tests)

pub size-least : (bs : List ℕ) (n : ℕ) → 4 ≤ length bs → size_at bs ≡ Some n → (n ≡ 0) ⊎ (4 ≤ n)
size-least bs n h says =
    sized (joined 256 (pair_of (get_or bs 0 0) (get_or bs 1 0)) (pair_of (get_or bs 2 0) (get_or bs 3 0))) n
    (sym (size_at_four bs h) ∙ says)

cut : (n : ℕ) (rest : List ℕ) → 0 < n → length rest < n - 4 → front_by (Some n) rest ≡ neither
cut n rest some less = grind (arith, nat_tests)

whole : (n : ℕ) (xs : List ℕ) → 0 < n → n - 4 ≤ length xs → front_by (Some n) xs ≡ packet (take (n - 4) xs) (drop (n - 4) xs)
whole n xs some fits = grind (arith, nat_tests)

-- what is no size, and what is cut off, whatever stands behind
pub front-wrong : (bs rest : List ℕ) → 4 ≤ length bs → size_at bs ≡ None → front (bs ++ rest) ≡ neither
front-wrong bs rest h none = rw (size_at-append bs rest h, none) refl

pub front-short : (bs : List ℕ) → length bs < 4 → front bs ≡ neither
front-short bs h = rw (size_at_short bs h) refl

pub front-cut : (bs : List ℕ) (n : ℕ) → 4 ≤ length bs → size_at bs ≡ Some n → length bs < n → front bs ≡ neither
front-cut bs n h says less = rw says (cut n (drop 4 bs) (omega (arith, h, less)) (omega (arith, length-drop 4 bs, h, less)))

-- what is held is handed out
pub front-end : (bs rest : List ℕ) → 4 ≤ length bs → size_at bs ≡ Some 0 → front (take 4 bs ++ rest) ≡ end rest
front-end bs rest h says =
    let long = length-take-le 4 bs h in
    let none : drop 4 (take 4 bs) ≡ [] = drop_all 4 (take 4 bs) (omega (arith, long)) in
    rw (size_at-front bs rest 4 (omega arith) h, says, drop-four (take 4 bs) rest (omega (arith, long)), none) refl

pub front-held : (bs rest : List ℕ) (n : ℕ) → 4 ≤ n → size_at bs ≡ Some n → n ≤ length bs
    → front (take n bs ++ rest) ≡ packet (drop 4 (take n bs)) rest
front-held bs rest n some says h =
    let long = length-take-le n bs h in
    let left : length (drop 4 (take n bs)) ≡ n - 4 = length-drop 4 (take n bs) ∙ ap (λ k. k - 4) long in
    let fits : n - 4 ≤ length (drop 4 (take n bs) ++ rest) = omega (arith, left, length-append (drop 4 (take n bs)) rest) in
    rw (size_at-front bs rest n some h, says, drop-four (take n bs) rest (omega (arith, long, some)))
    (whole n (drop 4 (take n bs) ++ rest) (omega (arith, some)) fits
    ∙ parted (drop 4 (take n bs)) rest (n - 4) left)
  where
    parted : (xs rest : List ℕ) (k : ℕ) → length xs ≡ k → packet (take k (xs ++ rest)) (drop k (xs ++ rest)) ≡ packet xs rest
    parted = grind (arith, common_steps)

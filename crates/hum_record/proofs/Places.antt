-- Bits that say where a byte stands.
use Rattle.std.proofs.lemmas.Grind.{common_steps}
use Rattle.std.proofs.Common.{◌≡◌, ◌∙◌, refl, sym, ap, ap₂, subst, ℕ, suc, ◌+◌, ◌-◌, ◌*◌, ◌/◌, ◌%◌, ◌^◌}
use Rattle.std.proofs.Common.{◌<◌, ◌≤◌, Bool, not, cond, List, [], ◌∷◌, ◌++◌}
use Rattle.std.proofs.Common.{length, take, drop, map, arith, append_assoc, length-drop, take_all}
use Rattle.std.proofs.lemmas.List.{append-nil, drop-drop, length-map}
use lib.Pow.{pow_mono}
use Rattle.std.specs.Prelude.{◌==◌}
use Rattle.std.specs.List.{prefix_len}
use Rattle.std.specs.Simd.Lanes.{chunk, mask_l}
use Rattle.std.specs.Int.Count.{count_trailing_zeros}
use Rattle.std.specs.Int.Bits.{bit_and}
use Rattle.std.proofs.lemmas.Nat.{and_mask}
use Rattle.std.proofs.Math.Nat.{add-mul-mod_self_right}
use Rattle.std.proofs.lemmas.Bool.Decides.{nat_tests}
use Rattle.std.proofs.lemmas.Simd.{mask_l-lt, trailing_mask_l}
use native.Mathlib.Nat.{pow-suc, mul_comm, div-div-eq-div-mul, mod-eq_of_lt, two-pow-succ}
use Rattle.hum_score.specs.Spelling.{has_byte}
use Rattle.hum_record.specs.Cutting.{bits_of, tabs_from}

lowest : (b : Bool) (n : ℕ) → ((cond b 1 0 + 2 * n) / 2) ≡ n
lowest = grind (arith, nat_tests)

-- bits moved down are those of the bytes further on
pub moved_down : (b : ℕ) (xs : List ℕ) (k : ℕ) → bits_of b xs / 2 ^ k ≡ bits_of b (drop k xs)
moved_down b (x ∷ xs) (suc k) =
    ap (λ n. bits_of b (x ∷ xs) / n) (pow-suc 2 k ∙ mul_comm (2 ^ k) 2) ∙ sym (div-div-eq-div-mul (bits_of b (x ∷ xs)) 2 (2 ^ k))
    ∙ ap (λ n. n / 2 ^ k) (lowest (x == b) (bits_of b xs)) ∙ moved_down b xs k
moved_down b xs k = grind (arith, common_steps)

-- the bits of the first bytes, and of the rest
in_two_by : (p : ℕ → Bool) (xs : List ℕ) (k : ℕ) → k ≤ length xs → mask_l (map p xs) ≡ mask_l (map p (take k xs)) + mask_l (map p (drop k xs)) * 2 ^ k
in_two_by p (x ∷ xs) (suc k) le =
    let rest = mask_l (map p (drop k xs)) in
    ap (λ n. cond (p x) 1 0 + 2 * n) (in_two_by p xs k (omega arith))
    ∙ by (cond (p x) 1 0) (mask_l (map p (take k xs))) rest (2 ^ k) (2 ^ suc k) (two-pow-succ k)
  where
    by : (c t r p q : ℕ) → q ≡ p + p → c + 2 * (t + r * p) ≡ (c + 2 * t) + r * q
    by c t r p q e = rw e (grind arith)
in_two_by p xs k h = grind (arith, nat_tests)

pub in_two : (b : ℕ) (xs : List ℕ) (k : ℕ) → k ≤ length xs → bits_of b xs ≡ bits_of b (take k xs) + bits_of b (drop k xs) * 2 ^ k
in_two b xs k le = in_two_by (λ x. x == b) xs k le

mask_below : (p : ℕ → Bool) (xs : List ℕ) → mask_l (map p xs) < 2 ^ length xs
mask_below p xs = subst (λ n. mask_l (map p xs) < 2 ^ n) (length-map xs p) (mask_l-lt (map p xs))

pub bits_below : (b : ℕ) (xs : List ℕ) → bits_of b xs < 2 ^ length xs
bits_below b xs = subst (λ n. bits_of b xs < 2 ^ n) (length-map xs (λ x. x == b)) (mask_l-lt (map (λ x. x == b) xs))

-- the bits further on, from the last bytes
pub from_last : (b : ℕ) (xs : List ℕ) (each last : ℕ) → each ≤ length xs → length xs ≤ 2 * each
    → last ≡ bits_of b (chunk (length xs - each) each xs) → last / 2 ^ (2 * each - length xs) ≡ bits_of b (drop each xs)
from_last = grind (arith, nat_tests, take_all, length-drop, moved_down, drop-drop)

-- the bits of a text, from those of its first and its last bytes
pub join : (b : ℕ) (xs : List ℕ) (each first last : ℕ) → each ≤ length xs → length xs ≤ 2 * each
    → first ≡ bits_of b (chunk 0 each xs) → last ≡ bits_of b (chunk (length xs - each) each xs)
    → first + last / 2 ^ (2 * each - length xs) * 2 ^ each ≡ bits_of b xs
join = grind (arith, nat_tests, ap₂, from_last, in_two)

-- no bit is set where the byte stands nowhere
pub any_bit : (b : ℕ) (xs : List ℕ) → not (bits_of b xs == 0) ≡ has_byte b xs
any_bit b [] = refl
any_bit b (x ∷ xs) = grind (arith, nat_tests, any_bit b xs)

abbrev before_tab : List ℕ → ℕ
before_tab = prefix_len (λ x. not (x == 9))

-- the first tab, where there is one
pub record FirstTab (at : ℕ) (xs : List ℕ) (k : ℕ) : Type 0 where
  pub within : k < length xs
  pub places : tabs_from at xs ≡ (at + k) ∷ tabs_from (at + k + 1) (drop (k + 1) xs)

first_tab : (at : ℕ) (xs : List ℕ) → 0 < bits_of 9 xs → FirstTab at xs (before_tab xs)
first_tab at [] some = absurd (omega arith)
first_tab at (x ∷ xs) some = grind (arith, nat_tests, first_tab (at + 1) xs)

-- What is pending of a block of which the tabs are added one by one.
pub record Pending (block : List ℕ) (start at rest : ℕ) (ends all : List ℕ) : Type 0 where
  pub left : List ℕ
  pub place : at + length left ≡ start + length block
  pub bits : rest ≡ bits_of 9 left
  pub places : ends ++ tabs_from at left ≡ all

-- the next tab
pub record NextTab (block : List ℕ) (start at rest : ℕ) (ends all : List ℕ) : Type 0 where
  pub within : at + count_trailing_zeros 64 rest < start + length block
  pub pending : Pending block start (at + count_trailing_zeros 64 rest + 1) (rest / 2 ^ count_trailing_zeros 64 rest / 2 ^ 1)
      (ends ++ (at + count_trailing_zeros 64 rest) ∷ []) all

pub next_tab : (block : List ℕ) (start at rest : ℕ) (ends all : List ℕ) → length block ≤ 32 → start ≤ at → 0 < rest
    → Pending block start at rest ends all → NextTab block start at rest ends all
next_tab block start at rest ends all short later some p =
    let left = p.left in
    let place = p.place in
    let some_left : 0 < bits_of 9 left = rw p.bits at some in
    let first = first_tab at left some_left in
    let k : count_trailing_zeros 64 rest ≡ before_tab left = grind (arith, nat_tests, trailing_mask_l) in
    let within = first.within in
    record {
      within = omega (arith, k, within, place);
      pending = subst (λ n. Pending block start (at + n + 1) (rest / 2 ^ n / 2 ^ 1) (ends ++ (at + n) ∷ []) all) (sym k) (record {
        left = drop (before_tab left + 1) left;
        place = omega (arith, within, place, length-drop (before_tab left + 1) left);
        bits =
            ap (λ n. n / 2 ^ before_tab left / 2 ^ 1) p.bits
            ∙ ap (λ n. n / 2 ^ 1) (moved_down 9 left (before_tab left))
            ∙ moved_down 9 (drop (before_tab left) left) 1
            ∙ ap (bits_of 9) (drop-drop 1 (before_tab left) left);
        places = grind (arith, nat_tests, append_assoc);
      });
    }

-- no tab is left
no_tabs : (at : ℕ) (xs : List ℕ) → bits_of 9 xs ≡ 0 → tabs_from at xs ≡ []
no_tabs at [] none = refl
no_tabs at (x ∷ xs) none = grind (arith, nat_tests, no_tabs (at + 1) xs)

pub none_pending : (block : List ℕ) (start at rest : ℕ) (ends all : List ℕ) → rest ≡ 0 → Pending block start at rest ends all → ends ≡ all
none_pending = grind (arith, nat_tests, append-nil, no_tabs)

-- the bits of a short text make a small number
pub bits_short : (b : ℕ) (xs : List ℕ) → length xs ≤ 32 → bits_of b xs < 4294967296
bits_short b xs short = omega (arith, bits_below b xs, pow_mono short)

pub bits_within : (b : ℕ) (xs : List ℕ) (i : ℕ) → length xs ≤ 32 → bits_of b (drop i xs) < 4294967296
bits_within b xs i short = bits_short b (drop i xs) (omega (arith, short, length-drop i xs))

pub high_fits : (b : ℕ) (xs : List ℕ) (each first last : ℕ) → each ≤ 16 → each ≤ length xs → length xs ≤ 2 * each
    → first ≡ bits_of b (chunk 0 each xs) → last ≡ bits_of b (chunk (length xs - each) each xs)
    → (last / 2 ^ (2 * each - length xs) * 2 ^ each % 18446744073709551616 ≡ last / 2 ^ (2 * each - length xs) * 2 ^ each)
    × (first + last / 2 ^ (2 * each - length xs) * 2 ^ each < 4294967296)
high_fits b xs each first last few le covered is_first is_last =
    let all = join b xs each first last le covered is_first is_last in
    let bound = bits_short b xs (omega (arith, few, covered)) in
    let fits : first + last / 2 ^ (2 * each - length xs) * 2 ^ each < 4294967296 = rw all bound in
    (mod-eq_of_lt (omega (arith, fits)), fits)

pub take_count : (k : ℕ) (zs : List ℕ) → k ≤ length zs → length (take k zs) ≡ k
take_count = grind (arith, common_steps)

-- the front of a front
pub front_of_front : (k m : ℕ) (zs : List ℕ) → k ≤ m → take k (take m zs) ≡ take k zs
front_of_front = grind (arith, common_steps)

-- the bits of the first bytes are the low ones of those of more bytes
pub mask_front : (p : ℕ → Bool) (xs : List ℕ) (w n bits : ℕ) → n ≤ w → w ≤ length xs → bits ≡ mask_l (map p (chunk 0 w xs))
    → bit_and bits (2 ^ n - 1) ≡ mask_l (map p (take n xs))
mask_front p xs w n bits few room is =
    let ys = take w xs in
    let mask : List ℕ → ℕ = λ zs. mask_l (map p zs) in
    let size : length ys ≡ w = take_count w xs room in
    let two : mask ys ≡ mask (take n ys) + mask (drop n ys) * 2 ^ n = in_two_by p ys n (omega (arith, size, few)) in
    let below : mask (take n ys) < 2 ^ n = grind (arith, nat_tests, take_count, mask_below) in
    and_mask bits n ∙ ap (λ m. m % 2 ^ n) (is ∙ two)
    ∙ add-mul-mod_self_right (mask (take n ys)) (mask (drop n ys)) (2 ^ n)
    ∙ mod-eq_of_lt below
    ∙ ap mask (front_of_front n w xs few)

pub bits_front : (b : ℕ) (xs : List ℕ) (w n bits : ℕ) → n ≤ w → w ≤ length xs → bits ≡ bits_of b (chunk 0 w xs)
    → bit_and bits (2 ^ n - 1) ≡ bits_of b (take n xs)
bits_front b xs w n bits few room is = mask_front (λ x. x == b) xs w n bits few room is

pub one_moved : (n : ℕ) → n ≤ 63 → 1 * 2 ^ n % 18446744073709551616 ≡ 2 ^ n
one_moved = grind (arith, common_steps)

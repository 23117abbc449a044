-- A duration is short.
use Rattle.std.proofs.Common.{◌≡◌, refl, ap, ℕ, ◌+◌, ◌≤◌, ◌==◌, Bool, true, false, ◌&&◌, cond}
use Rattle.std.proofs.Common.{List, [], ◌∷◌, ◌++◌, length, Option, None, Some, Result, Ok, arith}
use Rattle.std.specs.List.{AllByRecursion}
use Rattle.std.specs.Str.{all_ascii_digits, bytes_eq}
use lib.Chars.{codes}
use Rattle.std.proofs.lemmas.Bool.{and_parts}
use Rattle.std.proofs.lemmas.Bool.Decides.{nat_tests}
use Rattle.std.proofs.lemmas.Fmt.{length-decimal-le}
use Rattle.std.proofs.lemmas.Slice.Eq.{bytes_eq-Decides}
use Rattle.hum_frac.specs.Ratio.{Ratio}
use Rattle.hum_kern.specs.declared.KernFault.{KernFault}
use Rattle.hum_kern.specs.declared.Length.{Length}
use Rattle.hum_kern.specs.declared.runs.Class.TheVariants.{Digit}
use Rattle.hum_kern.specs.Classes.{is_in}
use Rattle.hum_kern.specs.Value.{number, is_part, part_of, one_by, plain_value, value_of}
use Rattle.hum_kern.specs.Duration.{Spelling, spelling_of, second_length, duration, recip, recip_of, recip_in}
use Rattle.hum_kern.specs.Parts.{IsSecond}
use Rattle.hum_kern.proofs.Parts.{are_parts}
use Rattle.hum_kern.proofs.Again.{reads, worth_by}
use Rattle.hum_kern.proofs.Decimals.{in_decimal}

all_ascii : (digits : List ℕ) → AllByRecursion (λ b. is_in Digit b ≡ true) digits → all_ascii_digits digits ≡ true
all_ascii [] h = refl
all_ascii (d ∷ digits) h = rw (h.0, all_ascii digits h.1) refl

part_short : (digits : List ℕ) → AllByRecursion (λ b. is_in Digit b ≡ true) digits → is_part digits ≡ true → length digits ≤ 4
part_short digits all h =
    let read : part_of digits ≡ Some (number digits) = rw h refl in
    let w = in_decimal digits (number digits) (all_ascii digits all) read in
    let low = w.1 in
    let high = w.2 in
    let size = ap length w.0 in
    let short = length-decimal-le 4 (number digits) (omega arith) (omega (arith, high)) (omega (arith, high)) in
    omega (arith, size, short)

breves_short : (digits : List ℕ) (plain : Ratio) → AllByRecursion (λ b. is_in Digit b ≡ true) digits → plain_value digits ≡ Some plain → length digits ≤ 4
breves_short digits plain all h =
    go (bytes_eq digits (codes "0")) refl (bytes_eq digits (codes "00")) refl (bytes_eq digits (codes "000")) refl h
  where
    is : (zeros : List ℕ) → bytes_eq digits zeros ≡ true → length zeros ≤ 4 → length digits ≤ 4
    is zeros w short = rw ((bytes_eq-Decides digits zeros).0 w) short

    one : (b : Bool) → is_part digits ≡ b → cond b (Some (record { top = 1; bottom = number digits })) None ≡ Some plain → length digits ≤ 4
    one true w e = part_short digits all w
    one false w e = cc

    go : (a : Bool) → bytes_eq digits (codes "0") ≡ a → (b : Bool) → bytes_eq digits (codes "00") ≡ b → (c : Bool) → bytes_eq digits (codes "000") ≡ c
        → worth_by (cond a (Some 2) (cond b (Some 4) (cond c (Some 8) None))) (one_by digits) ≡ Some plain
        → length digits ≤ 4
    go = grind (arith, nat_tests, is, one)

digits_short : (parts : Spelling) (plain : Ratio) (rest : List ℕ) → AllByRecursion (λ b. is_in Digit b ≡ true) parts.digits → IsSecond parts.second rest
    → value_of parts.digits parts.second ≡ Some plain → length parts.digits + second_length parts.second ≤ 9
digits_short parts plain rest all second h = by parts.second second h
  where
    by : (o : Option (List ℕ)) → IsSecond o rest → value_of parts.digits o ≡ Some plain → length parts.digits + second_length o ≤ 9
    by None s e = let w = breves_short parts.digits plain all e in omega (arith, w)
    by (Some digits) s e = both (is_part parts.digits) refl (is_part digits) refl e
      where
        both : (a : Bool) → is_part parts.digits ≡ a → (b : Bool) → is_part digits ≡ b
            → cond (a && b) (Some (record { top = number digits; bottom = number parts.digits })) None ≡ Some plain
            → length parts.digits + (length digits + 1) ≤ 9
        both true x true y e = grind (arith, nat_tests, part_short)
        both a h b k w = grind (arith, nat_tests)

-- a text that is a duration
pub recip_short : (bytes : List ℕ) (value : Ratio) → recip bytes ≡ Ok value → length bytes ≤ 15
recip_short bytes value h = by_read (duration bytes) refl h
  where
    by_value : (found : Length) → duration bytes ≡ Ok found → (o : Option Ratio) → found.value ≡ o → (b : Bool)
        → (found.start == 0 && found.end == length bytes) ≡ b → recip_in o b ≡ Ok value → length bytes ≤ 15
    by_value found d (Some x) v true w e =
        let tests = and_parts (found.start == 0) (found.end == length bytes) w in
        let whole : found.end ≡ length bytes = grind (arith, nat_tests, tests.1) in
        let begin : found.start ≡ 0 = grind (arith, nat_tests, tests.0) in
        let r = reads bytes (spelling_of bytes) found x d v in
        let are = are_parts bytes in
        let few = digits_short (spelling_of bytes) r.plain ((spelling_of bytes).dots ++ (spelling_of bytes).left) are.digits.all_in are.second r.worth in
        let dots : length (spelling_of bytes).dots ≤ 6 = grind (arith, nat_tests, r.dots) in
        let start = r.start in
        let end = r.end in
        omega (arith, whole, begin, few, dots, start, end)
    by_value found h o k b w e = grind (arith, nat_tests)

    by_read : (r : Result Length KernFault) → duration bytes ≡ r → recip_of bytes r ≡ Ok value → length bytes ≤ 15
    by_read = grind (arith, nat_tests, by_value)

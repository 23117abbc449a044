-- What is read as a duration is read again.
use Rattle.std.proofs.lemmas.Grind.{common_steps}
use Rattle.std.proofs.Common.{◌≡◌, ◌∙◌, refl, sym, ap, ℕ, ◌+◌, ◌-◌, ◌<◌, ◌^◌, ◌==◌}
use Rattle.std.proofs.Common.{Bool, true, false, cond}
use Rattle.std.proofs.Common.{List, [], ◌∷◌, ◌++◌, length, take, drop, Option, None, Some, Result, Ok, Err}
use Rattle.std.proofs.Common.{arith, append-nil}
use Rattle.std.specs.Prelude.{nat_le, decimal}
use Rattle.std.specs.List.{list_any, AllByRecursion}
use Rattle.std.specs.Str.{all_ascii_digits}
use Rattle.std.proofs.lemmas.Fmt.{decimal_nonempty, first_decimal, digits_decimal}
use Rattle.std.proofs.Math.Seq.{take-append_seam, drop-append_seam}
use Rattle.std.proofs.lemmas.Bool.Decides.{nat_tests}
use Rattle.hum_frac.specs.Ratio.{Ratio, whole, reduced}
use Rattle.hum_kern.specs.declared.KernFault.{KernFault}
use Rattle.hum_kern.specs.declared.KernFault.TheVariants.{K3}
use Rattle.hum_kern.specs.declared.Length.{Length}
use Rattle.hum_kern.specs.declared.runs.Class.TheVariants.{Digit, Other}
use Rattle.hum_kern.specs.Runs.{starts_with}
use Rattle.hum_kern.specs.Classes.{is_in, is_grace_sign}
use Rattle.hum_kern.specs.Value.{value_of, plain_value, one_by, dotted}
use Rattle.hum_kern.specs.Duration.{Spelling, spelling_of, is_empty, is_torn, second_length, with_dots, said, said_of, no_length, duration, recip}
use Rattle.hum_kern.specs.Parts.{EndsBefore, IsMaximal, quotient_text, IsSecond, behind_first, AreParts}
use Rattle.hum_kern.specs.Laws.{IsPartOfAWholeNote, IsReadAgain}
use Rattle.hum_kern.proofs.Decimals.{own, above_zero, one_by_part}
use Rattle.hum_kern.proofs.Parts.{are_parts}
use Rattle.hum_kern.proofs.Unique.{said_alone}

-- what was read, where there is a duration
pub record Reads (bytes : List ℕ) (parts : Spelling) (found : Length) (value : Ratio) : Type 0 where
  pub quiet : list_any is_grace_sign bytes ≡ false
  pub some : is_empty parts.digits ≡ false
  pub start : found.start ≡ length parts.before
  pub end : found.end ≡ length parts.before + length parts.digits + second_length parts.second + length parts.dots
  pub dots : nat_le (length parts.dots) 6 ≡ true
  pub plain : Ratio
  pub worth : value_of parts.digits parts.second ≡ Some plain
  pub told : reduced (dotted plain (length parts.dots)) ≡ value

ok_is : {A : Type 0} {x y : A} → ◌≡◌ {A = Result A KernFault} (Ok x) (Ok y) → x ≡ y
ok_is e = cc

pub reads : (bytes : List ℕ) (parts : Spelling) (found : Length) (value : Ratio) → said_of bytes parts ≡ Ok found
    → found.value ≡ Some value → Reads bytes parts found value
reads bytes parts found value h v = by_grace (list_any is_grace_sign bytes) refl (is_empty parts.digits) refl h
  where
    nothing : no_length ≡ found → ⊥
    nothing e = let w : None ≡ Some value = ap (λ (l : Length). l.value) e ∙ v in cc

    by_torn : list_any is_grace_sign bytes ≡ false → is_empty parts.digits ≡ false → (b : Bool)
        → cond b (Err K3) (with_dots (length parts.before) (length parts.before + length parts.digits + second_length parts.second)
        (value_of parts.digits parts.second) (length parts.dots)) ≡ Ok found
        → Reads bytes parts found value
    by_torn = grind (arith, nat_tests)

    by_grace : (a : Bool) → list_any is_grace_sign bytes ≡ a → (b : Bool) → is_empty parts.digits ≡ b
        → cond a (Ok no_length) (cond b (Ok no_length) (said parts)) ≡ Ok found → Reads bytes parts found value
    by_grace true q b s h = absurd (nothing (ok_is h))
    by_grace false q true s h = absurd (nothing (ok_is h))
    by_grace false q false s h = by_torn q s (is_torn parts) h

-- the parts of the duration alone
abbrev alone : Spelling → Spelling
alone parts = record { before = []; digits = parts.digits; second = parts.second; dots = parts.dots; left = [] }

abbrev text_alone : Spelling → List ℕ
text_alone parts = parts.digits ++ behind_first (alone parts)

digits_first : (digits rest : List ℕ) → is_empty digits ≡ false → IsMaximal Digit digits rest → (more : List ℕ)
    → EndsBefore Other (digits ++ more)
digits_first = grind (arith, nat_tests)

ends_alone : (second : Option (List ℕ)) (dots left : List ℕ) → EndsBefore Digit (quotient_text second ++ (dots ++ left))
    → EndsBefore Digit (quotient_text second ++ (dots ++ []))
ends_alone = grind (arith, common_steps)

second_alone : (second : Option (List ℕ)) (dots left : List ℕ) → IsSecond second (dots ++ left) → IsSecond second (dots ++ [])
second_alone = grind (arith, common_steps)

parts_alone : (bytes : List ℕ) (parts : Spelling) → AreParts bytes parts → is_empty parts.digits ≡ false → AreParts (text_alone parts) (alone parts)
parts_alone = grind (arith, nat_tests, digits_first, ends_alone, second_alone)

-- the text of the duration in its text
whole_text : (bytes : List ℕ) (parts : Spelling) → AreParts bytes parts → bytes ≡ parts.before ++ (text_alone parts ++ parts.left)
whole_text = grind (arith, common_steps)

alone_length : (parts : Spelling) → length (text_alone parts) ≡ length parts.digits + second_length parts.second + length parts.dots
alone_length = grind (arith, common_steps)

-- no sign of a grace note stands in a part of a text that has none
quiet_front : (front rest : List ℕ) → list_any is_grace_sign (front ++ rest) ≡ false → list_any is_grace_sign front ≡ false
quiet_front = grind (arith, common_steps)

quiet_behind : (front rest : List ℕ) → list_any is_grace_sign (front ++ rest) ≡ false → list_any is_grace_sign rest ≡ false
quiet_behind = grind (arith, common_steps)

not_torn : (parts : Spelling) → is_torn (alone parts) ≡ false
not_torn = grind (arith, nat_tests)

same_number : (n : ℕ) → (n == n) ≡ true
same_number n = grind (arith, nat_tests)

pub recip_alone : (bytes : List ℕ) (parts : Spelling) (found : Length) (value : Ratio) → AreParts bytes parts → Reads bytes parts found value
    → recip (text_alone parts) ≡ Ok value
recip_alone bytes parts found value h r =
    let text = text_alone parts in
    let quiet = quiet_front (text_alone parts) parts.left
    (quiet_behind parts.before (text_alone parts ++ parts.left) (rw (whole_text bytes parts h) at r.quiet)) in
    let is = said_alone (text_alone parts) (duration (text_alone parts)) refl (alone parts) (parts_alone bytes parts h r.some) in
    let long = alone_length parts in
    let end : 0 + length parts.digits + second_length parts.second + length parts.dots ≡ length (text_alone parts) = omega (arith, long) in
    let said : said_of (text_alone parts) (alone parts) ≡ Ok (record { value = Some value; start = 0; end = length (text_alone parts) }) =
    rw (quiet, r.some, not_torn parts, r.worth, r.dots, r.told, end) refl in
    rw (is ∙ said, same_number (length (text_alone parts))) refl

pub read_again : (bytes : List ℕ) (found : Length) (value : Ratio) → IsReadAgain bytes found value
read_again bytes found value h v =
    let parts = spelling_of bytes in
    let are = are_parts bytes in
    let r = reads bytes (spelling_of bytes) found value h v in
    let start = r.start in
    let end = r.end in
    let long = alone_length (spelling_of bytes) in
    let count : found.end - found.start ≡ length (text_alone (spelling_of bytes)) = omega (arith, start, end, long) in
    let behind : drop found.start bytes ≡ text_alone (spelling_of bytes) ++ (spelling_of bytes).left =
    ap (λ (n : ℕ). drop n bytes) r.start
    ∙ ap (λ (xs : List ℕ). drop (length (spelling_of bytes).before) xs) (whole_text bytes (spelling_of bytes) are)
    ∙ drop-append_seam (spelling_of bytes).before (text_alone (spelling_of bytes) ++ (spelling_of bytes).left) in
    let cut : take (found.end - found.start) (drop found.start bytes) ≡ text_alone (spelling_of bytes) =
    grind (arith, nat_tests, take-append_seam) in
    ap recip cut ∙ recip_alone bytes (spelling_of bytes) found value are r

-- a plain number

ascii_digits : (digits : List ℕ) → all_ascii_digits digits ≡ true → AllByRecursion (λ b. is_in Digit b ≡ true) digits
ascii_digits [] h = tt
ascii_digits (d ∷ digits) h = grind (arith, nat_tests, ascii_digits digits)

digits_quiet : (digits : List ℕ) → AllByRecursion (λ b. is_in Digit b ≡ true) digits → list_any is_grace_sign digits ≡ false
digits_quiet [] h = refl
digits_quiet (d ∷ digits) h = grind (arith, nat_tests, digits_quiet digits h.1)

abbrev pub worth_by : Option ℕ → Option Ratio → Option Ratio
worth_by breves one = elim breves [ Some n ↦ Some (whole n) | None ↦ one ]

plain_worth : (digits : List ℕ) → starts_with 48 digits ≡ false → plain_value digits ≡ one_by digits
plain_worth = grind (arith, nat_tests)

filled_some : (digits : List ℕ) → 0 < length digits → is_empty digits ≡ false
filled_some = grind (arith, nat_tests)

pub number_alone : (n : ℕ) → IsPartOfAWholeNote n
number_alone n some most =
    let fits : n < 2 ^ 64 = omega (arith, most) in
    let digits = decimal n in
    let all = ascii_digits (decimal n) (digits_decimal own n fits) in
    let first = above_zero (decimal n) (first_decimal n some fits) in
    let empty = filled_some (decimal n) (decimal_nonempty n fits) in
    let worth : value_of (decimal n) None ≡ Some (record { top = 1; bottom = n }) =
    plain_worth (decimal n) first ∙ one_by_part n some most in
    ap recip (sym (append-nil (decimal n))) ∙ recip_alone (decimal n) (plain_parts (decimal n))
    (record { value = None; start = 0; end = 0 + length (decimal n) + 0 + 0 })
    (reduced (record { top = 1; bottom = n }))
    (record {
      text = sym (append-nil (decimal n));
      before = record { all_in = tt; ends = digits_first (decimal n) [] empty (record { all_in = all; ends = tt }) [] };
      digits = record { all_in = all; ends = tt };
      second = refl;
      dots = record { all_in = tt; ends = tt };
    })
    (record {
      quiet = digits_quiet (decimal n) all;
      some = empty;
      start = refl;
      end = refl;
      dots = refl;
      plain = record { top = 1; bottom = n };
      worth = worth;
      told = refl;
    })
  where
    plain_parts : List ℕ → Spelling
    plain_parts digits = record { before = []; digits = digits; second = None; dots = []; left = [] }

-- The texts of semitones, in one table.
use Rattle.std.proofs.Common.{◌≡◌, ◌∙◌, refl, ℕ, ℤ, pos, negsuc, zero, suc, ◌+◌, ◌-◌, ◌*◌, ◌/◌, ◌%◌, ◌<◌, ◌≤◌, Bool, true, ◌&&◌}
use Rattle.std.proofs.Common.{List, [], ◌∷◌, ◌++◌, take, drop, length, length-drop, get_or, arith}
use Rattle.std.specs.Prelude.{◌-ℤ◌, nat_le, nat_lt, replicate, if◌then◌else◌}
use Rattle.std.specs.Str.{bytes_eq}
use Rattle.std.specs.Fmt.{decimal, signed_decimal}
use Rattle.std.specs.Int.Signed.{mag}
use Rattle.std.proofs.lemmas.Bool.{and_parts, cases_lt}
use Rattle.std.proofs.lemmas.Bool.Decides.{nat_tests}
use Rattle.std.proofs.lemmas.Slice.Eq.{bytes_eq-Decides}
use mathlib.Core.Logic.{inl, inr}
use lib.Chars.{codes}
use Rattle.hum_tones.proofs.Numbers.{one_digit, two_digits, three_digits}

-- whether a test holds of all numbers below one
abbrev pub every : (ℕ → Bool) → ℕ → Bool
every test zero = true
every test (suc n) = test n && every test n

pub every_at : (test : ℕ → Bool) (n i : ℕ) → every test n ≡ true → i < n → test i ≡ true
every_at test zero i all below = absurd (omega (arith, below))
every_at test (suc n) i all below = elim (cases_lt i n) [
  | inl less ↦ every_at test n i (and_parts (test n) (every test n) all).1 less
  | inr last ↦ grind (arith, nat_tests, and_parts)
]

-- a number of at most three digits, and one with its sign
abbrev pub spell : ℕ → List ℕ
spell n =
    if nat_lt n 10 then (48 + n) ∷ []
    else if nat_lt n 100 then (48 + n / 10) ∷ (48 + n % 10) ∷ []
    else (48 + n / 10 / 10) ∷ (48 + n / 10 % 10) ∷ (48 + n % 10) ∷ []

pub spell_is : (n : ℕ) → n < 1000 → spell n ≡ decimal n
spell_is = grind (arith, nat_tests, one_digit, two_digits, three_digits)

abbrev spell_signed : ℤ → List ℕ
spell_signed (pos n) = spell n
spell_signed (negsuc n) = 45 ∷ spell (suc n)

signed_is : (z : ℤ) → mag z < 999 → spell_signed z ≡ signed_decimal z
signed_is = grind (arith, nat_tests, spell_is)

-- the numbers from -103 to 102, each in four bytes, and how many bytes of each count
abbrev pub numbers : List ℕ
numbers = codes "-103-102-101-100-99.-98.-97.-96.-95.-94.-93.-92.-91.-90.-89.-88.-87.-86.-85.-84.-83.-82.-81.-80.-79.-78.-77.-76.-75.-74." ++ (codes "-73.-72.-71.-70.-69.-68.-67.-66.-65.-64.-63.-62.-61.-60.-59.-58.-57.-56.-55.-54.-53.-52.-51.-50.-49.-48.-47.-46.-45.-44." ++ (codes "-43.-42.-41.-40.-39.-38.-37.-36.-35.-34.-33.-32.-31.-30.-29.-28.-27.-26.-25.-24.-23.-22.-21.-20.-19.-18.-17.-16.-15.-14." ++ (codes "-13.-12.-11.-10.-9..-8..-7..-6..-5..-4..-3..-2..-1..0...1...2...3...4...5...6...7...8...9...10..11..12..13..14..15..16.." ++ (codes "17..18..19..20..21..22..23..24..25..26..27..28..29..30..31..32..33..34..35..36..37..38..39..40..41..42..43..44..45..46.." ++ (codes "47..48..49..50..51..52..53..54..55..56..57..58..59..60..61..62..63..64..65..66..67..68..69..70..71..72..73..74..75..76.." ++ (codes "77..78..79..80..81..82..83..84..85..86..87..88..89..90..91..92..93..94..95..96..97..98..99..100.101.102."))))))

abbrev pub sizes : List ℕ
sizes = replicate 4 4 ++ (replicate 90 3 ++ (replicate 9 2 ++ (replicate 10 1 ++ (replicate 90 2 ++ replicate 3 3))))

abbrev pub size_at : ℕ → ℕ
size_at place = get_or sizes place 0

is_right : ℕ → Bool
is_right place =
    nat_le (4 * place + size_at place) 824
    && (nat_lt (mag (pos place -ℤ pos 103)) 999
    && bytes_eq (take (size_at place) (drop (4 * place) numbers)) (spell_signed (pos place -ℤ pos 103)))

all_right : every is_right 206 ≡ true
unfolding is_right
all_right = refl

pub room : (place : ℕ) → place ≤ 205 → size_at place ≤ length (drop (4 * place) numbers)
unfolding is_right
room place few =
    let both = every_at is_right 206 place all_right (omega (arith, few)) in
    let test = (and_parts (nat_le (4 * place + size_at place) 824) _ both).0 in
    let within : 4 * place + size_at place ≤ 824 = grind (arith, nat_tests, test) in
    let counted : length (drop (4 * place) numbers) ≡ 824 - 4 * place = length-drop (4 * place) numbers in
    omega (arith, counted, within)

pub text_at : (place : ℕ) → place ≤ 205 → take (size_at place) (drop (4 * place) numbers) ≡ signed_decimal (pos place -ℤ pos 103)
unfolding is_right
text_at place few =
    let all = every_at is_right 206 place all_right (omega (arith, few)) in
    let both = and_parts (nat_lt (mag (pos place -ℤ pos 103)) 999) _ (and_parts (nat_le (4 * place + size_at place) 824) _ all).1 in
    let test = both.0 in
    let small : mag (pos place -ℤ pos 103) < 999 = grind (arith, nat_tests, test) in
    (bytes_eq-Decides _ _).0 both.1 ∙ signed_is (pos place -ℤ pos 103) small

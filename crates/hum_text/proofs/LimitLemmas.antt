-- A line that is handed out is within the limits and holds no LF.
use Rattle.std.proofs.lemmas.Grind.{common_steps}
use Rattle.std.proofs.Common.{◌≡◌, ℕ, suc, ◌+◌, ◌-◌, ◌<◌, ◌≤◌, Bool, true, false, ◌&&◌, ◌==◌, nat_lt}
use Rattle.std.proofs.Common.{List, [], ◌∷◌, ◌++◌, length, length-append, get_or, take, refl, sym, ◌∙◌, subst, arith, Option, None, Some}
use Rattle.std.proofs.Common.{inl, inr, length-take}
use Rattle.std.specs.List.{list_any}
use Rattle.std.specs.Prelude.{IfNone}
use Rattle.std.proofs.lemmas.Bool.{cases_Bool, cases_lt, eqb-true, eq-eqb, or_from}
use Rattle.std.proofs.lemmas.Bool.Decides.{nat_tests}
use Rattle.std.proofs.lemmas.List.{get_or-take, get_or_append_left, take_all, take_at, take_more, take-append-le}
use Rattle.std.proofs.Math.Seq.{take-length}
use Rattle.memchr.specs.Find.{IsFirstByte, is_byte}
use Rattle.hum_text.specs.declared.Limits.{Limits}
use Rattle.hum_text.specs.Text.{lf, without_cr, rule_in, rule_of_line, IsLawful}
use Rattle.hum_text.proofs.PieceLemmas.{NoLf}
use Rattle.hum_text.proofs.ReadingLemmas.{none-free, first-free}

-- What a piece is in which no rule breaks: not empty where it has ended, and within the three limits.
pub record Fits (l : Limits) (n : ℕ) (piece : List ℕ) (ended : Bool) (size : ℕ) : Type 0 where
  pub filled : ended ≡ true → 0 < length (without_cr piece)
  pub short : length (without_cr piece) ≤ l.line
  pub number : n ≤ l.records
  pub end : size ≤ l.bytes

fits : (l : Limits) (n : ℕ) (piece : List ℕ) (ended : Bool) (size : ℕ) → rule_in l n piece ended size ≡ None → Fits l n piece ended size
fits l n piece ended size none = elim (cases_Bool (ended && length (without_cr piece) == 0)) as (λ _. Fits l n piece ended size) [
  | inl empty ↦ let z = rw empty at none in absurd (some-none z)
  | inr filled ↦ elim (cases_Bool (nat_lt l.line (length (without_cr piece)))) as (λ _. Fits l n piece ended size) [
    | inl long ↦ let z = rw (filled, long) at none in absurd (some-none z)
    | inr short ↦ grind (arith, nat_tests, cases_Bool, nat_lt)
  ]
]
  where
    some-none : {A : Type 0} {x : A} → Some x ≡ None → ⊥
    some-none e = cc

    some-left : {m : ℕ} → (m == 0) ≡ false → 0 < m
    some-left h = grind (arith, nat_tests)

-- the bytes of a lawful line are within their limit
pub lawful-bytes : (l : Limits) (n t : ℕ) (held : List ℕ) → IsLawful l n t held → 0 < length held → t + length held ≤ l.bytes
lawful-bytes l n t held lawful some =
    let k = length held - 1 in
    let none = lawful (length held - 1) (omega (arith, some)) in
    elim (cases_Bool (get_or held (length held - 1) 0 == 10)) as (λ _. t + length held ≤ l.bytes) [
      | inl is ↦ let end = (fits l n (take k held) true (t + (k + 1)) (rw is at none)).end in omega (arith, end, some)
      | inr other ↦ let end = (fits l n (take (k + 1) held) false (t + (k + 1)) (rw other at none)).end in omega (arith, end, some)
    ]

-- the same of an answer
pub none-bytes : {F : Type 0} (l : Limits) (n t : ℕ) (held : List ℕ) (answer : Option F) → IfNone answer (IsLawful l n t held)
    → IfNone answer (0 < length held → t + length held ≤ l.bytes)
none-bytes l n t held (Some fault) lawful = tt
none-bytes l n t held None lawful = lawful-bytes l n t held lawful

-- the line whose LF is at k
pub whole-short : (l : Limits) (n t : ℕ) (block : List ℕ) (k : ℕ) → IsFirstByte (is_byte 10) block (Some k) →
    IsLawful l n t (take (k + 1) block) → length (without_cr (take k block)) ≤ l.line
whole-short l n t block k first lawful =
    let high : k < length block = first.0.high in
    let ten : get_or (take (k + 1) block) k 0 ≡ 10 = get_or-take (k + 1) block k 0 (omega arith) ∙ eqb-true _ 10 first.1 in
    let here : rule_of_line l n t (take (k + 1) block) k ≡ None = lawful k (simp length-take (omega arith)) in
    let front : take k (take (k + 1) block) ≡ take k block = take-take k 1 block in
    subst (λ (q : List ℕ). length (without_cr q) ≤ l.line) front (fits l n (take k (take (k + 1) block)) true (t + (k + 1)) (rw ten at here)).short
  where
    take-take : (k m : ℕ) (xs : List ℕ) → take k (take (k + m) xs) ≡ take k xs
    take-take = grind (arith, common_steps)

-- the last line
pub last-short : (l : Limits) (n t : ℕ) (block : List ℕ) → 0 < length block →
    IsFirstByte (is_byte 10) block None → IsLawful l n t block → length (without_cr block) ≤ l.line
last-short = grind (arith, nat_tests, get_or, cases_Bool, none-free, eqb-true, take-length, fits)

-- no byte is LF
free-any : (q : List ℕ) → NoLf q → list_any (λ b. b == lf) q ≡ false
free-any [] free = refl
free-any (b ∷ q) free = or_from _ _ head (free-any q (λ k h is. free (suc k) (omega arith) is))
  where
    head : (b == 10) ≡ false
    head = elim (cases_Bool (b == 10)) as (λ _. (b == 10) ≡ false) [ inl is ↦ absurd (free 0 (omega arith) (eqb-true b 10 is)) | inr isnt ↦ isnt ]

any-without : (q : List ℕ) → list_any (λ b. b == lf) q ≡ false → list_any (λ b. b == lf) (without_cr q) ≡ false
any-without = grind (arith, common_steps)

pub whole-free : (block : List ℕ) (k : ℕ) → IsFirstByte (is_byte 10) block (Some k) → list_any (λ b. b == lf) (without_cr (take k block)) ≡ false
whole-free = grind (arith, nat_tests, any-without, free-any, length-take, first-free, get_or-take)

pub last-free : (block : List ℕ) → IsFirstByte (is_byte 10) block None → list_any (λ b. b == lf) (without_cr block) ≡ false
last-free block unended = any-without block (free-any block (none-free block unended))

-- a piece without its CR
pub without-less : (p : List ℕ) → length (without_cr p) ≤ length p
without-less = grind (arith, common_steps)

pub without-one : (p : List ℕ) → length p ≤ length (without_cr p) + 1
without-one = grind (arith, common_steps)

-- a prefix of it isn't longer
without-front : (k : ℕ) (p : List ℕ) → k < length p → length (without_cr (take (k + 1) p)) ≤ length (without_cr p)
without-front = grind (arith, nat_tests, cases_lt, without-less, without-one, length-take, take_all)

some-left : (n : ℕ) → 0 < n → (n == 0) ≡ false
some-left n h = grind (arith, nat_tests)

no-rule : (l : Limits) (n : ℕ) (piece : List ℕ) (ended : Bool) (size : ℕ) → (ended && length (without_cr piece) == 0) ≡ false
    → length (without_cr piece) ≤ l.line → n ≤ l.records → size ≤ l.bytes → rule_in l n piece ended size ≡ None
no-rule = grind (arith, nat_tests)

last-ten : (xs : List ℕ) → (get_or (xs ++ 10 ∷ []) (length xs) 0 == 10) ≡ true
last-ten = grind (arith, common_steps)

not-ten : (b : ℕ) → (b ≡ 10 → ⊥) → (b == 10) ≡ false
not-ten b h = elim (cases_Bool (b == 10)) as (λ _. (b == 10) ≡ false) [ inl is ↦ absurd (h (eqb-true b 10 is)) | inr isnt ↦ isnt ]

-- a line that LF ends breaks no rule where its length, its number and its end are within the limits
pub line-lawful : (l : Limits) (n t : ℕ) (piece : List ℕ) → NoLf piece → 0 < length (without_cr piece) → length (without_cr piece) ≤ l.line
    → n ≤ l.records → t + (length piece + 1) ≤ l.bytes → IsLawful l n t (piece ++ 10 ∷ [])
line-lawful l n t piece free some fits records bytes k h =
    let size : length (piece ++ 10 ∷ []) ≡ length piece + 1 = omega (arith, length-append piece (10 ∷ [])) in
    elim (cases_lt k (length piece)) as (λ _. rule_of_line l n t (piece ++ 10 ∷ []) k ≡ None) [
      | inl below ↦
          let same : get_or (piece ++ 10 ∷ []) k 0 ≡ get_or piece k 0 = get_or_append_left piece (10 ∷ []) 0 k below in
          let other : (get_or (piece ++ 10 ∷ []) k 0 == 10) ≡ false = not-ten _ (λ is. free k below (sym same ∙ is)) in
          let front : take (k + 1) (piece ++ 10 ∷ []) ≡ take (k + 1) piece = take-append-le (k + 1) piece (10 ∷ []) (omega (arith, below)) in
          let less = without-front k piece below in
          rw (other, front) (no-rule l n (take (k + 1) piece) false (t + (k + 1)) refl (omega (arith, less, fits)) records (omega (arith, below, bytes)))
      | inr from ↦ grind (arith, nat_tests, get_or, last-ten, take_at, no-rule, some-left, fits)
    ]

-- the same, told by the line with its LF
pub whole-lawful : (l : Limits) (n t : ℕ) (held : List ℕ) → ((k : ℕ) → k + 1 < length held → get_or held k 0 ≡ 10 → ⊥)
    → 1 ≤ length held → get_or held (length held - 1) 0 ≡ 10 → 0 < length (without_cr (take (length held - 1) held))
    → length (without_cr (take (length held - 1) held)) ≤ l.line → n ≤ l.records → t + length held ≤ l.bytes → IsLawful l n t held
whole-lawful l n t held one_line some last long fits records bytes =
    let k = length held - 1 in
    let len : length (take k held) ≡ k = length-take k held ∙ omega arith in
    let all : take (k + 1) held ≡ held = take_all (k + 1) held (omega (arith, some)) in
    let whole : take k held ++ 10 ∷ [] ≡ held = grind (arith, nat_tests, take_more) in
    let free : NoLf (take k held) = grind (arith, nat_tests, get_or-take) in
    subst (λ zs. IsLawful l n t zs) whole (line-lawful l n t (take k held) free long fits records (omega (arith, len, some, bytes)))

-- a line that LF doesn't end yet breaks no rule where its length, its number and its end are within the limits
pub open-lawful : (l : Limits) (n t : ℕ) (held : List ℕ) → ((k : ℕ) → k + 1 < length held → get_or held k 0 ≡ 10 → ⊥)
    → (get_or held (length held - 1) 0 ≡ 10 → ⊥) → length (without_cr held) ≤ l.line → n ≤ l.records → t + length held ≤ l.bytes
    → IsLawful l n t held
open-lawful = grind (arith, nat_tests, without-front, not-ten, no-rule, get_or, cases_lt)

-- where the first LF stands, by how long the text of its line is
pub lf-place : (block : List ℕ) (k len : ℕ) → IsFirstByte (is_byte 10) block (Some k) → len ≡ length (without_cr (take k block))
    → (len < length block) × (get_or block len 0 ≡ 10 → k ≡ len) × ((get_or block len 0 ≡ 10 → ⊥) → k ≡ len + 1)
lf-place block k len first is =
    let high : k < length block = first.0.high in
    let size : length (take k block) ≡ k = length-take k block ∙ omega (arith, high) in
    let less = without-less (take k block) in
    let one = without-one (take k block) in
    let low : len ≤ k = omega (arith, is, less, size) in
    let most : k ≤ len + 1 = omega (arith, is, one, size) in (
      omega (arith, low, high),
      λ ten. elim (cases_lt len k) as (λ _. k ≡ len) [
        | inl below ↦ absurd (first-free block k first len below ten)
        | inr from ↦ omega (arith, from, low)
      ],
      λ other. elim (cases_lt len k) as (λ _. k ≡ len + 1) [
        | inl below ↦ omega (arith, below, most)
        | inr from ↦ grind (arith, nat_tests, get_or, eqb-true)
      ],
    )

-- such a text is a front of the block
pub front-text : (block : List ℕ) (k len : ℕ) → k < length block → len ≡ length (without_cr (take k block)) → without_cr (take k block) ≡ take len block
front-text = grind (arith, common_steps)

-- whatever finds it by that byte finds this place
pub same-place : (block : List ℕ) (k len r : ℕ) → IsFirstByte (is_byte 10) block (Some k) → len ≡ length (without_cr (take k block))
    → (get_or block len 0 ≡ 10 → r ≡ len) → ((get_or block len 0 ≡ 10 → ⊥) → r ≡ len + 1) → r ≡ k
same-place = grind (arith, nat_tests, lf-place, cases_Bool, get_or, eqb-true, eq-eqb)

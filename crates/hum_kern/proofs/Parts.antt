-- Every text has parts, and a duration stands within its text.
use Rattle.std.proofs.lemmas.Grind.{common_steps}
use Rattle.std.proofs.lemmas.Bool.Decides.{nat_tests}
use Rattle.std.proofs.Common.{◌≡◌, ℕ, suc, ◌+◌, Bool, true, false, List, [], ◌∷◌, ◌++◌, take, drop}
use Rattle.std.proofs.Common.{Option, refl, sym, ap, ◌∙◌, subst, arith}
use Rattle.std.specs.Prelude.{if◌then◌else◌, length, ◌≤◌, Result, Ok, Err, IfOk}
use Rattle.std.specs.List.{list_any}
use Rattle.hum_frac.specs.Ratio.{Ratio}
use Rattle.hum_kern.specs.declared.KernFault.{KernFault}
use Rattle.hum_kern.specs.declared.KernFault.TheVariants.{K3}
use Rattle.hum_kern.specs.declared.Length.{Length}
use Rattle.hum_kern.specs.Value.{value_of}
use Rattle.std.proofs.lemmas.List.{take-append-drop}
use Rattle.hum_kern.specs.declared.runs.Class.{Class}
use Rattle.hum_kern.specs.declared.runs.Class.TheVariants.{Digit, Other, Dot}
use Rattle.hum_kern.specs.Runs.{run, front, behind}
use Rattle.hum_kern.specs.Classes.{is_in, is_grace_sign}
use Rattle.hum_kern.specs.Duration.{Spelling, spelling, spelling_of, second_of, behind_digits, is_empty}
use Rattle.hum_kern.specs.Duration.{is_torn, second_length, with_dots, said, no_length, duration}
use Rattle.hum_kern.specs.Parts.{IsMaximal, IsSecond, behind_first, AreParts}

pub run_maximal : (class : Class) (bytes : List ℕ) → IsMaximal class (front (is_in class) bytes) (behind (is_in class) bytes)
run_maximal class [] = record { all_in = tt; ends = tt }
run_maximal class (b ∷ bytes) = go (run_maximal class bytes) (is_in class b) refl
  where
    go : IsMaximal class (front (is_in class) bytes) (behind (is_in class) bytes) → (t : Bool) →
        is_in class b ≡ t → IsMaximal class (take (if t then run (is_in class) bytes + 1 else 0) (b ∷ bytes))
        (drop (if t then run (is_in class) bytes + 1 else 0) (b ∷ bytes))
    go more true e =
        let next : run (is_in class) bytes + 1 ≡ suc (run (is_in class) bytes) = omega arith in
        rw next (record { all_in = (e, more.all_in); ends = more.ends })
    go more false e = record { all_in = tt; ends = e }

pub front-behind : (class : Class) (bytes : List ℕ) → front (is_in class) bytes ++ behind (is_in class) bytes ≡ bytes
front-behind class bytes = take-append-drop (run (is_in class) bytes) bytes

-- what stands behind the first digits, in its parts
rest_text : (before digits rest : List ℕ) → behind_first (spelling before digits rest) ≡ rest
rest_text = grind (arith, common_steps)

rest_second : (before digits rest : List ℕ) → IsSecond (second_of rest) ((spelling before digits rest).dots ++ (spelling before digits rest).left)
rest_second = grind (arith, nat_tests, front-behind, run_maximal)

pub are_parts : (bytes : List ℕ) → AreParts bytes (spelling_of bytes)
are_parts bytes =
    let last : behind_first (spelling_of bytes) ≡ behind (is_in Digit) (behind (is_in Other) bytes) =
    grind (arith, nat_tests, rest_text) in
    let from : front (is_in Digit) (behind (is_in Other) bytes) ++ behind_first (spelling_of bytes) ≡ behind
    (is_in Other) bytes = ap (λ (xs : List ℕ). front (is_in Digit) (behind (is_in Other) bytes) ++ xs) last
    ∙ front-behind Digit (behind (is_in Other) bytes) in
    record {
      text = sym (ap (λ (xs : List ℕ). front (is_in Other) bytes ++ xs) from ∙ front-behind Other bytes);
      before = subst (IsMaximal Other (front (is_in Other) bytes)) (sym from) (run_maximal Other bytes);
      digits = subst (IsMaximal Digit (front (is_in Digit) (behind (is_in Other) bytes))) (sym last) (run_maximal Digit (behind (is_in Other) bytes));
      second = rest_second (front (is_in Other) bytes) (front (is_in Digit) (behind (is_in Other) bytes)) (behind (is_in Digit) (behind (is_in Other) bytes));
      dots = run_maximal Dot (behind_digits (behind (is_in Digit) (behind (is_in Other) bytes)));
    }

text_length : (bytes : List ℕ) (parts : Spelling) → AreParts bytes parts →
    length parts.before + length parts.digits + second_length parts.second + length parts.dots ≤ length bytes
text_length = grind (arith, common_steps)

-- where a duration is read, it stands within a text
abbrev pub StandsIn : List ℕ → Result Length KernFault → Type 0
StandsIn bytes read = IfOk read (λ found. (found.start ≤ found.end) × (found.end ≤ length bytes))

with_dots_in : (bytes : List ℕ) (start end : ℕ) (value : Option Ratio) (dots : ℕ) → start ≤ end →
    end + dots ≤ length bytes → StandsIn bytes (with_dots start end value dots)
with_dots_in = grind (arith, nat_tests)

said_in : (bytes : List ℕ) (parts : Spelling) → AreParts bytes parts → StandsIn bytes (said parts)
said_in bytes parts h = elim (is_torn parts) as (λ (b : Bool). StandsIn bytes
    (if b then Err K3 else with_dots (length parts.before)
    (length parts.before + length parts.digits + second_length parts.second)
    (value_of parts.digits parts.second) (length parts.dots))) [
      | true ↦ tt
      | false ↦ grind (arith, nat_tests, with_dots_in, text_length)
    ]

-- whatever is asked first
pub said_stands : (bytes : List ℕ) (grace none : Bool) → StandsIn bytes
    (if grace then Ok no_length else if none then Ok no_length else said (spelling_of bytes))
said_stands bytes true none = (omega arith, omega arith)
said_stands bytes false true = (omega arith, omega arith)
said_stands bytes false false = said_in bytes (spelling_of bytes) (are_parts bytes)

pub duration_in : (bytes : List ℕ) (r : Result Length KernFault) → r ≡ duration bytes → StandsIn bytes r
duration_in bytes r e = subst (StandsIn bytes) (sym e) (said_stands bytes (list_any is_grace_sign bytes) (is_empty (spelling_of bytes).digits))

-- A text has its parts in one way alone.
use Rattle.std.proofs.lemmas.Bool.Decides.{nat_tests}
use Rattle.std.proofs.Common.{◌≡◌, ℕ, List, ◌∷◌, ◌++◌, take, drop, length, Option, Result, ap, ◌∙◌, arith}
use Rattle.std.proofs.Math.Seq.{take-append_seam, drop-append_seam}
use Rattle.hum_kern.specs.declared.KernFault.{KernFault}
use Rattle.hum_kern.specs.declared.Length.{Length}
use Rattle.hum_kern.specs.declared.runs.Class.{Class}
use Rattle.hum_kern.specs.Runs.{run, front, behind}
use Rattle.hum_kern.specs.Classes.{is_in}
use Rattle.hum_kern.specs.Duration.{Spelling, spelling_of, second_of, behind_digits, said_of, duration}
use Rattle.hum_kern.specs.Parts.{IsMaximal, quotient_text, IsSecond, behind_first, AreParts}

run_alone : (class : Class) (xs rest : List ℕ) → IsMaximal class xs rest → run (is_in class) (xs ++ rest) ≡ length xs
run_alone class (x ∷ xs) rest h =
    grind (arith, nat_tests, run_alone class xs rest (record { all_in = h.all_in.1; ends = h.ends }))
run_alone class xs rest h = grind (arith, nat_tests)

pub front_is : (class : Class) (xs rest : List ℕ) → IsMaximal class xs rest → front (is_in class) (xs ++ rest) ≡ xs
front_is class xs rest h = ap (λ (n : ℕ). take n (xs ++ rest)) (run_alone class xs rest h) ∙ take-append_seam xs rest

pub behind_is : (class : Class) (xs rest : List ℕ) → IsMaximal class xs rest → behind (is_in class) (xs ++ rest) ≡ rest
behind_is class xs rest h = ap (λ (n : ℕ). drop n (xs ++ rest)) (run_alone class xs rest h) ∙ drop-append_seam xs rest

second_is : (o : Option (List ℕ)) (rest : List ℕ) → IsSecond o rest → second_of (quotient_text o ++ rest) ≡ o
second_is = grind (arith, nat_tests, front_is)

tail_is : (o : Option (List ℕ)) (rest : List ℕ) → IsSecond o rest → behind_digits (quotient_text o ++ rest) ≡ rest
tail_is = grind (arith, nat_tests, behind_is)

pub same : {b c : List ℕ} {d e : List ℕ} {s t : Option (List ℕ)} {f g : List ℕ} {l m : List ℕ} → b ≡ c → d ≡ e →
    s ≡ t → f ≡ g → l ≡ m → ◌≡◌ {A = Spelling}
    (record { before = b; digits = d; second = s; dots = f; left = l })
    (record { before = c; digits = e; second = t; dots = g; left = m })
same = grind (arith, nat_tests)

of_text : (bytes : List ℕ) (parts : Spelling) → AreParts bytes parts → spelling_of (parts.before ++ (parts.digits ++ behind_first parts)) ≡ parts
of_text = grind (arith, nat_tests, behind_is, tail_is, same, front_is, second_is)

-- the parts that a text has are those that its duration is defined by
pub one_spelling : (bytes : List ℕ) (parts : Spelling) → AreParts bytes parts → spelling_of bytes ≡ parts
one_spelling bytes parts h = ap spelling_of h.text ∙ of_text bytes parts h

pub said_alone : (bytes : List ℕ) (r : Result Length KernFault) → r ≡ duration bytes → (parts : Spelling) → AreParts bytes parts → r ≡ said_of bytes parts
said_alone bytes r e parts h = e ∙ ap (said_of bytes) (one_spelling bytes parts h)

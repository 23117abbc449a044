-- Every text has parts round its pitch, in one way alone.
use Rattle.std.proofs.lemmas.Grind.{common_steps}
use Rattle.std.proofs.lemmas.Bool.Decides.{nat_tests}
use Rattle.std.proofs.Common.{◌≡◌, ℕ, true, List, [], ◌∷◌, ◌++◌, refl, sym, ap, ◌∙◌, subst, arith, get_or}
use Rattle.std.specs.Prelude.{length, ◌≤◌, Result}
use Rattle.hum_kern.specs.declared.runs.Class.TheVariants.{NoLetter, Repeat, Sign}
use Rattle.hum_kern.specs.declared.KernFault.{KernFault}
use Rattle.hum_kern.specs.Runs.{front, behind}
use Rattle.hum_kern.specs.Classes.{is_in, is_letter}
use Rattle.hum_kern.specs.Parts.{IsMaximal}
use Rattle.hum_kern.specs.Note.{Notation, Reading, repeated, behind_repeated, notation_of, note_by, note}
use Rattle.hum_kern.specs.NoteParts.{IsRepeated, AreNoteParts}
use Rattle.hum_kern.proofs.Parts.{run_maximal, front-behind}
use Rattle.hum_kern.proofs.Unique.{front_is, behind_is}

-- what stands at the front behind other bytes is a letter
begins_with_letter : (bytes : List ℕ) (letter : ℕ) (rest : List ℕ) → letter ∷ rest ≡ behind (is_in NoLetter) bytes → is_letter letter ≡ true
begins_with_letter bytes letter rest e = grind (arith, nat_tests, run_maximal NoLetter bytes)

repeated-behind : (bytes : List ℕ) → repeated bytes ++ behind_repeated bytes ≡ bytes
repeated-behind = grind (arith, common_steps)

repeated_maximal : (bytes : List ℕ) → IsRepeated (repeated bytes) (behind_repeated bytes)
repeated_maximal [] = refl
repeated_maximal (b ∷ bytes) = run_maximal (Repeat b) bytes

pub are_note_parts : (bytes : List ℕ) → AreNoteParts bytes (notation_of bytes)
are_note_parts bytes =
    let rest = behind (is_in NoLetter) bytes in
    let last : front (is_in Sign) (behind_repeated rest) ++ behind (is_in Sign)
    (behind_repeated rest) ≡ behind_repeated rest = front-behind Sign (behind_repeated rest) in
    let from : repeated rest ++ (front (is_in Sign) (behind_repeated rest) ++ behind (is_in Sign)
    (behind_repeated rest)) ≡ rest = ap (λ (xs : List ℕ). repeated rest ++ xs) last
    ∙ repeated-behind rest in
    record {
      text = sym (ap (λ (xs : List ℕ). front (is_in NoLetter) bytes ++ xs) from ∙ front-behind NoLetter bytes);
      before = subst (IsMaximal NoLetter (front (is_in NoLetter) bytes)) (sym from) (run_maximal NoLetter bytes);
      letters = subst (IsRepeated (repeated rest)) (sym last) (repeated_maximal rest);
      signs = run_maximal Sign (behind_repeated rest);
    }

repeated_is : (letters rest : List ℕ) → IsRepeated letters rest → repeated (letters ++ rest) ≡ letters
repeated_is = grind (arith, nat_tests, front_is)

behind_repeated_is : (letters rest : List ℕ) → IsRepeated letters rest → behind_repeated (letters ++ rest) ≡ rest
behind_repeated_is = grind (arith, nat_tests, behind_is)

same : {b c l m s t o p : List ℕ} → b ≡ c → l ≡ m → s ≡ t → o ≡ p →
    ◌≡◌ {A = Notation} (record { before = b; letters = l; signs = s; left = o })
    (record { before = c; letters = m; signs = t; left = p })
same = grind (arith, nat_tests)

pub of_parts : (parts : Notation) → IsMaximal NoLetter parts.before
    (parts.letters ++ (parts.signs ++ parts.left)) → IsRepeated parts.letters (parts.signs ++ parts.left) →
    IsMaximal Sign parts.signs parts.left → notation_of
    (parts.before ++ (parts.letters ++ (parts.signs ++ parts.left))) ≡ parts
of_parts = grind (arith, nat_tests, behind_is, behind_repeated_is, same, front_is, repeated_is)

-- the parts that a text has are those that its note is defined by
pub one_notation : (bytes : List ℕ) (parts : Notation) → AreNoteParts bytes parts → notation_of bytes ≡ parts
one_notation bytes parts h = ap notation_of h.text ∙ of_parts parts h.before h.letters h.signs

pub note_alone : (bytes : List ℕ) (r : Result Reading KernFault) → r ≡ note bytes → (parts : Notation) → AreNoteParts bytes parts → r ≡ note_by bytes parts
note_alone bytes r e parts h = e ∙ ap (note_by bytes) (one_notation bytes parts h)

pub front_is_letter : (bytes xs : List ℕ) → xs ≡ behind (is_in NoLetter) bytes → 1 ≤ length xs → is_letter (get_or xs 0 0) ≡ true
front_is_letter bytes [] e h = absurd (omega arith)
front_is_letter bytes (x ∷ xs) e h = begins_with_letter bytes x xs e

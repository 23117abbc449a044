-- The lines that were given stand before the first fault.
use Rattle.std.proofs.lemmas.Bool.Decides.{nat_tests}
use Rattle.std.proofs.Common.{◌≡◌, ℕ, suc, ◌+◌, ◌<◌, List, [], ◌∷◌, ◌++◌, length, ap, ◌∙◌, subst, arith}
use Rattle.std.proofs.Common.{Option, None, Some, append_assoc, length-append, inl, inr, ◌⊎◌}
use Rattle.hum_text.specs.declared.Limits.{Limits}
use Rattle.hum_text.specs.declared.TextFault.{TextFault}
use Rattle.hum_text.specs.Text.{pieces, rule_at, rule_at_end, or_later, fault_after, fault_of, IsAtStart}
use Rattle.hum_text.specs.Reading.{Reader, Holds}
use Rattle.hum_text.proofs.PieceLemmas.{pieces-append, pieces-some}
use Rattle.hum_text.proofs.TextLemmas.{start-end}

-- which fault it is
one-of : (o : Option TextFault) (k : ℕ) (later : Option (ℕ × TextFault)) (n : ℕ) (f : TextFault) →
    or_later o k later ≡ Some (n, f) → (k ≡ n) ⊎ (later ≡ Some (n, f))
one-of = grind (arith, nat_tests)

-- a piece more than before
longer : (before : List ℕ) (b : ℕ) (bs : List ℕ) → IsAtStart before → length (pieces before) < length (pieces (before ++ b ∷ bs))
longer before b bs start =
    let some = pieces-some b bs in
    let size : length (pieces (before ++ b ∷ bs)) ≡ length (pieces before) + length (pieces (b ∷ bs)) =
    ap length (pieces-append before (b ∷ bs) start) ∙ length-append (pieces before) (pieces (b ∷ bs)) in
    let one : length (pieces (b ∷ bs)) ≡ suc (length some.1) = ap length some.2 in
    omega (arith, size, one)

-- a fault behind some bytes more is in a line behind those before
behind : (l : Limits) (before : List ℕ) (b : ℕ) (bs rest : List ℕ) (n : ℕ) (f : TextFault) → IsAtStart before →
    fault_after l (before ++ b ∷ bs) rest ≡ Some (n, f) → length (pieces before) < n
unfolding fault_after
behind l before b bs [] n f start h = grind (arith, nat_tests, one-of, longer)
behind l before b bs (c ∷ rest) n f start h =
    let next : (before ++ b ∷ bs) ++ c ∷ [] ≡ before ++ b ∷ (bs ++ c ∷ []) = append_assoc before (b ∷ bs) (c ∷ []) in
    let F : List ℕ → Type 0 = λ zs. fault_after l zs rest ≡ Some (n, f) in
    elim (one-of (rule_at l ((before ++ b ∷ bs) ++ c ∷ [])) (length (pieces ((before ++ b ∷ bs) ++ c ∷ [])))
    (fault_after l ((before ++ b ∷ bs) ++ c ∷ []) rest) n f h) as (λ _. length (pieces before) < n) [
      | inl here ↦ let more = longer before b (bs ++ c ∷ []) start in let same = ap (λ zs. length (pieces zs)) next in omega (arith, more, here, same)
      | inr later ↦ behind l before b (bs ++ c ∷ []) rest n f start (subst F next later)
    ]

stands-before : (l : Limits) (before rest : List ℕ) (n : ℕ) (f : TextFault) →
    IsAtStart before ⊎ ((rest ≡ []) × (rule_at_end before ≡ None)) → fault_after l before rest ≡ Some (n, f) →
    length (pieces before) < n
unfolding fault_after
stands-before l before [] n f (inl start) h = grind (arith, nat_tests, start-end)
stands-before l before [] n f (inr over) h = grind (arith, nat_tests)
stands-before l before (b ∷ rest) n f (inr over) h = grind (arith, nat_tests)
stands-before l before (b ∷ rest) n f (inl start) h = grind (arith, nat_tests, one-of, longer, behind)

-- The first fault of all bytes stands in a line after those that were given.
pub given-before : {R : Type 0} (v : Reader R) (all : List ℕ) (given : List (List ℕ)) (rest : List ℕ) (n : ℕ)
    (f : TextFault) → Holds v all given rest → fault_of v.limits all ≡ Some (n, f) → length given < n
given-before = grind (arith, nat_tests, stands-before)

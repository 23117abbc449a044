-- The pieces of bytes in parts.
use Rattle.std.proofs.lemmas.Bool.Decides.{nat_tests}
use Rattle.std.proofs.Common.{◌≡◌, ℕ, suc, ◌<◌, Bool, true, false, ◌==◌, if◌then◌else◌, List, [], ◌∷◌, ◌++◌}
use Rattle.std.proofs.Common.{length, get_or, refl, ap, arith}
use Rattle.hum_text.specs.Text.{onto, pieces, IsAtStart}

pub IsAtStart-lf : (x : List ℕ) → IsAtStart (x ++ 10 ∷ [])
unfolding IsAtStart
IsAtStart-lf (b ∷ c ∷ bs) = IsAtStart-lf (c ∷ bs)
IsAtStart-lf x = grind (arith, nat_tests)

-- no byte is LF
abbrev pub NoLf : List ℕ → Type 0
NoLf q = (k : ℕ) → k < length q → get_or q k 0 ≡ 10 → ⊥

NoLf-head : (b : ℕ) (q : List ℕ) → NoLf (b ∷ q) → (b == 10) ≡ false
NoLf-head = grind (arith, nat_tests)

NoLf-tail : (b : ℕ) (q : List ℕ) → NoLf (b ∷ q) → NoLf q
NoLf-tail b q free = λ k h is. free (suc k) (omega arith) is

pub pieces-line : (q r : List ℕ) → NoLf q → pieces (q ++ 10 ∷ r) ≡ q ∷ pieces r
unfolding pieces
pieces-line [] r free = refl
pieces-line (b ∷ q) r free = rw (NoLf-head b q free) (ap (onto b) (pieces-line q r (NoLf-tail b q free)))

pub pieces-open : (b : ℕ) (q : List ℕ) → NoLf (b ∷ q) → pieces (b ∷ q) ≡ (b ∷ q) ∷ []
unfolding pieces
pieces-open b [] free = rw (NoLf-head b [] free) refl
pieces-open b (c ∷ q) free = rw (NoLf-head b (c ∷ q) free) (ap (onto b) (pieces-open c q (NoLf-tail b (c ∷ q) free)))

onto-some : (b : ℕ) (ps : List (List ℕ)) → (p : List ℕ) × (qs : List (List ℕ)) × (onto b ps ≡ p ∷ qs)
onto-some b [] = (b ∷ [], [], refl)
onto-some b (p ∷ ps) = (b ∷ p, ps, refl)

pub pieces-some : (b : ℕ) (bs : List ℕ) → (p : List ℕ) × (ps : List (List ℕ)) × (pieces (b ∷ bs) ≡ p ∷ ps)
unfolding pieces
pieces-some b bs = elim (b == 10)
    as (λ (v : Bool). (p : List ℕ) × (ps : List (List ℕ)) × ((if v then [] ∷ pieces bs else onto b (pieces bs)) ≡ p ∷ ps)) [
      | true ↦ ([], pieces bs, refl)
      | false ↦ onto-some b (pieces bs)
    ]

pub pieces-append : (before q : List ℕ) → IsAtStart before → pieces (before ++ q) ≡ pieces before ++ pieces q
unfolding pieces IsAtStart
pieces-append (b ∷ c ∷ bs) q s = grind (arith, nat_tests, pieces-append (c ∷ bs) q s, pieces-some c bs)
pieces-append before q h = grind (arith, nat_tests)

pub pieces-whole : (q : List ℕ) → NoLf q → pieces (q ++ 10 ∷ []) ≡ q ∷ []
unfolding pieces
pieces-whole q free = pieces-line q [] free

pub pieces-part : (q : List ℕ) → 0 < length q → NoLf q → pieces q ≡ q ∷ []
pieces-part [] long free = absurd (omega arith)
pieces-part (b ∷ q) long free = pieces-open b q free

pub pieces-none : pieces [] ≡ []
unfolding pieces
pieces-none = refl

-- Tables by steps.
use Rattle.std.proofs.lemmas.Bool.Decides.{nat_tests}
use Rattle.std.proofs.Common.{◌≡◌, ◌∙◌, ℕ, zero, suc, ◌+◌, ◌<◌, ◌≤◌, ◌%◌, false, List, [], ◌∷◌, ap, arith, slice_index_or}
use Rattle.hum_pitch.specs.Intervals.{natural_width, can_be_perfect}
use Rattle.hum_pitch.proofs.Steps.{natural_le}

-- what a function gives from k on
abbrev pub table : {A : Type 0} → (ℕ → A) → ℕ → ℕ → List A
table f k zero = []
table f k (suc n) = f k ∷ table f (suc k) n

at_table : {A : Type 0} (f : ℕ → A) (n k i : ℕ) (default : A) → i < n → slice_index_or (table f k n) i default ≡ f (k + i)
at_table f (suc n) k (suc i) default below =
    let same : suc k + i ≡ k + suc i = omega arith in at_table f n (suc k) i default (omega (arith, below)) ∙ ap f same
at_table f n k i default h = grind (arith, nat_tests)

pub width_at : (steps : ℕ) → steps ≤ 111 → slice_index_or (table natural_width 0 112) steps 0 ≡ natural_width steps
width_at steps few = grind (arith, nat_tests, at_table natural_width 112 0 steps 0 (omega (arith, few)))

pub perfect_at : (steps : ℕ) → steps ≤ 111 → slice_index_or (table can_be_perfect 0 112) steps false ≡ can_be_perfect steps
perfect_at steps few =
    let same : 0 + steps ≡ steps = omega arith in at_table can_be_perfect 112 0 steps false (omega (arith, few)) ∙ ap can_be_perfect same

pub width_bound : (steps : ℕ) → steps ≤ 111 → natural_width steps ≤ 191
width_bound steps few = let small = natural_le (steps % 7) in omega (arith, few, small)

pub width_few : (steps : ℕ) → steps ≤ 111 → slice_index_or (table natural_width 0 112) steps 0 ≤ 191
width_few steps few = rw (width_at steps few) (width_bound steps few)

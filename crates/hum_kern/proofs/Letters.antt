-- Letters of pitches as steps.
use Rattle.std.proofs.lemmas.Bool.Decides.{nat_tests}
use Rattle.std.proofs.Common.{◌≡◌, ℕ, suc, zero, ◌+◌, ◌-◌, ◌<◌, ◌≤◌, true, pos, ◌+ℤ◌, ◌-ℤ◌, ◌%◌, List, [], ◌∷◌, Some, refl, arith}
use Rattle.std.specs.Prelude.{slice_index_or}
use Rattle.hum_pitch.specs.Spelling.{read_letters, natural_note}
use Rattle.hum_kern.specs.Classes.{is_letter}

-- the steps of the letters from a on, by the rests of the bytes by 8
abbrev pub steps : List ℕ
steps = 0 ∷ 5 ∷ 6 ∷ 0 ∷ 1 ∷ 2 ∷ 3 ∷ 4 ∷ []

pub small_is : (letter count : ℕ) → 97 ≤ letter → letter ≤ 103 →
    read_letters letter count ≡ Some (natural_note (slice_index_or {A = ℕ} steps (letter % 8) 0) (pos 3 +ℤ pos count))
small_is = grind (arith, nat_tests)

capital_at : (k count : ℕ) → k < 7 → read_letters (65 + k) count ≡ Some (natural_note (slice_index_or {A = ℕ} steps ((65 + k) % 8) 0) (pos 4 -ℤ pos count))
capital_at zero count h = refl
capital_at (suc zero) count h = refl
capital_at (suc (suc zero)) count h = refl
capital_at (suc (suc (suc zero))) count h = refl
capital_at (suc (suc (suc (suc zero)))) count h = refl
capital_at (suc (suc (suc (suc (suc zero))))) count h = refl
capital_at (suc (suc (suc (suc (suc (suc zero)))))) count h = refl
capital_at (suc (suc (suc (suc (suc (suc (suc k))))))) count h = absurd (omega arith)

pub capital_is : (letter count : ℕ) → 65 ≤ letter → letter ≤ 71 →
    read_letters letter count ≡ Some (natural_note (slice_index_or {A = ℕ} steps (letter % 8) 0) (pos 4 -ℤ pos count))
capital_is letter count p q =
    let back : 65 + (letter - 65) ≡ letter = omega arith in
    rw back at (capital_at (letter - 65) count (omega arith))

-- a letter that isn't small is a capital
pub capital_range : (letter : ℕ) → is_letter letter ≡ true → letter < 97 → (65 ≤ letter) × (letter ≤ 71)
capital_range = grind (arith, nat_tests)

-- a letter that isn't a capital is small
pub small_range : (letter : ℕ) → is_letter letter ≡ true → 97 ≤ letter → letter ≤ 103
small_range = grind (arith, nat_tests)

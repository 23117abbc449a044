-- Steps and semitones.
use Rattle.std.proofs.lemmas.Bool.Decides.{nat_tests}
use Rattle.std.proofs.Common.{◌≡◌, ◌≤◌, ◌<◌, ℕ, ℤ, pos, negsuc, ◌+ℤ◌, ◌-ℤ◌, ◌*ℤ◌, arith, ap, refl, FitsSigned, to_z, of_z, w32}
use Rattle.std.proofs.lemmas.Int.{ints}
use Rattle.hum_pitch.specs.Pitch.{Spelled, natural, natural_at, semitones, step_number, away, IsAway, IsWithin}

pub natural_le : (k : ℕ) → natural k ≤ 11
unfolding natural
natural_le = grind (arith, nat_tests)

-- A step number has one octave and one step.
pub octave_of : (k : ℕ) (o z : ℤ) → k < 7 → (pos 7 *ℤ o) +ℤ pos k ≡ z → o ≡ (natural_at z).octave
octave_of = grind (arith, nat_tests)

pub step_of : (k : ℕ) (o z : ℤ) → k < 7 → (pos 7 *ℤ o) +ℤ pos k ≡ z → k ≡ (natural_at z).step
step_of = grind (arith, nat_tests)

-- The note that is away, from its octave, its step and its semitones.
pub altered : (n m a s : ℤ) (p : Spelled) (k : ℕ) (o : ℤ) → k < 7 → (pos 7 *ℤ o) +ℤ pos k ≡ step_number p +ℤ n
    → s ≡ (pos 12 *ℤ (o -ℤ pos 4)) +ℤ pos (natural k)
    → a ≡ (semitones p +ℤ m) -ℤ s
    → a ≡ (away n m p).alteration
altered n m a s p k o small e f g =
    let same_octave : o ≡ (natural_at (step_number p +ℤ n)).octave = octave_of k o _ small e in
    let same_step : natural k ≡ natural (natural_at (step_number p +ℤ n)).step = ap natural (step_of k o _ small e) in
    omega (arith, ints)

pub difference_fits : (s t n : ℤ) → IsWithin (negsuc 999) s (pos 999) → IsWithin (negsuc 999) t (pos 999)
    → IsWithin (negsuc 1299) n (pos 1299)
    → FitsSigned w32 (to_z w32 (of_z w32 (to_z w32 (of_z w32 s) +ℤ to_z w32 (of_z w32 t))) -ℤ to_z w32 (of_z w32 n))
difference_fits s t n f g h = omega (arith, ints)

pub difference_is : (s t n : ℤ) → IsWithin (negsuc 999) s (pos 999) → IsWithin (negsuc 999) t (pos 999)
    → IsWithin (negsuc 1299) n (pos 1299)
    → to_z w32 (of_z w32 (to_z w32 (of_z w32 (to_z w32 (of_z w32 s) +ℤ to_z w32 (of_z w32 t))) -ℤ to_z w32 (of_z w32 n)))
    ≡ (s +ℤ t) -ℤ n
difference_is s t n f g h = omega (arith, ints)

-- The note that is away is n steps and m semitones away.
pub below_seven : (z : ℤ) → (natural_at z).step < 7
below_seven = grind (arith, nat_tests)

pub numbered : (z : ℤ) → step_number (natural_at z) ≡ z
numbered = grind (arith, nat_tests)

pub as_wide : (m : ℤ) (p q : Spelled) → q.alteration ≡ pos 0
    → semitones (record q { alteration = (semitones p +ℤ m) -ℤ semitones q }) ≡ semitones p +ℤ m
as_wide m p q e = omega (arith, ints)

pub away_is : (n m : ℤ) (p : Spelled) → IsAway n m p (away n m p)
away_is n m p = record {
  step = below_seven (step_number p +ℤ n);
  steps = numbered (step_number p +ℤ n);
  width = as_wide m p (natural_at (step_number p +ℤ n)) refl;
}

pub same_note : (p q : Spelled) → p.step ≡ q.step → p.octave ≡ q.octave → p.alteration ≡ q.alteration → p ≡ q
same_note = grind (arith, nat_tests)

-- No other note is.
pub away_only : (n m : ℤ) (p q : Spelled) → IsAway n m p q → q ≡ away n m p
away_only n m p q h =
    let same_octave : q.octave ≡ (away n m p).octave = octave_of q.step q.octave _ h.step h.steps in
    let same_step : q.step ≡ (away n m p).step = step_of q.step q.octave _ h.step h.steps in
    let same_alteration : q.alteration ≡ (away n m p).alteration =
    altered n m q.alteration (semitones q -ℤ q.alteration) p q.step q.octave h.step h.steps
    (omega (arith, ints)) (omega (arith, ints, h.width)) in
    same_note q (away n m p) same_step same_octave same_alteration

pub less_is : (x y a b : ℤ) → IsWithin (negsuc 999) x (pos 999) → IsWithin (negsuc 999) y (pos 999) → x ≡ a → y ≡ b
    → to_z w32 (of_z w32 (to_z w32 (of_z w32 x) -ℤ to_z w32 (of_z w32 y))) ≡ a -ℤ b
less_is x y a b f g d e = omega (arith, ints)

pub added_back : (d a b : ℤ) → d ≡ b -ℤ a → b ≡ a +ℤ d
added_back d a b e = omega (arith, ints)

-- Pitches as numbers: their steps, their semitones, and the pitch that is so many of both away.
use Rattle.std.specs.Prelude.{◌≡◌, ◌<◌, ◌⊎◌, ℕ, ℤ, pos, negsuc, ◌+ℤ◌, ◌-ℤ◌}
use Rattle.std.specs.Prelude.{◌*ℤ◌, ◌≤ℤ◌}
use Rattle.std.specs.Prelude.{◌<ℤ◌, List, [], ◌∷◌, slice_index, unsigned_abs}
use Rattle.std.specs.Int.{int_div_euclid, int_rem_euclid}

-- A note by its spelling: one of the steps c d e f g a b, counted from 0; the octave, where that of
-- middle c is 4; and the alteration in semitones, up by sharps and down by flats.
pub record Spelled : Type 0 where
  pub step : ℕ
  pub octave : ℤ
  pub alteration : ℤ

abbrev pub IsWithin : ℤ → ℤ → ℤ → Type 0
IsWithin low z high = (low ≤ℤ z) × (z ≤ℤ high)

abbrev pub IsOutside : ℤ → ℤ → ℤ → Type 0
IsOutside low z high = (z <ℤ low) ⊎ (high <ℤ z)

-- What can be spelled: octaves from -4 to 11, and at most seven sharps or flats.
abbrev pub IsOctave : ℤ → Type 0
IsOctave octave = IsWithin (negsuc 3) octave (pos 11)

abbrev pub IsAlteration : ℤ → Type 0
IsAlteration alteration = IsWithin (negsuc 6) alteration (pos 7)

abbrev pub IsPitch : ℕ → ℤ → ℤ → Type 0
IsPitch step octave alteration = (step < 7) × IsOctave octave × IsAlteration alteration

-- The semitones from c up to each step above it.
abbrev pub naturals : List ℕ
naturals = 0 ∷ 2 ∷ 4 ∷ 5 ∷ 7 ∷ 9 ∷ 11 ∷ []

unfoldable pub natural : ℕ → ℕ
natural step = slice_index naturals step

-- Seven steps to the octave.
abbrev pub step_number : Spelled → ℤ
step_number p = (pos 7 *ℤ p.octave) +ℤ pos p.step

-- The semitones above middle c: twelve to the octave.
abbrev pub semitones : Spelled → ℤ
semitones p = ((pos 12 *ℤ (p.octave -ℤ pos 4)) +ℤ pos (natural p.step)) +ℤ p.alteration

-- The note at q is n steps and m semitones above the one at p (below it, where they are negative).
pub record IsAway (n m : ℤ) (p q : Spelled) : Type 0 where
  pub step : q.step < 7
  pub steps : step_number q ≡ step_number p +ℤ n
  pub width : semitones q ≡ semitones p +ℤ m

-- The natural note of a step number.
abbrev pub natural_at : ℤ → Spelled
natural_at number = record {
  step = unsigned_abs (int_rem_euclid number (pos 7));
  octave = int_div_euclid number (pos 7);
  alteration = pos 0;
}

-- The one note that is n steps and m semitones away: the natural note n steps away, altered by what
-- is wanting in semitones.
abbrev pub away : ℤ → ℤ → Spelled → Spelled
away n m p =
    let there = natural_at (step_number p +ℤ n) in
    record there { alteration = (semitones p +ℤ m) -ℤ semitones there }

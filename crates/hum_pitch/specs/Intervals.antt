-- Intervals between pitches, and their names.
use Rattle.std.specs.Prelude.{◌==◌, ◌||◌, ◌+◌, ◌*◌, ◌/◌, ◌%◌, ◌≤◌, ℕ, ℤ, pos}
use Rattle.std.specs.Prelude.{negsuc, neg_ℤ, ◌-ℤ◌, Bool, cond}
use Rattle.std.specs.Prelude.{List, [], ◌++◌, replicate, codes, unsigned_abs}
use Rattle.std.specs.Fmt.{decimal}
use Prim.Native.Nat.{zero, suc}
use Rattle.hum_pitch.specs.Pitch.{natural}
use Rattle.hum_pitch.specs.declared.intervals.Direction.{Direction}
use Rattle.hum_pitch.specs.declared.intervals.Direction.TheVariants.{Up, Down, Level}
use Rattle.hum_pitch.specs.declared.intervals.Quality.{Quality}
use Rattle.hum_pitch.specs.declared.intervals.Quality.TheVariants.{Perfect, Major, Minor}
use Rattle.hum_pitch.specs.declared.intervals.Quality.TheVariants.{Augmented, Diminished}

-- Up or down by the steps; where there are none, by the semitones.
abbrev pub direction : ℤ → ℤ → Direction
direction (pos (suc _)) s = Up
direction (negsuc _) s = Down
direction (pos zero) (pos (suc _)) = Up
direction (pos zero) (negsuc _) = Down
direction (pos zero) (pos zero) = Level

-- The semitones of the interval as it is named, upwards.
abbrev pub upwards : ℤ → ℤ → ℤ
upwards (pos (suc _)) s = s
upwards (negsuc _) s = neg_ℤ s
upwards (pos zero) s = pos (unsigned_abs s)

-- The semitones of a perfect or major interval of so many steps.
abbrev pub natural_width : ℕ → ℕ
natural_width steps = natural (steps % 7) + 12 * (steps / 7)

-- By how many semitones the interval is wider than the perfect or major one.
abbrev pub excess : ℤ → ℤ → ℤ
excess d s = upwards d s -ℤ pos (natural_width (unsigned_abs d))

-- Unisons, fourths and fifths, with any octaves added, can be perfect; others are major or minor.
abbrev pub can_be_perfect : ℕ → Bool
can_be_perfect steps = (steps % 7 == 0) || ((steps % 7 == 3) || (steps % 7 == 4))

abbrev pub of_perfect : ℤ → Quality
of_perfect (pos zero) = Perfect
of_perfect (pos (suc more)) = Augmented (suc more)
of_perfect (negsuc less) = Diminished (suc less)

abbrev pub of_major : ℤ → Quality
of_major (pos zero) = Major
of_major (pos (suc more)) = Augmented (suc more)
of_major (negsuc zero) = Minor
of_major (negsuc (suc less)) = Diminished (suc less)

abbrev pub quality : ℤ → ℤ → Quality
quality d s =
    cond (can_be_perfect (unsigned_abs d)) (of_perfect (excess d s)) (of_major (excess d s))

abbrev pub sign : Direction → List ℕ
sign Up = codes "+"
sign Down = codes "-"
sign Level = []

-- Augmented and diminished intervals bear a letter for each semitone.
abbrev pub quality_letters : Quality → List ℕ
quality_letters Perfect = codes "P"
quality_letters Major = codes "M"
quality_letters Minor = codes "m"
quality_letters (Augmented more) = replicate more 65
quality_letters (Diminished less) = replicate less 100

-- as between any two pitches
abbrev pub IsModest : Quality → Type 0
IsModest (Augmented more) = more ≤ 400
IsModest (Diminished less) = less ≤ 400
IsModest _ = Unit {0}

-- The size counts the steps with both ends.
abbrev pub size : ℤ → ℕ
size d = unsigned_abs d + 1

abbrev pub named : Bool → Bool → ℤ → ℤ → List ℕ
named signless sizeonly d s =
    (cond signless [] (sign (direction d s))
    ++ cond sizeonly [] (quality_letters (quality d s)))
    ++ decimal (size d)

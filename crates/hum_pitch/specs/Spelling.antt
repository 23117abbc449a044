-- How a pitch is written in kern, and how what is written is read.
use Rattle.std.specs.Prelude.{◌==◌, ℕ, ℤ, pos, negsuc, neg_ℤ, ◌+ℤ◌, ◌-ℤ◌, cond, List, []}
use Rattle.std.specs.Prelude.{◌∷◌, ◌++◌, Option, None, Some}
use Rattle.std.specs.Prelude.{length, drop, replicate, position, slice_index, codes}
use Prim.Native.Nat.{suc}
use Rattle.hum_pitch.specs.Pitch.{Spelled}

abbrev pub small_letters : List ℕ
small_letters = codes "cdefgab"

abbrev pub capitals : List ℕ
capitals = codes "CDEFGAB"

-- The letter of a step by the octaves above that of middle c, or below it: in that octave one small
-- letter, and one more for each octave above; in the octave below it one capital, and one more for
-- each octave further down.
abbrev pub letters : ℕ → ℤ → List ℕ
letters step (pos above) = replicate (suc above) (slice_index small_letters step)
letters step (negsuc below) = replicate (suc below) (slice_index capitals step)

-- A sharp for each semitone up, a flat for each one down.
abbrev pub accidentals : ℤ → List ℕ
accidentals (pos up) = replicate up 35
accidentals (negsuc down) = replicate (suc down) 45

abbrev pub letters_of : Spelled → List ℕ
letters_of p = letters p.step (p.octave -ℤ pos 4)

abbrev pub spelling : Spelled → List ℕ
spelling p = letters_of p ++ accidentals p.alteration

-- How often a byte stands at a text's beginning.
unfoldable pub run : ℕ → List ℕ → ℕ
run byte [] = 0
run byte (x ∷ xs) = cond (x == byte) (suc (run byte xs)) 0

abbrev pub natural_note : ℕ → ℤ → Spelled
natural_note step octave = record { step = step; octave = octave; alteration = pos 0 }

abbrev pub read_capitals : ℕ → Option ℕ → Option Spelled
read_capitals count (Some step) = Some (natural_note step (pos 4 -ℤ pos count))
read_capitals count None = None

abbrev pub read_small : ℕ → ℕ → Option ℕ → Option Spelled
read_small letter count (Some step) = Some (natural_note step (pos 3 +ℤ pos count))
read_small letter count None = read_capitals count (position (λ x. x == letter) capitals)

-- A number of one letter is a natural note: k small letters stand in octave 3 + k, k capitals in
-- octave 4 - k.
abbrev pub read_letters : ℕ → ℕ → Option Spelled
read_letters letter count = read_small letter count (position (λ x. x == letter) small_letters)

-- Sharps alone raise, flats alone lower, by a semitone each.
unfoldable pub read_accidentals : List ℕ → Option ℤ
read_accidentals text =
    cond (run 35 text == length text) (Some (pos (length text)))
    (cond (run 45 text == length text) (Some (neg_ℤ (pos (length text)))) None)

abbrev pub altered_by : Option Spelled → Option ℤ → Option Spelled
altered_by (Some note) (Some alteration) = Some (record note { alteration = alteration })
altered_by (Some note) None = None
altered_by None _ = None

-- A text is read as a pitch by the longest run of its first byte and the accidentals after it.
abbrev pub read_pitch : List ℕ → Option Spelled
read_pitch [] = None
read_pitch (x ∷ xs) =
    let count = run x (x ∷ xs) in
    altered_by (read_letters x count) (read_accidentals (drop count (x ∷ xs)))

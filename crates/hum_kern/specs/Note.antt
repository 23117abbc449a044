-- What a subtoken says of its pitch, and which marks it bears.
use Rattle.std.specs.Prelude.{ℕ, ◌+◌, ◌==◌, nat_lt, Bool, true, ◌||◌, not, ℤ, pos, neg_ℤ}
use Rattle.std.specs.Prelude.{List, [], ◌∷◌, length, Option, None, Some, option_map, Result, Ok, Err}
use Rattle.std.specs.Prelude.{if◌then◌else◌}
use Rattle.std.specs.List.{list_any, list_all}
use Rattle.hum_pitch.specs.Pitch.{Spelled}
use Rattle.hum_pitch.specs.Given.{spelled}
use Rattle.hum_pitch.specs.Spelling.{read_letters, altered_by}
use Rattle.hum_kern.specs.declared.KernFault.{KernFault}
use Rattle.hum_kern.specs.declared.KernFault.TheVariants.{K1, K2}
use Rattle.hum_kern.specs.declared.notes.Note.{Note}
use Rattle.hum_kern.specs.declared.runs.Class.TheVariants.{NoLetter, Repeat, Sign}
use Rattle.hum_kern.specs.Runs.{front, behind}
use Rattle.hum_kern.specs.Classes.{is_in, is_letter}
use Rattle.hum_kern.specs.Classes.{is_rest_sign, is_grace_sign, is_continued_sign}
use Rattle.hum_kern.specs.Duration.{is_empty}

-- The parts of a subtoken, each a maximal run.
pub record Notation : Type 0 where
  -- what stands before the first pitch letter
  pub before : List ℕ
  -- that letter, as often as it is repeated
  pub letters : List ℕ
  -- the signs of accidentals directly behind
  pub signs : List ℕ
  -- what is left
  pub left : List ℕ

-- the byte at the front, as often as it is repeated
abbrev pub repeated : List ℕ → List ℕ
repeated [] = []
repeated (b ∷ bytes) = b ∷ front (is_in (Repeat b)) bytes

abbrev pub behind_repeated : List ℕ → List ℕ
behind_repeated [] = []
behind_repeated (b ∷ bytes) = behind (is_in (Repeat b)) bytes

-- the parts, from the first pitch letter
abbrev pub notation : List ℕ → List ℕ → Notation
notation before rest = record {
  before = before;
  letters = repeated rest;
  signs = front (is_in Sign) (behind_repeated rest);
  left = behind (is_in Sign) (behind_repeated rest);
}

abbrev pub notation_of : List ℕ → Notation
notation_of bytes = notation (front (is_in NoLetter) bytes) (behind (is_in NoLetter) bytes)

-- whether all bytes are the same
abbrev pub is_uniform : List ℕ → Bool
is_uniform [] = true
is_uniform (b ∷ bytes) = list_all (λ x. x == b) bytes

-- Each # raises by a semitone, each - lowers by one, n leaves the natural note.
abbrev pub alteration_of : List ℕ → ℤ
alteration_of [] = pos 0
alteration_of (b ∷ signs) =
    if b == 35 then pos (length (b ∷ signs))
    else if b == 45 then neg_ℤ (pos (length (b ∷ signs)))
    else pos 0

-- the pitch of one repeated letter with such signs
abbrev pub pitch_of : List ℕ → List ℕ → Option Spelled
pitch_of [] signs = None
pitch_of (b ∷ letters) signs =
    altered_by (read_letters b (length (b ∷ letters))) (Some (alteration_of signs))

-- a second run of pitch letters, or different signs
abbrev pub is_doubtful : Notation → Bool
is_doubtful parts = list_any is_letter parts.left || not (is_uniform parts.signs)

-- more letters or signs than a pitch may have
abbrev pub is_excessive : Notation → Bool
is_excessive parts = nat_lt 8 (length parts.letters) || nat_lt 7 (length parts.signs)

-- What is read of a subtoken: its pitch by its spelling, where that stands, and its marks.
pub record Reading : Type 0 where
  pub pitch : Option Spelled
  pub start : ℕ
  pub end : ℕ
  pub rest : Bool
  pub grace : Bool
  pub continued : Bool

abbrev pub is_rest : List ℕ → Bool
is_rest bytes = list_any is_rest_sign bytes

-- the marks of a subtoken
abbrev pub marks_of : List ℕ → Reading
marks_of bytes = record {
  pitch = None;
  start = 0;
  end = 0;
  rest = is_rest bytes;
  grace = list_any is_grace_sign bytes;
  continued = list_any is_continued_sign bytes;
}

-- a pitch beside marks
abbrev pub with_pitch : Reading → Option Spelled → ℕ → ℕ → Reading
with_pitch marks pitch start end = record marks { pitch = pitch; start = start; end = end }

-- What the parts say, with such marks. Without letters there is no pitch.
abbrev pub pitched : Reading → Notation → Result Reading KernFault
pitched marks parts =
    if is_empty parts.letters then Ok marks
    else if is_doubtful parts then Err K1
    else if is_excessive parts then Err K2
    else Ok (with_pitch marks (pitch_of parts.letters parts.signs)
    (length parts.before) (length parts.before + length parts.letters + length parts.signs))

-- What a subtoken says, by its parts. A rest has no pitch.
abbrev pub note_by : List ℕ → Notation → Result Reading KernFault
note_by bytes parts =
    if is_rest bytes then Ok (marks_of bytes) else pitched (marks_of bytes) parts

-- What a subtoken says, or K1 or K2.
abbrev pub note : List ℕ → Result Reading KernFault
note bytes = note_by bytes (notation_of bytes)

-- what a note was read as
abbrev pub reading : Note → Reading
reading found = record {
  pitch = option_map spelled found.pitch;
  start = found.start;
  end = found.end;
  rest = found.rest;
  grace = found.grace;
  continued = found.continued;
}

abbrev pub reading_in : Result Note KernFault → Result Reading KernFault
reading_in (Ok found) = Ok (reading found)
reading_in (Err fault) = Err fault

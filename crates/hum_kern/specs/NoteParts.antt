-- The parts of a subtoken round its pitch as maximal runs, and what it says by them.
use Rattle.std.specs.Prelude.{◌≡◌, ℕ, ◌+◌, ◌-◌, false, List, [], ◌∷◌, ◌++◌, length}
use Rattle.std.specs.Prelude.{take, drop}
use Rattle.std.specs.Prelude.{Some, Result, Ok, IfSome}
use Rattle.std.specs.List.{list_any}
use Rattle.hum_pitch.specs.Given.{spelled}
use Rattle.hum_pitch.specs.Spelling.{spelling, read_pitch}
use Rattle.hum_pitch.specs.declared.pitch.Pitch.{Pitch}
use Rattle.hum_kern.specs.declared.KernFault.{KernFault}
use Rattle.hum_kern.specs.declared.notes.Note.{Note}
use Rattle.hum_kern.specs.declared.runs.Class.TheVariants.{NoLetter, Repeat, Sign}
use Rattle.hum_kern.specs.Classes.{is_natural_sign}
use Rattle.hum_kern.specs.Parts.{IsMaximal}
use Rattle.hum_kern.specs.Note.{Notation, Reading, note_by, note, reading}

-- One letter, as often as it is repeated; where there is none, nothing stands behind.
abbrev pub IsRepeated : List ℕ → List ℕ → Type 0
IsRepeated [] rest = rest ≡ []
IsRepeated (b ∷ bytes) rest = IsMaximal (Repeat b) bytes rest

-- The parts are those of a text: one after another they are the text, and each is a maximal run.
pub record AreNoteParts (bytes : List ℕ) (parts : Notation) : Type 0 where
  pub text : bytes ≡ parts.before ++ (parts.letters ++ (parts.signs ++ parts.left))
  pub before : IsMaximal NoLetter parts.before (parts.letters ++ (parts.signs ++ parts.left))
  pub letters : IsRepeated parts.letters (parts.signs ++ parts.left)
  pub signs : IsMaximal Sign parts.signs parts.left

-- What a text says of its pitch: it has parts that say it.
abbrev pub SaysNote : List ℕ → Result Reading KernFault → Type 0
SaysNote bytes read = (parts : Notation) × AreNoteParts bytes parts × (read ≡ note_by bytes parts)

-- the bytes from one place to another
abbrev pub between : ℕ → ℕ → List ℕ → List ℕ
between start end bytes = take (end - start) (drop start bytes)

-- Where a pitch was read it stands within the text, and without signs of naturals what stands there
-- is read as that pitch alone.
abbrev pub IsRead : List ℕ → Note → Type 0
IsRead bytes found = IfSome found.pitch (λ pitch.
    list_any is_natural_sign (between found.start found.end bytes) ≡ false
    → read_pitch (between found.start found.end bytes) ≡ Some (spelled pitch))

-- a text with a pitch in the place of the one that was read
abbrev pub replaced : List ℕ → Note → Pitch → List ℕ
replaced bytes found pitch =
    take found.start bytes ++ (spelling (spelled pitch) ++ drop found.end bytes)

-- Any pitch that is written in the place of one that was read is read there, and nothing else
-- changes.
abbrev pub CanBeReplaced : List ℕ → Note → Type 0
CanBeReplaced bytes found = IfSome found.pitch (λ _. (pitch : Pitch)
    → note (replaced bytes found pitch) ≡ Ok (record (reading found) {
      pitch = Some (spelled pitch);
      end = found.start + length (spelling (spelled pitch));
    }))

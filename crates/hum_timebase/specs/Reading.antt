-- What is read of a data record.
use Rattle.std.specs.Prelude.{◌≡◌, ℕ, ◌==◌, Bool, true, false, not, List, [], ◌∷◌}
use Rattle.std.specs.Prelude.{Option, None, Some, Result, Ok, Err, if◌then◌else◌}
use Rattle.std.specs.List.{list_any}
use Rattle.hum_frac.specs.Ratio.{Ratio}
use Rattle.hum_kern.specs.declared.KernFault.{KernFault}
use Rattle.hum_timebase.specs.declared.notes.Content.{Content}
use Rattle.hum_timebase.specs.declared.notes.NoteAt.{NoteAt}
use Rattle.hum_timebase.specs.declared.notes.Content.TheVariants.{Nulls, Barlines, Sounds}
use Rattle.hum_record.specs.Contents.{is_barline}
use Rattle.hum_timebase.specs.Notes.{is_sounding, subtokens, note_of, notes_of, is_misread, has_misread}
use Rattle.hum_timebase.specs.Placed.{placed}

abbrev pub content_of : List (List ℕ) → Content
content_of tokens =
    if list_any is_sounding tokens then Sounds
    else if list_any is_barline tokens then Barlines
    else Nulls

-- any byte but a space
abbrev pub is_part : ℕ → Bool
is_part b = not (b == 32)

-- the subtokens behind one
abbrev pub rest_parts : List ℕ → List (List ℕ)
rest_parts [] = []
rest_parts (space ∷ bytes) = subtokens bytes

-- a token's note has this duration, and all of the token was read
abbrev pub IsNote : Bool → List ℕ → Ratio → Type 0
IsNote timed token lasting =
    (note_of timed token ≡ Some lasting) × (is_misread timed token ≡ false)

-- this was read, and nothing was refused; or something was
abbrev pub Reads : Option Ratio → Bool → Result (Option Ratio) KernFault → Type 0
Reads value refused (Ok found) = (found ≡ value) × (refused ≡ false)
Reads value refused (Err fault) = refused ≡ true

-- all durations were read, and these are the notes; or one was refused
abbrev pub Read : List Bool → List (List ℕ) → List NoteAt → Option KernFault → Type 0
Read timed tokens notes None =
    (has_misread timed tokens ≡ false) × (notes ≡ placed 0 (notes_of timed tokens))
Read timed tokens notes (Some fault) = has_misread timed tokens ≡ true

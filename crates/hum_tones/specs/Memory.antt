-- What is remembered of a column's notes.
use Rattle.std.specs.Prelude.{ℕ, Bool, false, not, ◌&&◌, List, Option, None, Some, Result, Ok, Err}
use Rattle.std.specs.Prelude.{if◌then◌else◌}
use Rattle.hum_record.specs.Contents.{is_filled, is_barline}
use Rattle.hum_score.specs.Sign.{sign_of, is_exclusive}
use Rattle.hum_pitch.specs.Pitch.{Spelled}
use Rattle.hum_stage.specs.declared.faults.Rule.{Rule}
use Rattle.hum_tones.specs.Mint.{TokenTone, readings, remembered_of, is_break, told}
use Rattle.hum_choices.specs.declared.mint.MintOptions.{MintOptions}
use Rattle.hum_tones.specs.Hearing.{heard_in}

abbrev pub or_before : Option Spelled → Option Spelled → Option Spelled
or_before (Some pitch) before = Some pitch
or_before None before = before

-- The note before the next token, after one cell more.
abbrev pub note_after : Option (List ℕ) → List ℕ → Option Spelled → Option Spelled
note_after breaks token before =
    if is_exclusive (sign_of token) then None
    else if is_break breaks token then None
    else or_before (remembered_of token) before

abbrev pub silence : TokenTone
silence = record { tone = None; rest = false }

-- What is heard of a cell: nothing of a barline, nor of what is no data.
abbrev pub heard_of : List ℕ → Result TokenTone Rule
heard_of token =
    if is_filled token && not (is_barline token) then heard_in (readings token) else Ok silence

-- What a token becomes by the note before it and what was heard of it.
abbrev pub told_as : Bool → Bool → Option Spelled → Result TokenTone Rule → Result (List ℕ) Rule
told_as signless sizeonly before (Ok heard) =
    Ok (told signless sizeonly before heard.tone heard.rest)
told_as signless sizeonly before (Err rule) = Err rule

-- A column by its cells: what the last that is told becomes, and the note before the next cell.
pub record HeardColumn : Type 0 where
  pub told : Result (List ℕ) Rule
  pub note : Option Spelled

abbrev pub unheard : HeardColumn
unheard = record { told = told_as false false None (Ok silence); note = None }

-- the same after one cell more
abbrev pub heard_after : MintOptions → List ℕ → HeardColumn → HeardColumn
heard_after options token column = record {
  told = if is_filled token && not (is_barline token)
      then told_as options.signless options.sizeonly column.note (heard_of token)
      else column.told;
  note = note_after options.breaks token column.note;
}

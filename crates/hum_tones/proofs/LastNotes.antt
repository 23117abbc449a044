-- What is remembered of a column is the note before.
use Rattle.std.proofs.Common.{◌≡◌, ◌∙◌, refl, ap, ℕ, Bool, true, false, List, [], ◌∷◌, Option, None, Some, arith}
use Rattle.std.specs.Prelude.{if◌then◌else◌, ◌||◌, ◌&&◌, not, Result, Ok}
use Rattle.std.specs.List.{find}
use Rattle.std.proofs.lemmas.Bool.Decides.{nat_tests}
use Rattle.hum_score.specs.Sign.{sign_of, is_exclusive}
use Rattle.hum_path.specs.Memories.{remembered}
use Rattle.hum_pattern.specs.Meaning.{matched_by}
use Rattle.hum_pitch.specs.Pitch.{Spelled}
use Rattle.hum_record.specs.Contents.{is_filled, is_data, is_null, is_barline}
use Rattle.hum_kern.specs.Note.{Reading}
use Rattle.hum_stage.specs.declared.faults.Rule.{Rule}
use Rattle.hum_tones.specs.Hearing.{heard_in}
use Rattle.hum_tones.specs.Mint.{is_break, is_some, settles, settled, note_before, remembered_of, readings, new_pitch, pitch_in, TokenTone}
use Rattle.hum_choices.specs.declared.mint.MintOptions.{MintOptions}
use Rattle.hum_tones.specs.Memory.{note_after, or_before, unheard, heard_after, HeardColumn, silence, told_as}

-- an exclusive interpretation is no data
exclusive_no_data : (token : List ℕ) → is_exclusive (sign_of token) ≡ true → is_data token ≡ false
exclusive_no_data = grind (arith, nat_tests)

exclusive_not_filled : (token : List ℕ) → is_exclusive (sign_of token) ≡ true → is_filled token ≡ false
exclusive_not_filled token h = rw (exclusive_no_data token h) refl

-- nor is data one
data_not_exclusive : (token : List ℕ) → is_data token ≡ true → is_exclusive (sign_of token) ≡ false
data_not_exclusive = grind (arith, nat_tests)

abbrev cell : Result (List ℕ) Rule → Option Spelled → HeardColumn
cell told note = record { told = told; note = note }

-- what is heard of data that is neither null nor a barline, and the note behind it
pub note_heard : (options : MintOptions) (token : List ℕ) (heard : TokenTone) → options.breaks ≡ None → is_data token ≡ true
    → (is_null token || is_barline token) ≡ false → Ok heard ≡ heard_in (readings token) → (column : HeardColumn)
    → heard_after options token column
    ≡ cell (told_as options.signless options.sizeonly column.note (Ok heard)) (or_before (new_pitch heard.tone) column.note)
note_heard options token heard whole filled is read column =
    rw (whole, data_not_exclusive token filled, filled) (go (is_null token) (is_barline token) is (readings token) read)
  where
    go : (n b : Bool) → (n || b) ≡ false → (r : Result (List Reading) Rule) → Ok heard ≡ heard_in r
        → cell (if not n && not b then told_as options.signless options.sizeonly column.note (if not n && not b then heard_in r else Ok silence) else column.told)
        (or_before (if not n && not b then pitch_in r else None) column.note)
        ≡ cell (told_as options.signless options.sizeonly column.note (Ok heard)) (or_before (new_pitch heard.tone) column.note)
    go = grind (arith, nat_tests)

-- and nothing of data that is null or a barline
pub nothing_heard : (options : MintOptions) (token : List ℕ) → options.breaks ≡ None → is_data token ≡ true
    → (is_null token || is_barline token) ≡ true → (column : HeardColumn) → heard_after options token column ≡ column
nothing_heard = grind (arith, nat_tests)

-- of data that isn't null it is the match alone that tells
pub break_of : (breaks : Option (List ℕ)) (token : List ℕ) → is_filled token ≡ true → matched_by breaks token ≡ is_break breaks token
break_of = grind (arith, nat_tests)

-- one cell more, by what it is
one_more : (breaks : Option (List ℕ)) (token : List ℕ) (before : Option Spelled) (rest : List (List ℕ)) →
    (e : Bool) → (e ≡ true → is_filled token ≡ false) → before ≡ settled breaks (find (settles breaks) rest)
    → (b : Bool) → is_break breaks token ≡ b → (r : Option Spelled) → remembered_of token ≡ r
    → (if e then None else if b then None else or_before r before)
    ≡ settled breaks (if b || is_some r then Some token else find (settles breaks) (if e then [] else rest))
one_more = grind (arith, nat_tests)

remembers_note : (breaks : Option (List ℕ)) (above : List (List ℕ)) → remembered (note_after breaks) None above ≡ note_before breaks above
remembers_note breaks [] = refl
remembers_note breaks (token ∷ above) =
    grind (arith, nat_tests, remembers_note breaks above, one_more, exclusive_not_filled)

-- so it is where what is told is kept beside it
pub note_kept : (options : MintOptions) (above : List (List ℕ)) → (remembered (heard_after options) unheard above).note ≡ note_before options.breaks above
note_kept options above = same above ∙ remembers_note options.breaks above
  where
    same : (above : List (List ℕ)) → (remembered (heard_after options) unheard above).note ≡ remembered (note_after options.breaks) None above
    same [] = refl
    same (token ∷ above) = ap (note_after options.breaks token) (same above)

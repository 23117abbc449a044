-- What is held of a record that waits.
use Rattle.std.specs.Prelude.{◌≡◌, ◌≢◌}
use Rattle.hum_score.specs.declared.records.Kind.TheVariants.{Interpretation as AnyInterpretation}
use Rattle.hum_score.specs.Row.{Row, kind_of, text_of}
use Rattle.hum_record.specs.Nulls.{null_row}
use Rattle.hum_score.specs.Spelling.{IsTextOf}
use Rattle.hum_context.specs.declared.held.HeldForm.{HeldForm}
use Rattle.hum_context.specs.declared.held.HeldForm.TheVariants.{Whole, Interpretation, Nulls}

-- the record that is held
abbrev pub held_row : HeldForm → Row
held_row (Whole row) = row
held_row (Interpretation row) = row
held_row (Nulls width) = null_row width

-- which of them is an interpretation is known, and null tokens that are counted were those of a record
abbrev pub MayHold : HeldForm → Type 0
MayHold (Whole row) = kind_of row ≢ AnyInterpretation
MayHold (Interpretation row) = kind_of row ≡ AnyInterpretation
MayHold (Nulls width) = IsTextOf (null_row width) (text_of (null_row width))

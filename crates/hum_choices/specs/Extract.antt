-- Which opening spines are chosen, as values.
use Rattle.std.specs.Prelude.{ℕ, List, map}
use Rattle.hum_score.specs.Texts.{texts}
use Rattle.hum_choices.specs.declared.extract.Field.{Field as WrittenField}
use Rattle.hum_choices.specs.declared.extract.Field.TheVariants.{Number as WrittenNumber}
use Rattle.hum_choices.specs.declared.extract.Field.TheVariants.{Last as WrittenLast}
use Rattle.hum_choices.specs.declared.extract.FieldRange.{FieldRange}
use Rattle.hum_choices.specs.declared.extract.ExtractOptions.{ExtractOptions}
use Rattle.hum_choices.specs.declared.extract.ExtractOptions.TheVariants.{Fields as WrittenFields}
use Rattle.hum_choices.specs.declared.extract.ExtractOptions.TheVariants.{Names as WrittenNames}

-- a field by its number, from 1, or the last one: `$`
pub data Field : Type 0 where
  Number : ℕ → Field
  Last : Field

-- the fields from one to another
pub record Range : Type 0 where
  pub first : Field
  pub last : Field

-- opening spines by their fields, or by their exclusive interpretations
pub data Choice : Type 0 where
  Fields : List Range → Choice
  Names : List (List ℕ) → Choice

-- what options say, wherever their lists lie
abbrev pub field_of : WrittenField → Field
field_of (WrittenNumber n) = Number n
field_of WrittenLast = Last

abbrev pub range_of : FieldRange → Range
range_of range = record { first = field_of range.first; last = field_of range.last }

abbrev pub choice_of : ExtractOptions → Choice
choice_of (WrittenFields ranges) = Fields (map range_of ranges.items)
choice_of (WrittenNames names) = Names (texts names.items)

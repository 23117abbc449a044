-- The values of options.
use Rattle.std.specs.Prelude.{ℕ, ℤ, List, Option, Some}
use Rattle.std.specs.Option.{option_map}
use Rattle.hum_frac.specs.Ratio.{Ratio}
use Rattle.hum_pattern.specs.Meaning.{IsExpression, IsNone}
use Rattle.hum_choices.specs.declared.extract.FieldRange.{FieldRange}
use Rattle.hum_choices.specs.Cleave.{fits_in_token}
use Rattle.hum_choices.specs.declared.yank.YankRange.{YankRange}
use Rattle.hum_choices.specs.Timebase.{Pace}
use Rattle.hum_options.specs.Items.{items_of}
use Rattle.hum_options.specs.Fields.{fields_of, count_of}
use Rattle.hum_options.specs.Names.{name_of, is_label, text_if}
use Rattle.hum_options.specs.Passages.{passages_of}
use Rattle.hum_options.specs.Numbers.{signed_of}
use Rattle.hum_options.specs.Steps.{step_of}
use Rattle.hum_options.specs.declared.options.ValueKind.{ValueKind}
use Rattle.hum_options.specs.declared.options.ValueKind.TheVariants as kind
use Rattle.hum_options.specs.declared.faults.PatternRefusal.{PatternRefusal}
use Rattle.hum_options.specs.declared.faults.PatternRefusal.TheVariants.{NoExpression, TooLarge}

-- An option that stands alone has nothing as its value. P is what a pattern is.
pub data ValueOf (P : Type 0) : Type 0 where
  Nothing : ValueOf P
  Fields : List FieldRange → ValueOf P
  Names : List (List ℕ) → ValueOf P
  Name : List ℕ → ValueOf P
  Text : List ℕ → ValueOf P
  Ranges : List YankRange → ValueOf P
  Label : List ℕ → ValueOf P
  Pattern : P → ValueOf P
  Count : ℕ → ValueOf P
  Steps : ℤ → ValueOf P
  Semitones : ℤ → ValueOf P
  Duration : Pace → ValueOf P

-- a pattern is its text
abbrev pub Value : Type 0
Value = ValueOf (List ℕ)

-- a step with its text
abbrev pub paced : List ℕ → Ratio → Pace
paced text step = record { step = step; text = text }

-- The value of a kind that a text is, if it is one. A text is a pattern where regex takes it.
abbrev pub value_of : ValueKind → List ℕ → Option Value
value_of kind.Alone text = Some Nothing
value_of kind.Fields text = option_map Fields (items_of fields_of text)
value_of kind.Names text = option_map Names (items_of name_of text)
value_of kind.Name text = option_map Name (name_of text)
value_of kind.Text text = option_map Text (text_if fits_in_token text)
value_of kind.Ranges text = option_map Ranges (items_of passages_of text)
value_of kind.Label text = option_map Label (text_if is_label text)
value_of kind.Pattern text = Some (Pattern text)
value_of kind.Count text = option_map Count (count_of text)
value_of kind.Steps text = option_map Steps (signed_of 49 text)
value_of kind.Semitones text = option_map Semitones (signed_of 84 text)
value_of kind.Duration text = option_map (λ step. Duration (paced text step)) (step_of text)

-- A pattern is a regular expression; any other value is what its kind asks.
abbrev pub IsSound : Value → Type 0
IsSound (Pattern text) = IsExpression text
IsSound _ = Unit {0}

-- a text is refused for this reason: there is no expression, or it is too large
abbrev pub IsRefused : PatternRefusal → List ℕ → Type 0
IsRefused NoExpression text = IsNone text
IsRefused TooLarge text = IsExpression text

-- The options that were given, and their values.
use Rattle.std.specs.Prelude.{◌≡◌, ℕ, ℤ, Bool, false, ◌==◌, if◌then◌else◌, List, [], ◌∷◌, Option, None, Some, is_some}
use Rattle.std.specs.Option.{option_and_then}
use Rattle.hum_choices.specs.Timebase.{Pace}
use Rattle.hum_choices.specs.declared.extract.FieldRange.{FieldRange}
use Rattle.hum_choices.specs.declared.yank.YankRange.{YankRange}
use Rattle.hum_options.specs.declared.options.ValueKind.{ValueKind}
use Rattle.hum_options.specs.declared.options.ValueKind.TheVariants as kind
use Rattle.hum_options.specs.Values.{ValueOf, Fields, Names, Name, Text, Ranges, Label}
use Rattle.hum_options.specs.Values.{Pattern, Count, Steps, Semitones, Duration}

-- an option that was given, by its letter, with its value
pub record GivenOf (P : Type 0) : Type 0 where
  pub letter : ℕ
  pub value : ValueOf P

-- one whose pattern is a text
abbrev pub Given : Type 0
Given = GivenOf (List ℕ)

-- a letter by its text
abbrev pub letter : List ℕ → ℕ
letter [] = 0
letter (b ∷ bs) = b

-- the value of the option of a letter, if it was given
abbrev pub value_at : {P : Type 0} → ℕ → List (GivenOf P) → Option (ValueOf P)
value_at b [] = None
value_at b (given ∷ more) = if given.letter == b then Some given.value else value_at b more

-- the options of other letters have the values that they had
abbrev pub AreKept : {P : Type 0} → ℕ → List (GivenOf P) → List (GivenOf P) → Type 0
AreKept b old new = (other : ℕ) → (b == other) ≡ false → value_at other new ≡ value_at other old

-- what a value of a kind is
abbrev pub Of : Type 0 → ValueKind → Type 0
Of P kind.Alone = Unit {0}
Of P kind.Fields = List FieldRange
Of P kind.Names = List (List ℕ)
Of P kind.Ranges = List YankRange
Of P kind.Count = ℕ
Of P kind.Steps = ℤ
Of P kind.Semitones = ℤ
Of P kind.Duration = Pace
Of P kind.Pattern = P
Of P _ = List ℕ

-- a value, if it is of that kind
abbrev pub as_kind : {P : Type 0} → (k : ValueKind) → ValueOf P → Option (Of P k)
as_kind kind.Fields (Fields ranges) = Some ranges
as_kind kind.Names (Names names) = Some names
as_kind kind.Name (Name text) = Some text
as_kind kind.Text (Text text) = Some text
as_kind kind.Ranges (Ranges ranges) = Some ranges
as_kind kind.Label (Label text) = Some text
as_kind kind.Pattern (Pattern text) = Some text
as_kind kind.Count (Count n) = Some n
as_kind kind.Steps (Steps n) = Some n
as_kind kind.Semitones (Semitones n) = Some n
as_kind kind.Duration (Duration pace) = Some pace
as_kind _ _ = None

-- the value of the option of a letter, if it was given and is of that kind
abbrev pub kind_at : {P : Type 0} → (k : ValueKind) → ℕ → List (GivenOf P) → Option (Of P k)
kind_at k b given = option_and_then (as_kind k) (value_at b given)

-- whether the option of a letter was given
abbrev pub has : {P : Type 0} → List ℕ → List (GivenOf P) → Bool
has text given = is_some (value_at (letter text) given)

-- its value of a kind, if it was given
abbrev pub get : {P : Type 0} → (k : ValueKind) → List ℕ → List (GivenOf P) → Option (Of P k)
get k text = kind_at k (letter text)

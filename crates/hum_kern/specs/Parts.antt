-- The parts of a subtoken as maximal runs, and what it says by them.
use Rattle.std.specs.Prelude.{◌≡◌, ℕ, true, false, List, [], ◌∷◌, ◌++◌}
use Rattle.std.specs.Prelude.{Option, None, Some, Result}
use Rattle.std.specs.List.{AllByRecursion}
use Rattle.hum_kern.specs.declared.KernFault.{KernFault}
use Rattle.hum_kern.specs.declared.Length.{Length}
use Rattle.hum_kern.specs.declared.runs.Class.{Class}
use Rattle.hum_kern.specs.declared.runs.Class.TheVariants.{Digit, Other, Dot}
use Rattle.hum_kern.specs.Runs.{starts_with}
use Rattle.hum_kern.specs.Classes.{is_in}
use Rattle.hum_kern.specs.Duration.{Spelling, said_of}

-- The byte at the front, if there is one, is of another class.
abbrev pub EndsBefore : Class → List ℕ → Type 0
EndsBefore class [] = Unit {0}
EndsBefore class (b ∷ bytes) = is_in class b ≡ false

-- Bytes of one class, and what stands directly behind them: no more of them could be taken.
pub record IsMaximal (class : Class) (run rest : List ℕ) : Type 0 where
  pub all_in : AllByRecursion (λ b. is_in class b ≡ true) run
  pub ends : EndsBefore class rest

-- a percent sign and the digits behind it, where there is one
abbrev pub quotient_text : Option (List ℕ) → List ℕ
quotient_text None = []
quotient_text (Some second) = 37 ∷ second

abbrev pub IsSecond : Option (List ℕ) → List ℕ → Type 0
IsSecond None rest = starts_with 37 rest ≡ false
IsSecond (Some second) rest = IsMaximal Digit second rest

-- what stands behind the first digits
abbrev pub behind_first : Spelling → List ℕ
behind_first parts = quotient_text parts.second ++ (parts.dots ++ parts.left)

-- The parts are those of a text: one after another they are the text, and each is a maximal run.
pub record AreParts (bytes : List ℕ) (parts : Spelling) : Type 0 where
  pub text : bytes ≡ parts.before ++ (parts.digits ++ behind_first parts)
  pub before : IsMaximal Other parts.before (parts.digits ++ behind_first parts)
  pub digits : IsMaximal Digit parts.digits (behind_first parts)
  pub second : IsSecond parts.second (parts.dots ++ parts.left)
  pub dots : IsMaximal Dot parts.dots parts.left

-- What a text says of its duration: it has parts that say it.
abbrev pub Says : List ℕ → Result Length KernFault → Type 0
Says bytes read = (parts : Spelling) × AreParts bytes parts × (read ≡ said_of bytes parts)

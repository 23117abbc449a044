-- The stages of a plan, numbered from 1.
use Rattle.std.specs.Prelude.{◌≡◌, ℕ, ◌+◌, ◌<◌, ◌≤◌, Bool, false, ◌==◌}
use Rattle.std.specs.Prelude.{List, [], ◌∷◌, ◌++◌, length, Some, slice_get, if◌then◌else◌}
use Rattle.std.specs.List.{AllByRecursion}
use Rattle.hum_words.specs.declared.commands.Command.{Command}
use Rattle.hum_choices.specs.Options as meant

-- What a stage does: it reads the score of a name, puts scores side by side, or is a command.
pub data Options : Type 0 where
  Read : List ℕ → Options
  Assemble : Options
  Takes : meant.Options → Options

-- a stage, with the numbers of those that it reads from
pub record Stage : Type 0 where
  pub command : Command
  pub sources : List ℕ
  pub options : Options

-- the numbers that all stages read from, one after another
abbrev pub all_sources : List Stage → List ℕ
all_sources [] = []
all_sources (stage ∷ stages) = stage.sources ++ all_sources stages

-- how often a number is among others
abbrev pub times : ℕ → List ℕ → ℕ
times n [] = 0
times n (x ∷ xs) = (if x == n then 1 else 0) + times n xs

-- how many stages one may read from, by what it does
abbrev pub MayHave : Options → ℕ → Type 0
MayHave (Read name) n = n ≡ 0
MayHave Assemble n = (1 ≤ n) × (n ≤ 15)
MayHave (Takes options) n = n ≡ 1

-- whether a stage drops all interpretations, and so gives no score
abbrev pub drops_interpretations : Options → Bool
drops_interpretations (Takes options) = meant.drops_interpretations options
drops_interpretations _ = false

-- Stage k + 1 of some stages.
abbrev pub IsStage : List Stage → ℕ → Stage → Type 0
IsStage stages k stage = slice_get stages k ≡ Some stage

-- The stages of a plan are a tree, of which the last is the root.
pub record IsTree (stages : List Stage) : Type 0 where
  pub some : 1 ≤ length stages
  pub bound : length stages ≤ 64
  -- each has as many sources as it may have
  pub counts : (k : ℕ) (stage : Stage) → IsStage stages k stage
      → MayHave stage.options (length stage.sources)
  -- each reads from stages before it alone
  pub lower : (k : ℕ) (stage : Stage) → IsStage stages k stage
      → AllByRecursion (λ s. (1 ≤ s) × (s ≤ k)) stage.sources
  -- each but the last is read from once
  pub once : (n : ℕ) → 1 ≤ n → n < length stages → times n (all_sources stages) ≡ 1
  -- each but the last gives a score
  pub scores : (k : ℕ) (stage : Stage) → IsStage stages k stage → k + 1 < length stages
      → drops_interpretations stage.options ≡ false

-- a stage that reads a score, and the score's name
pub record ReadStage : Type 0 where
  pub number : ℕ
  pub name : List ℕ

abbrev pub with_read_stage : ℕ → Options → List ReadStage → List ReadStage
with_read_stage n (Read name) reads = record { number = n; name = name } ∷ reads
with_read_stage n _ reads = reads

-- the stages that read scores, behind k stages
abbrev pub reads_behind : ℕ → List Stage → List ReadStage
reads_behind k [] = []
reads_behind k (stage ∷ stages) =
    with_read_stage (k + 1) stage.options (reads_behind (k + 1) stages)

abbrev pub reads_of : List Stage → List ReadStage
reads_of = reads_behind 0

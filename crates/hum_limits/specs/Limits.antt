-- The limits, by their numbers.
use Rattle.std.specs.Prelude.{◌≡◌, ℕ, ◌<◌, ◌≤◌, ◌↔◌, true, nat_lt, decimal, List, [], ◌∷◌, length}
use Rattle.std.specs.Prelude.{Some, Ok, Err}
use Rattle.hum_score.specs.declared.records.SpinedKind.{SpinedKind}
use Rattle.hum_score.specs.Row.{Row, text_of}
use Rattle.hum_text.specs.declared.calls.TheConstants.{LARGEST_READ}
use Rattle.hum_words.specs.declared.commands.Command.{Command}
use Rattle.hum_words.specs.declared.text.PlanTextFault.TheVariants.{TooLong}
use Rattle.hum_words.specs.Text.{fault_of}
use Rattle.hum_words.specs.Bundle.{largest}
use Rattle.hum_choices.specs.declared.context.ContextOptions.{ContextOptions}
use Rattle.hum_choices.specs.declared.yank.YankOptions.{YankOptions}
use Rattle.hum_record.specs.Building.{spelled}
use Rattle.hum_stage.specs.declared.faults.Rule.TheVariants.{A1, L1, L2}
use Rattle.hum_stage.specs.Limits.{if_fits}
use Rattle.hum_stage.specs.Decided.{Decision, decisions, limit, at_once}
use Rattle.hum_stage.specs.Look.{Look, looking}
use Rattle.hum_stage.specs.Meaning.{Meaning}
use Rattle.hum_options.specs.Fields.{IsCount}
use Rattle.hum_options.specs.Passages.{IsPassage, IsDistance}
use Rattle.hum_read.specs.Denoted.{standard}
use Rattle.hum_cleave.specs.Cleave.{one_record}
use Rattle.hum_yank.specs.Passages.{at_most}
use Rattle.hum_assemble.specs.Merge.{rule_broken}
use Rattle.hum_context.specs.Options as context
use Rattle.hum_yank.specs.Options as yank

-- A record that is given has at most 1,048,576 bytes: one whose tokens were filled or collected, one of
-- cleaved columns, and one of several scores.
pub record RecordsAreShort : Type 0 where
  pub filled : (row : Row) → (if_fits row ≡ Ok (row ∷ [])) ↔ (length (text_of row) ≤ 1048576)
  pub cleaved : (kind : SpinedKind) (tokens : List (List ℕ))
      → (one_record kind tokens ≡ Err L1) ↔ (1048576 < length (spelled tokens))
  pub merged : (spines bytes given : ℕ) → spines ≤ 4096
      → (rule_broken spines bytes given ≡ Some L1) ↔ (1048576 < bytes)

-- At most 4,294,967,295 records are given.
pub record RecordsAreFew : Type 0 where
  pub decided : (stage : ℕ) (command : Command) (decide : Decision) (p : List Row)
      → (at_once stage command decide).outcomes p ≡ limit 4294967295 (decisions decide [] p)
  pub merged : (spines bytes given : ℕ) → spines ≤ 4096 → bytes ≤ 1048576
      → (rule_broken spines bytes given ≡ Some L2) ↔ (4294967295 ≤ given)

-- Several scores have at most 4,096 spines side by side.
abbrev pub SpinesAreFew : Type 0
SpinesAreFew =
    (spines bytes given : ℕ) → (rule_broken spines bytes given ≡ Some A1) ↔ (4096 < spines)

-- a meaning by which a record waits for so many others at most
abbrev pub WaitsFor : ℕ → Meaning → Type 0
WaitsFor most meaning =
    (look : Look) × (meaning ≡ looking most meaning.stage meaning.command look)

-- A record of context or of yank waits for at most 65,536 others.
pub record WaitsAreShort : Type 0 where
  pub contexts : (n : ℕ) (options : ContextOptions) → WaitsFor 65536 (context.meaning n options)
  pub passages : (n : ℕ) (options : YankOptions) → WaitsFor 65536 (yank.meaning n options)

-- A plan has at most 65,536 bytes, and a bundle at most 67,108,864.
pub record PlansAreShort : Type 0 where
  pub plan : (bytes : List ℕ) → (fault_of bytes ≡ Some TooLong) ↔ (65536 < length bytes)
  pub bundle : (bytes : List ℕ)
      → (nat_lt largest (length bytes) ≡ true) ↔ (67108864 < length bytes)

-- A number of tokens or of a field is at most 4,096, and one of a passage at most 4,294,967,295, in a
-- list of ranges as in a token.
pub record NumbersAreSmall : Type 0 where
  pub count : (n : ℕ) → IsCount (decimal n) n ↔ ((0 < n) × (n ≤ 4096))
  pub passage : (n : ℕ) → IsPassage (decimal n) n ↔ (n ≤ 4294967295)
  pub distance : (n : ℕ) → IsDistance (decimal n) n ↔ ((0 < n) × (n ≤ 4294967295))
  pub marked : (n : ℕ) → (at_most n ≡ Some n) ↔ (n ≤ 4294967295)

-- A score has lines of at most 1,048,576 bytes, at most 4,294,967,295 records and at most 2^40 bytes. One
-- read asks for at most 65,536 of them.
pub record ScoresAreSmall : Type 0 where
  pub line : standard.line ≡ 1048576
  pub records : standard.records ≡ 4294967295
  pub bytes : standard.bytes ≡ 1099511627776
  pub read : LARGEST_READ ≡ 65536

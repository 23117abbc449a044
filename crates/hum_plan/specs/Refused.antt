-- The first rule that the text of a plan breaks, in the order in which it is written.
use Rattle.std.specs.Prelude.{◌≡◌, ◌≢◌, ◌↔◌, ◌⊎◌, ℕ, ◌+◌}
use Rattle.std.specs.Prelude.{◌<◌, ◌≤◌, Bool, true, false, ◌&&◌, max}
use Rattle.std.specs.Prelude.{List, [], ◌∷◌, ◌++◌, length, None, Some, IsSome, Err}
use lib.Chars.{codes}
use Rattle.hum_words.specs.Branches.{lines_of, branches_of}
use Rattle.hum_words.specs.Pieces.{Item}
use Rattle.hum_words.specs.Text.{fault_of}
use Rattle.hum_words.specs.Writing.{IsWritten, IsWrongAt}
use Rattle.hum_words.specs.declared.text.PlanTextFault.{PlanTextFault}
use Rattle.hum_words.specs.Commands.{word_of}
use Rattle.hum_words.specs.declared.commands.Command.{Command}
use Rattle.hum_words.specs.declared.commands.Command.TheVariants as command
use Rattle.hum_options.specs.Answers.{Word}
use Rattle.hum_options.specs.Refused.{BreaksFirst}
use Rattle.hum_options.specs.declared.faults.OptionFault.{OptionFault}
use Rattle.hum_plan.specs.declared.faults.PlanRule.TheVariants.{N2, N3, N4, N5, N6, N7, N8, N9}
use Rattle.hum_plan.specs.declared.faults.PlanRule.TheVariants.{N10, N11}
use Rattle.hum_plan.specs.declared.faults.PlanFault.{PlanFault}
use Rattle.hum_plan.specs.declared.branches.Branch.{Branch}
use Rattle.hum_plan.specs.Faults.{broken, in_line, of_text}
use Rattle.hum_plan.specs.Branches.{Branches, branch_of, first_unused, is_out}
use Rattle.hum_plan.specs.Lines.{groups, empty_stage}
use Rattle.hum_plan.specs.Answers.{Outline, nothing, is_source, is_end, PlanAnswer}
use Rattle.hum_plan.specs.Grammar.{TakesBranches, AddStages, IsNamed, IsNew, AreBranches}

-- The words behind `read`, which is word n.
pub data ReadBreaks (line n : ℕ) : List Word → PlanFault → Type 0 where
  nothing_read : ReadBreaks line n [] (broken line n N9)
  empty_name : {k : ℕ} {words : List Word} → ReadBreaks line n ((k, []) ∷ words) (broken line k N10)
  one_more : {k m : ℕ} {name word : List ℕ} {words : List Word} → name ≢ []
      → ReadBreaks line n ((k, name) ∷ ((m, word) ∷ words)) (broken line m N8)

-- A name behind so many others, given the branches as those have left them: it is the 16th, or no
-- branch has it that isn't taken.
pub data NameBreaks (line k : ℕ) (name : List ℕ) (count : ℕ) (branches : Branches)
    : PlanFault → Type 0 where
  sixteenth : count ≡ 15 → NameBreaks line k name count branches (broken line k N8)
  not_free : count < 15
      → ((branch : Branch) → branch_of name branches ≡ Some branch → branch.taken ≡ true)
      → NameBreaks line k name count branches (broken line k N11)

-- The first of the names behind `assemble` that breaks a rule.
pub record BreaksAtName (line : ℕ) (before : Branches) (count : ℕ) (words : List Word)
    (fault : PlanFault) : Type 0 where
  pub front : List Word
  pub k : ℕ
  pub name : List ℕ
  pub rest : List Word
  pub sources : List ℕ
  pub after : Branches
  pub whole : words ≡ front ++ (k, name) ∷ rest
  pub lawful : TakesBranches before front sources after
  pub broken : NameBreaks line k name (count + length sources) after fault

abbrev pub AssembleBreaks : ℕ → ℕ → Branches → List Word → PlanFault → Type 0
AssembleBreaks line n branches words fault =
    ((words ≡ []) × (fault ≡ broken line n N9)) ⊎ BreaksAtName line branches 0 words fault

-- The words behind a command, which is word n.
abbrev pub CommandBreaks : ℕ → ℕ → Bool → Outline → List Word → Command → PlanFault → Type 0
CommandBreaks line n is_last old words command.Read fault = ReadBreaks line n words fault
CommandBreaks line n is_last old words command.Assemble fault =
    AssembleBreaks line n old.branches words fault
CommandBreaks line n is_last old words kind fault =
    (found : OptionFault) × BreaksFirst kind n is_last words found × (fault ≡ in_line line found)

-- A stage by its words, behind the stages so far.
pub data StageBreaks (line : ℕ) (is_first is_last : Bool) (old : Outline)
    : List Word → PlanFault → Type 0 where
  too_many : {n : ℕ} {word : List ℕ} {words : List Word} → 64 ≤ length old.stages
      → StageBreaks line is_first is_last old ((n, word) ∷ words) (broken line n N11)
  unknown : {n : ℕ} {word : List ℕ} {words : List Word} → length old.stages < 64
      → ((kind : Command) → word ≢ word_of kind)
      → StageBreaks line is_first is_last old ((n, word) ∷ words) (broken line n N7)
  misplaced : {n : ℕ} {words : List Word} (kind : Command) → length old.stages < 64
      → is_source kind ≢ is_first
      → StageBreaks line is_first is_last old ((n, word_of kind) ∷ words) (broken line n N6)
  behind : {n : ℕ} {words : List Word} {fault : PlanFault} (kind : Command)
      → length old.stages < 64 → is_source kind ≡ is_first
      → CommandBreaks line n is_last old words kind fault
      → StageBreaks line is_first is_last old ((n, word_of kind) ∷ words) fault

-- The first of some stages of a line that breaks a rule.
pub record BreaksAtStage (line : ℕ) (ends is_first : Bool) (old : Outline)
    (stages : List (List Word)) (fault : PlanFault) : Type 0 where
  pub front : List (List Word)
  pub words : List Word
  pub behind : List (List Word)
  pub next : Outline
  pub whole : stages ≡ front ++ words ∷ behind
  pub lawful : AddStages false is_first old front next
  pub broken : StageBreaks line (is_first && is_end front) (ends && is_end behind) next words fault

-- A line, behind the lines so far.
pub data LineBreaks (old : Outline) (line : ℕ) (text : List ℕ) : PlanFault → Type 0 where
  quotes : {k : ℕ} → IsWrongAt k text → LineBreaks old line text (broken line k N2)
  nameless : (items : List Item) → IsWritten items text
      → ((name : List ℕ) (rest : List Item) → ¬ IsNamed text name rest)
      → LineBreaks old line text (broken line 1 N3)
  used : {name : List ℕ} {items : List Item} → IsNamed text name items → ¬ IsNew old name
      → LineBreaks old line text (broken line 1 N4)
  crowded : {name : List ℕ} {items : List Item} → IsNamed text name items → IsNew old name
      → 16 ≤ length old.branches → LineBreaks old line text (broken line 1 N11)
  wordless : {n : ℕ} {name : List ℕ} {items : List Item} → IsNamed text name items → IsNew old name
      → length old.branches < 16 → empty_stage 1 true items ≡ Some n
      → LineBreaks old line text (broken line n N5)
  at_stage : {name : List ℕ} {items : List Item} {fault : PlanFault} → IsNamed text name items
      → IsNew old name → length old.branches < 16 → empty_stage 1 true items ≡ None
      → BreaksAtStage line (is_out name) true old (groups items) fault
      → LineBreaks old line text fault

-- The first line that breaks a rule: those before it are branches.
pub record BreaksAtLine (old : Outline) (lines : List (ℕ × List ℕ)) (fault : PlanFault)
    : Type 0 where
  pub front : List (ℕ × List ℕ)
  pub line : ℕ
  pub text : List ℕ
  pub behind : List (ℕ × List ℕ)
  pub next : Outline
  pub whole : lines ≡ front ++ (line, text) ∷ behind
  pub lawful : AreBranches old front next
  pub broken : LineBreaks next line text fault

-- All lines are branches, and there is no `out`, or one is never used.
pub data WholeBreaks (bytes : List ℕ) : PlanFault → Type 0 where
  outless : (all : Outline) → AreBranches nothing (branches_of bytes) all
      → branch_of (codes "out") all.branches ≡ None
      → WholeBreaks bytes (broken (max (length (lines_of bytes)) 1) 0 N4)
  unused : {line : ℕ} (all : Outline) → AreBranches nothing (branches_of bytes) all
      → IsSome (branch_of (codes "out") all.branches) → first_unused all.branches ≡ Some line
      → WholeBreaks bytes (broken line 0 N11)

-- The rule that a text breaks first.
pub data BreaksFirstOf (bytes : List ℕ) : PlanFault → Type 0 where
  unread : {fault : PlanTextFault} → fault_of bytes ≡ Some fault → BreaksFirstOf bytes (of_text fault)
  at_line : {fault : PlanFault} → fault_of bytes ≡ None
      → BreaksAtLine nothing (branches_of bytes) fault → BreaksFirstOf bytes fault
  at_end : {fault : PlanFault} → fault_of bytes ≡ None → WholeBreaks bytes fault
      → BreaksFirstOf bytes fault

-- A text is refused for the first rule that it breaks, and for no other.
abbrev pub IsRefusedInOrder : List ℕ → Type 0
IsRefusedInOrder bytes = (fault : PlanFault) → PlanAnswer bytes (Err fault) ↔ BreaksFirstOf bytes fault

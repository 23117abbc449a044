-- Which texts are plans, and of which stages.
use Rattle.std.specs.Prelude.{◌≡◌, ◌≢◌, ℕ, ◌<◌, ◌≤◌, Bool, true, false, not, ◌&&◌}
use Rattle.std.specs.Prelude.{◌||◌, MatchBool}
use Rattle.std.specs.Prelude.{List, [], ◌∷◌, ◌++◌, length, map, None, Some, IsSome}
use Rattle.std.specs.List.{list_all}
use Rattle.std.specs.Str.{IsUtf8}
use lib.Chars.{codes}
use Rattle.hum_words.specs.Branches.{branches_of}
use Rattle.hum_words.specs.Names.{is_name}
use Rattle.hum_words.specs.Pieces.{Item}
use Rattle.hum_words.specs.Pieces as item
use Rattle.hum_words.specs.Text.{longest}
use Rattle.hum_words.specs.Writing.{IsWritten}
use Rattle.hum_words.specs.Commands.{word_of}
use Rattle.hum_words.specs.declared.commands.Command.{Command}
use Rattle.hum_words.specs.declared.commands.Command.TheVariants as command
use Rattle.hum_choices.specs.declared.rid.RidOptions.{RidOptions}
use Rattle.hum_options.specs.Answers.{Word, is_rid, has_none, text_of_word}
use Rattle.hum_options.specs.Letters.{is_letter_word, dropped}
use Rattle.hum_choices.specs.Options as meant
use Rattle.hum_options.specs.Spelling.{IsSpelled}
use Rattle.hum_plan.specs.declared.branches.Branch.{Branch}
use Rattle.hum_plan.specs.Stages.{Stage, Read, Assemble, Takes}
use Rattle.hum_plan.specs.Branches.{Branches, branch_of, with_branch, first_unused, taken, is_out}
use Rattle.hum_plan.specs.Lines.{groups}
use Rattle.hum_plan.specs.Answers.{Outline, nothing, with_stage, is_source, is_end, ended}

-- The words of rid: there are some, each is of letters, and only the last stage drops all
-- interpretations.
pub record SpellsLetters (is_last : Bool) (words : List Word) (options : RidOptions) : Type 0 where
  pub some : has_none words ≡ false
  pub letters : list_all is_letter_word (map text_of_word words) ≡ true
  pub last : (is_last || not options.interpretations) ≡ true
  pub meaning : options ≡ dropped (map text_of_word words)

-- words spell the options of a command
abbrev pub SpellsOptions : Bool → Command → List Word → meant.Options → Type 0
SpellsOptions is_last tool words options = MatchBool (is_rid tool)
    ((letters : RidOptions) × SpellsLetters is_last words letters × (options ≡ meant.Rid letters))
    (IsSpelled tool words options)

-- Words name branches that aren't taken; then they are. The sources are their last stages.
abbrev pub TakesBranches : Branches → List Word → List ℕ → Branches → Type 0
TakesBranches before [] sources after = (sources ≡ []) × (after ≡ before)
TakesBranches before ((k, name) ∷ words) sources after = (branch : Branch) × (more : List ℕ)
    × (branch_of name before ≡ Some branch) × (branch.taken ≡ false)
    × (sources ≡ branch.last ∷ more)
    × TakesBranches (with_branch before name (taken branch)) words more after

-- A stage by the words behind its command: `read` has the name of a score, `assemble` has 1 to 15
-- names of branches, and any other command has its options and reads from the stage before it.
abbrev pub AddsStage : Bool → Outline → List Word → Command → Outline → Type 0
AddsStage is_last old words command.Read new = (k : ℕ) × (name : List ℕ)
    × (words ≡ (k, name) ∷ []) × (name ≢ [])
    × (new ≡ with_stage old command.Read [] (Read name))
AddsStage is_last old words command.Assemble new =
    (sources : List ℕ) × (branches : Branches) × TakesBranches old.branches words sources branches
    × (1 ≤ length sources) × (length sources ≤ 15)
    × (new ≡ with_stage (record old { branches = branches }) command.Assemble sources Assemble)
AddsStage is_last old words kind new = (options : meant.Options)
    × SpellsOptions is_last kind words options
    × (new ≡ with_stage old kind (length old.stages ∷ []) (Takes options))

-- The words of a stage are those of a command and what it says. There is room for a stage more, and
-- the first of a line is `read` or `assemble`, and only the first.
pub record IsStageOf (is_first is_last : Bool) (old : Outline) (words : List Word) (new : Outline)
    : Type 0 where
  pub number : ℕ
  pub kind : Command
  pub behind : List Word
  pub whole : words ≡ (number, word_of kind) ∷ behind
  pub place : is_source kind ≡ is_first
  pub room : length old.stages < 64
  pub adds : AddsStage is_last old behind kind new

-- The stages of a line, by the words of each.
abbrev pub AddStages : Bool → Bool → Outline → List (List Word) → Outline → Type 0
AddStages is_out is_first old [] new = new ≡ old
AddStages is_out is_first old (words ∷ groups) new =
    (next : Outline) × IsStageOf is_first (is_out && is_end groups) old words next
    × AddStages is_out false next groups new

-- a line that begins with a name and a colon, and its words and bars behind them
pub record IsNamed (text name : List ℕ) (items : List Item) : Type 0 where
  pub number : ℕ
  pub written : IsWritten (item.Word number (name ++ 58 ∷ []) ∷ items) text
  pub is_name : is_name name ≡ true

-- no line before has the name, and none is `out`
pub record IsNew (old : Outline) (name : List ℕ) : Type 0 where
  pub is_new : branch_of name old.branches ≡ None
  pub goes_on : branch_of (codes "out") old.branches ≡ None

-- A branch: a name and a colon, and the stages between bars.
pub record IsBranch (old : Outline) (line : ℕ) (text : List ℕ) (new : Outline) : Type 0 where
  pub name : List ℕ
  pub items : List Item
  pub next : Outline
  pub named : IsNamed text name items
  pub is_new : IsNew old name
  pub room : length old.branches < 16
  pub stages : AddStages (is_out name) true old (groups items) next
  pub ends : new ≡ ended line name next

-- the branches of a plan, one after another
abbrev pub AreBranches : Outline → List (ℕ × List ℕ) → Outline → Type 0
AreBranches old [] new = new ≡ old
AreBranches old ((line, text) ∷ lines) new =
    (next : Outline) × IsBranch old line text next × AreBranches next lines new

-- The text of a plan, and its stages: its lines are branches, of which one is `out`, and each other
-- one is taken.
pub record IsPlanOf (bytes : List ℕ) (stages : List Stage) : Type 0 where
  pub whole : Outline
  pub short : length bytes ≤ longest
  pub utf8 : IsUtf8 bytes
  pub branches : AreBranches nothing (branches_of bytes) whole
  pub out : IsSome (branch_of (codes "out") whole.branches)
  pub taken : first_unused whole.branches ≡ None
  pub meaning : stages ≡ whole.stages

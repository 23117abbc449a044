-- What the text of a plan is answered: its stages, or the first rule that it breaks.
use Rattle.std.specs.Prelude.{◌≡◌, ℕ, Bool, true, false, ◌&&◌, ◌||◌, ◌==◌, max, nat_le}
use Rattle.std.specs.Prelude.{if◌then◌else◌, List, [], ◌∷◌, ◌++◌, length, MatchBool}
use Rattle.std.specs.Prelude.{Option, None, Some, is_some, is_none, option_map, Result, Ok, Err}
use Rattle.std.specs.Bool.{beq}
use lib.Chars.{codes}
use Rattle.hum_words.specs.Branches.{lines_of, branches_of}
use Rattle.hum_words.specs.Cutting.{Cut, cut_line}
use Rattle.hum_words.specs.Names.{name_in}
use Rattle.hum_words.specs.Pieces.{Item}
use Rattle.hum_words.specs.Pieces as item
use Rattle.hum_words.specs.Text.{fault_of}
use Rattle.hum_words.specs.Commands.{command_of}
use Rattle.hum_words.specs.declared.commands.Command.{Command}
use Rattle.hum_words.specs.declared.commands.Command.TheVariants as command
use Rattle.hum_options.specs.Answers.{Word, Answer, IsAnswer}
use Rattle.hum_plan.specs.declared.faults.PlanRule.TheVariants.{N2, N3, N4, N5, N6, N7, N8, N9}
use Rattle.hum_plan.specs.declared.faults.PlanRule.TheVariants.{N10, N11}
use Rattle.hum_plan.specs.declared.faults.PlanFault.{PlanFault}
use Rattle.hum_plan.specs.declared.branches.Branch.{Branch}
use Rattle.hum_plan.specs.Faults.{broken, in_line, of_text}
use Rattle.hum_plan.specs.Stages.{Stage, Options, Read, Assemble, Takes}
use Rattle.hum_plan.specs.Branches.{Branches, branch_of, with_branch, first_unused, taken, is_out}
use Rattle.hum_plan.specs.Lines.{groups, empty_stage}

-- the stages so far, and the branches of the lines before
pub record Outline : Type 0 where
  pub stages : List Stage
  pub branches : Branches

abbrev pub nothing : Outline
nothing = record { stages = []; branches = [] }

-- something, or the first rule that is broken
abbrev pub Outcome : Type 0 → Type 0
Outcome A = Result A PlanFault

-- A first answer, and what comes of it: a fault ends it.
abbrev pub Onward : {A B : Type 0} → (A → Outcome B → Type 0) → Outcome A → Outcome B → Type 0
Onward Next (Ok given) answer = Next given answer
Onward Next (Err fault) answer = answer ≡ Err fault

-- One step after another, each by its lawful answers.
abbrev pub Then : {A B : Type 0} → (Outcome A → Type 0) → (A → Outcome B → Type 0) → Outcome B
    → Type 0
Then {A} First Next answer = (given : Outcome A) × First given × Onward Next given answer

-- A fault that was found ends it.
abbrev pub Unless : {B : Type 0} → Option PlanFault → (Outcome B → Type 0) → Outcome B → Type 0
Unless None Next answer = Next answer
Unless (Some fault) Next answer = answer ≡ Err fault

-- what comes of something, unless a rule is broken
abbrev pub and_then : {A B : Type 0} → Outcome A → (A → Outcome B) → Outcome B
and_then (Ok given) next = next given
and_then (Err fault) next = Err fault

-- The command of a stage.

-- whether it is a source, which stands first in its line
abbrev pub is_source : Command → Bool
is_source command.Read = true
is_source command.Assemble = true
is_source _ = false

-- one stage more
abbrev pub with_stage : Outline → Command → List ℕ → Options → Outline
with_stage outline command sources options = record outline {
  stages =
      outline.stages ++ record { command = command; sources = sources; options = options } ∷ [];
}

-- `read` is word n: it has one word, the name of a score, which isn't empty.
abbrev pub name_read : ℕ → ℕ → List Word → Outcome (List ℕ)
name_read line n [] = Err (broken line n N9)
name_read line n ((k, []) ∷ words) = Err (broken line k N10)
name_read line n ((k, name) ∷ []) = Ok name
name_read line n ((k, name) ∷ ((m, word) ∷ words)) = Err (broken line m N8)

abbrev pub with_read : Outline → Outcome (List ℕ) → Outcome Outline
with_read outline name =
    and_then name (λ text. Ok (with_stage outline command.Read [] (Read text)))

-- the sources of `assemble`, and the branches with those taken
pub record Joined : Type 0 where
  pub sources : List ℕ
  pub branches : Branches

abbrev pub joined : List ℕ → Branches → Joined
joined sources branches = record { sources = sources; branches = branches }

-- A word names a branch, if there is one that isn't taken; the 16th is a word too many.
abbrev pub branch_joined : ℕ → ℕ → List ℕ → Joined → Option Branch → Outcome Joined
branch_joined line k name before None = Err (broken line k N11)
branch_joined line k name before (Some branch) =
    if branch.taken then Err (broken line k N11)
    else Ok (joined (before.sources ++ branch.last ∷ [])
    (with_branch before.branches name (taken branch)))

abbrev pub name_joined : ℕ → ℕ → List ℕ → Joined → Outcome Joined
name_joined line k name before =
    if length before.sources == 15 then Err (broken line k N8)
    else branch_joined line k name before (branch_of name before.branches)

-- The names behind `assemble`, which is word n: at least one.
unfoldable pub names_joined : ℕ → ℕ → Joined → List Word → Outcome Joined
names_joined line n before [] =
    if length before.sources == 0 then Err (broken line n N9) else Ok before
names_joined line n before ((k, name) ∷ words) =
    and_then (name_joined line k name before) (λ next. names_joined line n next words)

abbrev pub with_joined : Outline → Outcome Joined → Outcome Outline
with_joined outline names = and_then names (λ all. Ok (with_stage
    (record outline { branches = all.branches }) command.Assemble all.sources Assemble))

-- a command that reads from the stage before it, with the options that its words are answered
abbrev pub with_command : ℕ → Outline → Command → Answer → Outcome Outline
with_command line outline command (Ok options) =
    Ok (with_stage outline command (length outline.stages ∷ []) (Takes options))
with_command line outline command (Err found) = Err (in_line line found)

-- A command that is word n, with the words behind it.
abbrev pub Begins : ℕ → Bool → Outline → ℕ → List Word → Command → Outcome Outline → Type 0
Begins line is_last outline n words command.Read answer =
    answer ≡ with_read outline (name_read line n words)
Begins line is_last outline n words command.Assemble answer = answer ≡
    with_joined outline (names_joined line n (joined [] outline.branches) words)
Begins line is_last outline n words command answer = (found : Answer)
    × IsAnswer command n is_last words found × (answer ≡ with_command line outline command found)

-- The first stage of a line is a source, and only the first.
abbrev pub Placed : ℕ → Bool → Bool → Outline → ℕ → List Word → Option Command → Outcome Outline
    → Type 0
Placed line is_first is_last outline n words None answer = answer ≡ Err (broken line n N7)
Placed line is_first is_last outline n words (Some command) answer =
    MatchBool (beq (is_source command) is_first)
    (Begins line is_last outline n words command answer)
    (answer ≡ Err (broken line n N6))

-- A stage by its words, the first of which is its command.
abbrev pub StageAnswer : ℕ → Bool → Bool → Outline → List Word → Outcome Outline → Type 0
StageAnswer line is_first is_last outline [] answer = answer ≡ Ok outline
StageAnswer line is_first is_last outline ((n, word) ∷ words) answer =
    MatchBool (nat_le 64 (length outline.stages)) (answer ≡ Err (broken line n N11))
    (Placed line is_first is_last outline n words (command_of word) answer)

abbrev pub is_end : List (List Word) → Bool
is_end [] = true
is_end (words ∷ groups) = false

-- The stages of a line, one after another.
unfoldable pub StagesAnswer : ℕ → Bool → Bool → Outline → List (List Word) → Outcome Outline → Type 0
StagesAnswer line is_out is_first outline [] answer = answer ≡ Ok outline
StagesAnswer line is_out is_first outline (words ∷ groups) answer =
    Then (StageAnswer line is_first (is_out && is_end groups) outline words)
    (λ next. StagesAnswer line is_out false next groups) answer

-- A line.

-- The first of a line's own rules that it breaks, behind its name: the name is used or the line
-- stands behind `out`; there are 16 branches; a stage has no words.
abbrev pub name_fault : ℕ → Branches → List ℕ → List Item → Option PlanFault
name_fault line branches name items =
    if is_some (branch_of (codes "out") branches) || is_some (branch_of name branches)
    then Some (broken line 1 N4)
    else if nat_le 16 (length branches) then Some (broken line 1 N11)
    else option_map (λ n. broken line n N5) (empty_stage 1 true items)

-- the branch of a line, whose last stage is the last so far; `out` is taken by nothing
abbrev pub ended : ℕ → List ℕ → Outline → Outline
ended line name outline = record outline {
  branches = with_branch outline.branches name
      (record { last = length outline.stages; taken = is_out name; line = line });
}

abbrev pub NameAnswer : ℕ → Outline → List Item → Option (List ℕ) → Outcome Outline → Type 0
NameAnswer line outline items None answer = answer ≡ Err (broken line 1 N3)
NameAnswer line outline items (Some name) answer =
    Unless (name_fault line outline.branches name items)
    (Then (StagesAnswer line (is_out name) true outline (groups items))
    (λ next answer. answer ≡ Ok (ended line name next))) answer

-- the name that words and bars begin with, if their first word is a name and a colon
abbrev pub first_name : List Item → Option (List ℕ)
first_name (item.Word n word ∷ items) = name_in word
first_name _ = None

abbrev pub behind_first : List Item → List Item
behind_first [] = []
behind_first (item ∷ items) = items

-- a branch by its words and bars: a name with a colon, and the stages
abbrev pub BranchAnswer : ℕ → Outline → List Item → Outcome Outline → Type 0
BranchAnswer line outline items = NameAnswer line outline (behind_first items) (first_name items)

-- a line that is cut into words and bars, or has a word that is wrong with its quotes
abbrev pub CutAnswer : ℕ → Outline → Cut → Outcome Outline → Type 0
CutAnswer line outline (Ok items) answer = BranchAnswer line outline items answer
CutAnswer line outline (Err k) answer = answer ≡ Err (broken line k N2)

-- The branches of a plan, one after another.
unfoldable pub LinesAnswer : Outline → List (ℕ × List ℕ) → Outcome Outline → Type 0
LinesAnswer outline [] answer = answer ≡ Ok outline
LinesAnswer outline ((line, text) ∷ lines) answer =
    Then (CutAnswer line outline (cut_line text)) (λ next. LinesAnswer next lines) answer

-- A plan.

-- the first rule that only the whole plan shows: there is `out`, and each other branch is taken
abbrev pub whole_fault : ℕ → Branches → Option PlanFault
whole_fault count branches =
    if is_none (branch_of (codes "out") branches) then Some (broken (max count 1) 0 N4)
    else option_map (λ line. broken line 0 N11) (first_unused branches)

abbrev pub WholeAnswer : ℕ → Outline → Outcome (List Stage) → Type 0
WholeAnswer count outline =
    Unless (whole_fault count outline.branches) (λ answer. answer ≡ Ok outline.stages)

-- The bytes of a plan.
unfoldable pub PlanAnswer : List ℕ → Outcome (List Stage) → Type 0
PlanAnswer bytes =
    Unless (option_map of_text (fault_of bytes))
    (Then (LinesAnswer nothing (branches_of bytes)) (WholeAnswer (length (lines_of bytes))))

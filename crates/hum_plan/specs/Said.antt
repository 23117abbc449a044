-- What the lines of a plan have said so far, by their text alone.
use Rattle.std.specs.Prelude.{◌≡◌, ℕ, ◌+◌, Bool, false, ◌&&◌, ◌||◌, List, [], ◌∷◌, length}
use Rattle.std.specs.Prelude.{Option, None, Some, is_some, Ok, Err}
use Rattle.std.specs.List.{list_any}
use Rattle.std.specs.Str.{bytes_eq}
use Rattle.hum_words.specs.Cutting.{Cut, cut_line}
use Rattle.hum_words.specs.Pieces as item
use Rattle.hum_words.specs.Commands.{word_of}
use Rattle.hum_words.specs.declared.commands.Command.TheVariants as command
use Rattle.hum_options.specs.Answers.{Word, text_of_word}
use Rattle.hum_plan.specs.declared.branches.Branch.{Branch}
use Rattle.hum_plan.specs.Branches.{branch_of, is_out}
use Rattle.hum_plan.specs.Lines.{groups}
use Rattle.hum_plan.specs.Answers.{Outline, nothing, first_name}
use Rattle.hum_plan.specs.Grammar.{AreBranches}

-- whether a line's first word is this name and a colon
abbrev pub is_name_of : List ℕ → Option (List ℕ) → Bool
is_name_of name None = false
is_name_of name (Some other) = bytes_eq name other

abbrev pub names_cut : List ℕ → Cut → Bool
names_cut name (Ok items) = is_name_of name (first_name items)
names_cut name (Err k) = false

-- the stages of a line, by their words
abbrev pub stages_cut : Cut → List (List Word)
stages_cut (Ok (item.Word n word ∷ items)) = groups items
stages_cut _ = []

-- a stage is `assemble` with this name among its words
abbrev pub is_assembled : List ℕ → List Word → Bool
is_assembled name [] = false
is_assembled name ((n, word) ∷ words) =
    bytes_eq word (word_of command.Assemble)
    && list_any (λ w. bytes_eq name (text_of_word w)) words

-- whether a line of these has the name
abbrev pub is_used : List (ℕ × List ℕ) → List ℕ → Bool
is_used [] name = false
is_used ((line, text) ∷ lines) name = names_cut name (cut_line text) || is_used lines name

-- whether a stage of these lines assembles it
abbrev pub is_taken_in : List (ℕ × List ℕ) → List ℕ → Bool
is_taken_in [] name = false
is_taken_in ((line, text) ∷ lines) name =
    list_any (is_assembled name) (stages_cut (cut_line text)) || is_taken_in lines name

-- how many stages they have
abbrev pub stage_count : List (ℕ × List ℕ) → ℕ
stage_count [] = 0
stage_count ((line, text) ∷ lines) = length (stages_cut (cut_line text)) + stage_count lines

abbrev pub is_taken : Option Branch → Bool
is_taken None = false
is_taken (Some branch) = branch.taken

-- What is known behind some lines is what they say: which names there are, which of them are taken,
-- and how many branches and stages.
pub record IsSaidBy (lines : List (ℕ × List ℕ)) (old : Outline) : Type 0 where
  pub names : (name : List ℕ) → is_some (branch_of name old.branches) ≡ is_used lines name
  pub taken : (name : List ℕ) → is_taken (branch_of name old.branches)
      ≡ (is_taken_in lines name || (is_out name && is_used lines name))
  pub branches : length old.branches ≡ length lines
  pub stages : length old.stages ≡ stage_count lines

abbrev pub LinesSayAll : List (ℕ × List ℕ) → Type 0
LinesSayAll lines = (old : Outline) → AreBranches nothing lines old → IsSaidBy lines old

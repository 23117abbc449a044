-- One step of a plan's words, stages and lines after another.
use Rattle.std.proofs.lemmas.Grind.{common_steps}
use Rattle.std.proofs.lemmas.Bool.Decides.{nat_tests}
use Rattle.std.proofs.Common.{arith}
use Rattle.std.proofs.Common.{◌≡◌, ℕ, ◌<◌, ◌&&◌, Bool, false, List, [], ◌∷◌, length, drop, get_or}
use Rattle.std.proofs.Common.{Option, None, Some, option_map, is_none, Result, Err}
use denote.Bor.{Bor}
use Rattle.hum_words.specs.Pieces.{Item, Word, Bar, items_of}
use Rattle.hum_words.specs.declared.cutting.Piece.{Piece}
use Rattle.hum_words.specs.declared.cutting.Piece.TheVariants as piece
use Rattle.hum_options.specs.Answers.{Word as NumberedWord}
use Rattle.hum_options.specs.Seen.{words_of, words_before_bar}
use Rattle.hum_plan.specs.declared.faults.PlanError.{PlanError}
use Rattle.hum_plan.specs.declared.faults.PlanFault.{PlanFault}
use Rattle.hum_plan.specs.Answers.{Outline, Outcome, Then, is_end}
use Rattle.hum_plan.specs.Answers.{StageAnswer, StagesAnswer}
use Rattle.hum_plan.specs.Lines.{behind_bar, groups, groups_behind}
use Rattle.hum_plan.specs.Tells.{Fails, Tells}

-- a fault of one thing, and so of another
pub fails_as : (P Q : PlanFault → Type 0) (error : PlanError) → ((fault : PlanFault) → P fault → Q fault)
    → Fails P error → Fails Q error
fails_as = grind (arith, nat_tests)

-- a first step that fails, and all with it
pub then_fails : {A B : Type 0} (First : Outcome A → Type 0) (Next : A → Outcome B → Type 0)
    (Whole : Outcome B → Type 0) (error : PlanError) → ((answer : Outcome B) → Then First Next answer → Whole answer)
    → Fails (λ fault. First (Err fault)) error → Fails (λ fault. Whole (Err fault)) error
then_fails = grind (arith, nat_tests)

pub tells_as : {X A : Type 0} (seen : X → A) (P Q : Outcome A → Type 0) (result : Result X PlanError)
    → ((answer : Outcome A) → P answer → Q answer) → Tells seen P result → Tells seen Q result
tells_as = grind (arith, nat_tests)

-- Names behind `assemble`.

pub bar_at : (pieces : List Piece) (i n : ℕ) (d : Piece) → i < length pieces → get_or pieces i d ≡ piece.Bar n
    → words_of (drop i pieces) ≡ []
bar_at = grind (arith, common_steps)

-- Stages.

-- the words of each stage that is still to come
abbrev pub left : Option (Bor (List Piece)) → List (List NumberedWord)
left None = []
left (Some rest) = groups (items_of rest.now)

abbrev pub seen_rest : Option (Bor (List Piece)) → Option (List Item)
seen_rest = option_map (λ rest. items_of rest.now)

left_behind : (items : List Item) (rest : Option (Bor (List Piece))) → seen_rest rest ≡ behind_bar items
    → groups_behind items ≡ left rest
left_behind (Word n word ∷ items) rest is = left_behind items rest is
left_behind items rest h = grind (arith, nat_tests)

left_ends : (rest : Option (Bor (List Piece))) → is_end (left rest) ≡ is_none rest
left_ends = grind (arith, nat_tests)

-- a stage, and those behind it
pub stages_step : (line : ℕ) (is_out is_first is_last : Bool) (outline : Outline) (items : List Item)
    (rest : Option (Bor (List Piece))) → seen_rest rest ≡ behind_bar items → is_last ≡ (is_out && is_none rest)
    → (answer : Outcome Outline)
    → Then (StageAnswer line is_first is_last outline (words_before_bar items))
    (λ next. StagesAnswer line is_out false next (left rest)) answer
    → StagesAnswer line is_out is_first outline (groups items) answer
unfolding StagesAnswer
stages_step line is_out is_first is_last outline items rest is last answer h =
    rw (left_behind items rest is, left_ends rest, ← last) h

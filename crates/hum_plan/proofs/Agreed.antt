-- A text that is accepted is answered otherwise by N12 alone.
use Rattle.std.proofs.lemmas.Bool.Decides.{nat_tests}
use Rattle.std.proofs.Common.{◌≡◌, ℕ, ◌&&◌, Bool, true, false, List, [], ◌∷◌, length, Option, None, Some, Ok, Err, sym}
use Rattle.std.proofs.Common.{ap, subst, arith}
use Rattle.std.proofs.Common.{option_map}
use Rattle.std.specs.Bool.{beq}
use Rattle.hum_score.proofs.Cases.{by_bool}
use Rattle.hum_words.specs.Branches.{lines_of, branches_of}
use Rattle.hum_words.specs.Cutting.{Cut, cut_line}
use Rattle.hum_words.specs.Pieces.{Item}
use Rattle.hum_words.specs.Text.{fault_of}
use Rattle.hum_words.specs.declared.commands.Command.{Command}
use Rattle.hum_words.specs.declared.commands.Command.TheVariants as command
use Rattle.hum_options.specs.Answers.{Word}
use Rattle.hum_options.proofs.Agreed.{answer_fits}
use Rattle.hum_plan.specs.declared.faults.PlanFault.{PlanFault}
use Rattle.hum_plan.specs.Faults.{rule_of, of_text}
use Rattle.hum_plan.specs.Branches.{is_out}
use Rattle.hum_plan.specs.Lines.{groups}
use Rattle.hum_plan.specs.Answers.{Outline, Outcome, nothing, is_source, is_end, Begins, Placed, StageAnswer}
use Rattle.hum_plan.specs.Answers.{StagesAnswer}
use Rattle.hum_plan.specs.Answers.{Then, Unless, name_fault, ended, NameAnswer, CutAnswer}
use Rattle.hum_plan.specs.Answers.{LinesAnswer, whole_fault, PlanAnswer}
use Rattle.hum_plan.specs.Laws.{Agrees, IsOnePlan}
use Rattle.hum_plan.proofs.Written.{read_as_written}

-- Steps.

-- where something is answered, all else that may be is N12
abbrev IsOne : {A : Type 0} → (Outcome A → Type 0) → Type 0
IsOne {A} Lawful = (a : A) (answer : Outcome A) → Lawful (Ok a) → Lawful answer → Agrees a answer

same : {A : Type 0} (fixed : Outcome A) → IsOne (λ answer. answer ≡ fixed)
same = grind (arith, nat_tests)

then_one : {A B : Type 0} (First : Outcome A → Type 0) (Next : A → Outcome B → Type 0) → IsOne First
    → ((a : A) → IsOne (Next a)) → IsOne (Then First Next)
then_one First Next first next b answer (Ok a, one, on) (Ok c, two, also) =
    next a b answer on (subst (λ x. Next x answer) (sym (first a (Ok c) one two)) also)
then_one First Next first next b answer (Ok a, one, on) (Err fault, two, is) = rw is (first a (Err fault) one two)
then_one First Next first next b answer (Err fault, one, is) two = absurd (cc)

unless_one : {B : Type 0} (found : Option PlanFault) (Next : Outcome B → Type 0) → IsOne Next
    → IsOne (Unless found Next)
unless_one = grind (arith, nat_tests)

-- Stages.

begins_one : (line n : ℕ) (is_last : Bool) (old : Outline) (words : List Word) (kind : Command)
    → IsOne (Begins line is_last old n words kind)
begins_one line n is_last old words command.Read new answer one two = same _ new answer one two
begins_one line n is_last old words command.Assemble new answer one two = same _ new answer one two
begins_one line n is_last old words kind new answer (Ok options, one, is) (Ok others, two, also) =
    grind (arith, nat_tests, answer_fits kind n is_last words options (Ok others) one two)
begins_one line n is_last old words kind new answer (Ok options, one, is) (Err fault, two, also) =
    rw also (ap rule_of (answer_fits kind n is_last words options (Err fault) one two).1)
begins_one line n is_last old words kind new answer (Err fault, one, is) two = absurd (cc)

placed_one : (line n : ℕ) (is_first is_last : Bool) (old : Outline) (words : List Word) (found : Option Command)
    → IsOne (Placed line is_first is_last old n words found)
placed_one line n is_first is_last old words None = same _
placed_one line n is_first is_last old words (Some kind) = λ new answer one two. by_bool (beq (is_source kind) is_first)
    (λ w. begins_one line n is_last old words kind new answer (rw w at one) (rw w at two))
    (λ w. same _ new answer (rw w at one) (rw w at two))

stage_one : (line : ℕ) (is_first is_last : Bool) (old : Outline) (words : List Word)
    → IsOne (StageAnswer line is_first is_last old words)
stage_one = grind (arith, nat_tests, same, placed_one)

stages_one : (line : ℕ) (ends is_first : Bool) (old : Outline) (stages : List (List Word))
    → IsOne (StagesAnswer line ends is_first old stages)
unfolding StagesAnswer
stages_one line ends is_first old [] = same _
stages_one line ends is_first old (words ∷ stages) = then_one _ _
    (stage_one line is_first (ends && is_end stages) old words)
    (λ next. stages_one line ends false next stages)

-- Lines.

name_one : (line : ℕ) (old : Outline) (items : List Item) (found : Option (List ℕ))
    → IsOne (NameAnswer line old items found)
name_one line old items None = same _
name_one line old items (Some name) = unless_one (name_fault line old.branches name items) _
    (then_one _ _ (stages_one line (is_out name) true old (groups items)) (λ next. same (Ok (ended line name next))))

cut_one : (line : ℕ) (old : Outline) (found : Cut) → IsOne (CutAnswer line old found)
cut_one = grind (arith, nat_tests, name_one, same)

lines_one : (old : Outline) (lines : List (ℕ × List ℕ)) → IsOne (LinesAnswer old lines)
unfolding LinesAnswer
lines_one old [] = same _
lines_one old ((line, text) ∷ lines) = then_one _ _ (cut_one line old (cut_line text)) (λ next. lines_one next lines)

plan_one : (bytes : List ℕ) → IsOne (PlanAnswer bytes)
unfolding PlanAnswer
plan_one bytes = unless_one (option_map of_text (fault_of bytes)) _
    (then_one _ _ (lines_one nothing (branches_of bytes))
    (λ whole. unless_one (whole_fault (length (lines_of bytes)) whole.branches) _ (same (Ok whole.stages))))

pub one_plan : (bytes : List ℕ) → IsOnePlan bytes
one_plan bytes stages answer is = plan_one bytes stages answer ((read_as_written bytes stages).1 is)

-- The text of a plan is answered as it is written, or refused for the first rule that it breaks.
use Rattle.std.proofs.Common.{◌≡◌, ◌≢◌, ℕ, ◌<◌, ◌≤◌, ◌==◌, ◌&&◌, ◌||◌, not, Bool, true, false, List, [], ◌∷◌}
use Rattle.std.proofs.Common.{◌++◌, length, Option, None, Some, is_some, is_none, Ok, Err, refl, sym, ap, subst, ◌∙◌}
use Rattle.std.proofs.Common.{arith, option_map, slice_index, ◌-◌}
use Rattle.std.proofs.Math.Bool.{and-false, and-true}
use Rattle.std.proofs.lemmas.Bool.{eqb-true, and_parts, and_from, or_parts, both_ways}
use Rattle.std.proofs.lemmas.Bool.{false_from_ne_true, lt-leb, true_from_ne_false}
use Rattle.std.proofs.lemmas.Bool.Decides.{nat_tests}
use Rattle.std.proofs.lemmas.List.{append-nil}
use Rattle.std.proofs.lemmas.Option.{same_Some}
use Rattle.std.proofs.lemmas.Slice.Eq.{bytes_eq-Decides}
use Rattle.std.proofs.lemmas.Str.{IsUtf8-from_is_utf8, is_utf8-from_IsUtf8}
use Rattle.std.specs.Bool.{beq, Decides}
use Rattle.std.specs.Cmp.{booleans_Decides}
use Rattle.std.specs.List.{find, list_all}
use Rattle.std.specs.Prelude.{IsSome, nat_lt, nat_le}
use Rattle.std.specs.Str.{bytes_eq, IsUtf8, is_utf8}
use lib.Chars.{codes}
use Rattle.hum_score.proofs.Cases.{by_bool}
use Rattle.hum_words.specs.Branches.{branches_of, lines_of}
use Rattle.hum_words.specs.Cutting.{Cut, cut_line}
use Rattle.hum_words.specs.Names.{is_name, front_of, name_in}
use Rattle.hum_words.specs.Pieces.{Item}
use Rattle.hum_words.specs.Pieces as item
use Rattle.hum_words.specs.Text.{longest, fault_of}
use Rattle.hum_words.specs.Writing.{IsWritten}
use Rattle.hum_words.specs.declared.text.PlanTextFault.{PlanTextFault}
use Rattle.hum_words.proofs.Decided.{cut_as_written, refused_as_wrong}
use Rattle.hum_words.proofs.Ends.{with_colon, ends_in, front_is}
use Rattle.hum_words.specs.Commands.{commands, word_of, command_of}
use Rattle.hum_words.specs.declared.commands.Command.{Command}
use Rattle.hum_words.specs.declared.commands.Command.TheVariants as command
use Rattle.hum_options.specs.Answers.{Word, has_none}
use Rattle.hum_options.specs.Seen.{words_before_bar}
use Rattle.hum_plan.specs.declared.branches.Branch.{Branch}
use Rattle.hum_plan.specs.declared.faults.PlanFault.{PlanFault}
use Rattle.hum_plan.specs.declared.faults.PlanRule.TheVariants.{N3, N5, N11}
use Rattle.hum_plan.specs.Faults.{broken, of_text}
use Rattle.hum_plan.specs.Stages.{Stage}
use Rattle.hum_plan.specs.Branches.{branch_of, first_unused, is_out}
use Rattle.hum_plan.specs.Lines.{groups, groups_behind, empty_stage}
use Rattle.hum_plan.specs.Answers.{Outline, Outcome, nothing, is_source, is_end, Placed, StageAnswer, StagesAnswer}
use Rattle.hum_plan.specs.Answers.{Then, Unless, ended, first_name, behind_first, NameAnswer, CutAnswer, LinesAnswer}
use Rattle.hum_plan.specs.Answers.{WholeAnswer, PlanAnswer}
use Rattle.hum_plan.specs.Grammar.{IsStageOf, AddStages, IsNamed, IsNew, IsBranch, AreBranches, IsPlanOf}
use Rattle.hum_plan.specs.Laws.{IsReadAsWritten}
use Rattle.hum_plan.specs.Refused.{StageBreaks, too_many, unknown, misplaced, behind, BreaksAtStage}
use Rattle.hum_plan.specs.Refused.{LineBreaks, quotes, nameless, used, crowded, wordless, at_stage, BreaksAtLine}
use Rattle.hum_plan.specs.Refused.{WholeBreaks, outless, unused, BreaksFirstOf, unread, at_line, at_end}
use Rattle.hum_plan.specs.Refused.{IsRefusedInOrder}
use Rattle.hum_plan.proofs.Spelling.{Reads, CommandReads, gives, refuses, given, broken_by, none_there}
use Rattle.hum_plan.proofs.Spelling.{begins_read, begins_answers}

-- The command of a word.

find_true : {A : Type 0} (test : A → Bool) (xs : List A) (x : A) → find test xs ≡ Some x → test x ≡ true
find_true test [] x h = absurd (cc)
find_true test (y ∷ xs) x h = by_bool (test y)
    (λ w. rw (← same_Some y x (rw w at h)) w)
    (λ w. find_true test xs x (rw w at h))

command_spelled : {word : List ℕ} {kind : Command} → command_of word ≡ Some kind → word ≡ word_of kind
unfolding command_of
command_spelled {word} {kind} h =
    sym ((bytes_eq-Decides (word_of kind) word).0 (find_true (λ kind. bytes_eq (word_of kind) word) commands kind h))

command_known : (kind : Command) → command_of (word_of kind) ≡ Some kind
unfolding command_of
command_known command.Read = refl
command_known other = refl

not_known : {word : List ℕ} → ((kind : Command) → word ≢ word_of kind) → command_of word ≡ None
not_known {word} none = by_found (command_of word) refl
  where
    by_found : (found : Option Command) → command_of word ≡ found → command_of word ≡ None
    by_found None e = e
    by_found (Some kind) e = absurd (none kind (command_spelled e))

-- A stage.

abbrev is_filled : List Word → Bool
is_filled words = not (has_none words)

-- the words are those of a stage that is added, or break a rule
abbrev StageReads : ℕ → Bool → Bool → Outline → List Word → Outcome Outline → Type 0
StageReads line is_first is_last old words =
    Reads (IsStageOf is_first is_last old words) (StageBreaks line is_first is_last old words)

module _ (line : ℕ) (is_first is_last : Bool) (old : Outline) where
  fits : (kind : Command) → Decides (beq (is_source kind) is_first) (is_source kind ≡ is_first)
  fits kind = booleans_Decides (is_source kind) is_first

  placed : {n : ℕ} {words : List Word} (kind : Command) {answer : Outcome Outline} → length old.stages < 64
      → is_source kind ≡ is_first → CommandReads line n is_last old words kind answer
      → StageReads line is_first is_last old ((n, word_of kind) ∷ words) answer
  placed {n = n} {words = words} kind room place (gives h) = grind (arith, nat_tests, gives)
  placed kind room place (refuses h) = refuses (behind kind room place h)

  stage_read : (words : List Word) {answer : Outcome Outline} → is_filled words ≡ true
      → StageAnswer line is_first is_last old words answer → StageReads line is_first is_last old words answer
  stage_read [] full h = absurd (cc)
  stage_read ((n, word) ∷ words) {answer} full h = by_bool (nat_le 64 (length old.stages))
      (λ w. rw (rw w at h) (refuses (too_many (grind (arith, nat_tests)))))
      (λ w. by_command (grind (arith, nat_tests)) (command_of word) refl (rw w at h))
    where
      by_command : length old.stages < 64 → (found : Option Command) → command_of word ≡ found
          → Placed line is_first is_last old n words found answer
          → StageReads line is_first is_last old ((n, word) ∷ words) answer
      by_command room None e h = rw h (refuses (unknown room (λ kind is.
          let known : command_of word ≡ Some kind = ap command_of is ∙ command_known kind in cc)))
      by_command room (Some kind) e h = rw (command_spelled e) (by_bool (beq (is_source kind) is_first)
          (λ w. placed kind room ((fits kind).0 w) (begins_read line n is_last old words kind (rw w at h)))
          (λ w. rw (rw w at h) (refuses (misplaced kind room (λ is. both_ways _ w ((fits kind).1 is))))))

  stage_answers : (words : List Word) {answer : Outcome Outline} → StageReads line is_first is_last old words answer
      → StageAnswer line is_first is_last old words answer
  stage_answers words (gives h) = grind (arith, nat_tests, lt-leb, command_known, fits, begins_answers, gives)
  stage_answers words (refuses (too_many many)) = grind (arith, nat_tests)
  stage_answers words (refuses (unknown room none)) = rw (lt-leb _ _ room, not_known none) refl
  stage_answers words (refuses (misplaced kind room apart)) =
      grind (arith, nat_tests, false_from_ne_true, fits, lt-leb, command_known)
  stage_answers words (refuses (behind {n} {words = more} kind room place h)) =
      grind (arith, nat_tests, lt-leb, command_known, fits, begins_answers, refuses)

-- The stages of a line.

-- all stages are added, or the first that breaks a rule tells it
abbrev StagesRead : ℕ → Bool → Bool → Outline → List (List Word) → Outcome Outline → Type 0
StagesRead line ends is_first old stages =
    Reads (AddStages ends is_first old stages) (BreaksAtStage line ends is_first old stages)

goes_on : (front : List (List Word)) (words : List Word) (rest : List (List Word))
    → is_end (front ++ words ∷ rest) ≡ false
goes_on [] words rest = refl
goes_on (first ∷ front) words rest = refl

module _ (line : ℕ) (ends : Bool) where
  stages_on : {is_first : Bool} {old next : Outline} {words : List Word} {stages : List (List Word)}
      {answer : Outcome Outline} → IsStageOf is_first (ends && is_end stages) old words next
      → StagesRead line ends false next stages answer
      → StagesRead line ends is_first old (words ∷ stages) answer
  stages_on {next = next} one (gives h) = gives (next, one, h)
  stages_on {next = next} {words = words} one (refuses b) = refuses (record {
    front = words ∷ b.front;
    words = b.words;
    behind = b.behind;
    next = b.next;
    whole = ap (λ all. words ∷ all) b.whole;
    lawful = (next, rw (b.whole, goes_on b.front b.words b.behind, and-false) at one, b.lawful);
    broken = rw and-false b.broken;
  })

  stages_read : (is_first : Bool) (old : Outline) (stages : List (List Word)) {answer : Outcome Outline}
      → list_all is_filled stages ≡ true → StagesAnswer line ends is_first old stages answer
      → StagesRead line ends is_first old stages answer
  unfolding StagesAnswer
  stages_read is_first old [] full h = rw h (gives refl)
  stages_read is_first old (words ∷ stages) full (Ok next, first, rest) =
      let all = and_parts _ _ full in
      stages_on (given (stage_read line is_first (ends && is_end stages) old words all.0 first))
      (stages_read false next stages all.1 rest)
  stages_read is_first old (words ∷ stages) full (Err fault, first, is) =
      let all = and_parts _ _ full in
      rw is (refuses {fault = fault} (record {
        front = [];
        words = words;
        behind = stages;
        next = old;
        whole = refl;
        lawful = refl;
        broken = rw and-true (broken_by (stage_read line is_first (ends && is_end stages) old words all.0 first));
      }))

  -- stages that are lawful are passed over
  stages_pass : (is_first : Bool) (old next : Outline) (front rest : List (List Word))
      (answer : Outcome Outline) → AddStages (ends && is_end rest) is_first old front next
      → StagesAnswer line ends (is_first && is_end front) next rest answer
      → StagesAnswer line ends is_first old (front ++ rest) answer
  unfolding StagesAnswer
  stages_pass is_first old next [] rest answer lawful h = rw (lawful, and-true) at h
  stages_pass is_first old next (words ∷ front) rest answer (middle, one, lawful) h = (
    Ok middle,
    stage_answers line is_first (ends && is_end (front ++ rest)) old words (gives (rw (at_end front) at one)),
    stages_pass false middle next front rest answer lawful (rw and-false at h),
  )
    where
      at_end : (front : List (List Word)) → ((ends && is_end rest) && is_end front) ≡ (ends && is_end (front ++ rest))
      at_end = grind (arith, nat_tests)

  stages_answer : (is_first : Bool) (old : Outline) (stages : List (List Word)) {answer : Outcome Outline}
      → StagesRead line ends is_first old stages answer → StagesAnswer line ends is_first old stages answer
  unfolding StagesAnswer
  stages_answer is_first old stages (gives {given = new} h) =
      grind (arith, nat_tests, append-nil stages, stages_pass is_first old new stages, and-true ends)
  stages_answer is_first old stages (refuses {fault} b) =
      let front = rw (← and-false ends) at b.lawful in
      let one = stage_answers line (is_first && is_end b.front) (ends && is_end b.behind) b.next b.words in
      rw b.whole (stages_pass is_first old b.next b.front (b.words ∷ b.behind) (Err fault) front
      (Err fault, one (refuses b.broken), refl))

-- Stages without words.

-- no stage is found to lack words where each has some
lacks_none : (n : ℕ) (lacks : Bool) (items : List Item) → is_none (empty_stage n lacks items)
    ≡ ((not lacks || is_filled (words_before_bar items)) && list_all is_filled (groups_behind items))
lacks_none n false (item.Bar m ∷ items) = lacks_none m true items
lacks_none n true (item.Word m word ∷ items) = lacks_none m false items
lacks_none n false (item.Word m word ∷ items) = lacks_none m false items
lacks_none n lacks items = grind (arith, nat_tests)

stages_filled : (ends is_first : Bool) (old new : Outline) (stages : List (List Word))
    → AddStages ends is_first old stages new → list_all is_filled stages ≡ true
stages_filled ends is_first old new [] h = refl
stages_filled ends is_first old new (words ∷ stages) (next, one, h) =
    and_from _ _ (rw one.whole refl) (stages_filled ends false next new stages h)

-- The name of a line.

name_spelled : (word name : List ℕ) → name_in word ≡ Some name → (word ≡ name ++ 58 ∷ []) × (is_name name ≡ true)
name_spelled word name h = by_bool (slice_index word (length word - 1) == 58 && is_name (front_of word))
    (λ w.
    let both = and_parts _ _ w in
    let front : front_of word ≡ name = same_Some _ name (rw w at h) in
    let last = ends_in word 58 (omega arith) (eqb-true _ _ both.0) in
    let same : front_of word ≡ last.0 = ap front_of last.1 ∙ front_is last.0 58 in
    (last.1 ∙ ap (λ bytes. bytes ++ 58 ∷ []) (sym same ∙ front), ap is_name (sym front) ∙ both.1))
    (λ w. let no = rw w at h in absurd (cc))

pub named_cut : {text name : List ℕ} {rest : List Item} (named : IsNamed text name rest)
    → (cut_line text ≡ Ok (item.Word named.number (name ++ 58 ∷ []) ∷ rest)) × (name_in (name ++ 58 ∷ []) ≡ Some name)
named_cut {text} {name} {rest} named = (
  (cut_as_written text (item.Word named.number (name ++ 58 ∷ []) ∷ rest)).0 named.written,
  with_colon (name ++ 58 ∷ []) name refl ∙ (rw named.is_name refl),
)

cut_named : {text name : List ℕ} (items : List Item) → cut_line text ≡ Ok items → first_name items ≡ Some name
    → IsNamed text name (behind_first items)
cut_named [] cut name = absurd (cc)
cut_named (item.Bar n ∷ items) cut name = absurd (cc)
cut_named {text} {name} (item.Word n word ∷ items) cut is =
    let q = name_spelled word name is in
    record {
      number = n;
      written = subst (λ w. IsWritten (item.Word n w ∷ items) text) q.0
          ((cut_as_written text (item.Word n word ∷ items)).1 cut);
      is_name = q.1;
    }

unnamed : {text name : List ℕ} {items rest : List Item} → cut_line text ≡ Ok items → first_name items ≡ None
    → ¬ IsNamed text name rest
unnamed {name = name} {items = items} {rest = rest} cut none named = grind (arith, nat_tests, named_cut named)

-- whether a line before has the name, or is `out`
abbrev is_old : Outline → List ℕ → Bool
is_old old name = is_some (branch_of (codes "out") old.branches) || is_some (branch_of name old.branches)

pub not_there : {A : Type 0} (x : Option A) → is_some x ≡ false → x ≡ None
not_there = grind (arith, nat_tests)

new_name : {old : Outline} {name : List ℕ} → is_old old name ≡ false → IsNew old name
new_name h = let p = or_parts _ _ h in record { goes_on = not_there _ p.0; is_new = not_there _ p.1 }

name_new : {old : Outline} {name : List ℕ} → IsNew old name → is_old old name ≡ false
name_new h = rw (h.goes_on, h.is_new) refl

-- A line.

-- a line is a branch, or breaks a rule
abbrev LineReads : Outline → ℕ → List ℕ → Outcome Outline → Type 0
LineReads old line text = Reads (IsBranch old line text) (LineBreaks old line text)

module _ (line : ℕ) (old : Outline) where
  name_read : {text name : List ℕ} {items : List Item} {answer : Outcome Outline} → IsNamed text name items
      → NameAnswer line old items (Some name) answer → LineReads old line text answer
  name_read {text} {name} {items} {answer} named h = by_bool (is_old old name)
      (λ w. rw (rw w at h) (refuses (used named (λ new. both_ways _ (name_new new) w))))
      (λ w. by_bool (nat_le 16 (length old.branches))
      (λ v. rw (rw (w, v) at h) (refuses (crowded named (new_name w) (grind (arith, nat_tests)))))
      (λ v. by_empty (new_name w) (grind (arith, nat_tests)) (empty_stage 1 true items) refl (rw (w, v) at h)))
    where
      full : empty_stage 1 true items ≡ None → list_all is_filled (groups items) ≡ true
      full e = sym (lacks_none 1 true items) ∙ ap is_none e

      by_empty : IsNew old name → length old.branches < 16 → (found : Option ℕ) → empty_stage 1 true items ≡ found
          → Unless (option_map (λ n. broken line n N5) found)
          (Then (StagesAnswer line (is_out name) true old (groups items))
          (λ next answer. answer ≡ Ok (ended line name next))) answer
          → LineReads old line text answer
      by_empty new room (Some n) e h = rw h (refuses (wordless named new room e))
      by_empty new room None e (Ok next, stages, is) =
          grind (arith, nat_tests, gives, given, stages_read, full)
      by_empty new room None e (Err fault, stages, is) = rw is (refuses (at_stage named new room e
          (broken_by (stages_read line (is_out name) true old (groups items) (full e) stages))))

  line_read : (text : List ℕ) {answer : Outcome Outline} → CutAnswer line old (cut_line text) answer
      → LineReads old line text answer
  line_read text {answer} h = by_cut (cut_line text) refl h
    where
      by_name : (items : List Item) → cut_line text ≡ Ok items → (found : Option (List ℕ)) → first_name items ≡ found
          → NameAnswer line old (behind_first items) found answer → LineReads old line text answer
      by_name items cut None e h =
          rw h (refuses (nameless items ((cut_as_written text items).1 cut) (λ name rest. unnamed cut e)))
      by_name items cut (Some name) e h = name_read (cut_named items cut e) h

      by_cut : (found : Cut) → cut_line text ≡ found → CutAnswer line old found answer → LineReads old line text answer
      by_cut (Err k) e h = rw h (refuses (quotes ((refused_as_wrong text k).1 e)))
      by_cut (Ok items) e h = by_name items e (first_name items) refl h

  -- what a named line is answered by its name and what stands behind it
  named_answers : {text name : List ℕ} {items : List Item} (answer : Outcome Outline) → IsNamed text name items
      → NameAnswer line old items (Some name) answer → CutAnswer line old (cut_line text) answer
  named_answers answer named h = let c = named_cut named in rw (c.0, c.1) h

  line_answers : (text : List ℕ) {answer : Outcome Outline} → LineReads old line text answer
      → CutAnswer line old (cut_line text) answer
  line_answers text (gives {given = new} b) =
      let full = stages_filled (is_out b.name) true old b.next (groups b.items) b.stages in
      let none = none_there (lacks_none 1 true b.items ∙ full) in
      named_answers (Ok new) b.named (rw (name_new b.is_new, lt-leb _ _ b.room, none)
      (Ok b.next, stages_answer line (is_out b.name) true old (groups b.items) (gives b.stages), rw b.ends refl))
  line_answers text (refuses (quotes {k} w)) = rw ((refused_as_wrong text k).0 w) refl
  line_answers text (refuses (nameless items written none)) =
      let cut = (cut_as_written text items).0 written in rw cut (by_name (first_name items) refl)
    where
      by_name : (found : Option (List ℕ)) → first_name items ≡ found
          → NameAnswer line old (behind_first items) found (Err (broken line 1 N3))
      by_name None e = refl
      by_name (Some name) e = absurd (none name _ (cut_named items ((cut_as_written text items).0 written) e))
  line_answers text {answer} (refuses (used named not_new)) =
      let w = true_from_ne_false _ (λ w. not_new (new_name w)) in named_answers answer named (rw w refl)
  line_answers text {answer} (refuses (crowded named new many)) =
      let v : nat_le 16 (length old.branches) ≡ true = grind (arith, nat_tests) in
      named_answers answer named (rw (name_new new, v) refl)
  line_answers text {answer} (refuses (wordless named new room e)) =
      named_answers answer named (rw (name_new new, lt-leb _ _ room, e) refl)
  line_answers text {answer} (refuses (at_stage {name} {items} {fault} named new room none b)) =
      named_answers answer named (rw (name_new new, lt-leb _ _ room, none)
      (Err fault, stages_answer line (is_out name) true old (groups items) (refuses b), refl))

-- The lines of a plan.

abbrev Lines : Type 0
Lines = List (ℕ × List ℕ)

-- all lines are branches, or the first that breaks a rule tells it
abbrev LinesRead : Outline → Lines → Outcome Outline → Type 0
LinesRead old lines = Reads (AreBranches old lines) (BreaksAtLine old lines)

lines_on : {old next : Outline} {line : ℕ} {text : List ℕ} {lines : Lines} {answer : Outcome Outline}
    → IsBranch old line text next → LinesRead next lines answer → LinesRead old ((line, text) ∷ lines) answer
lines_on {next = next} one (gives h) = gives (next, one, h)
lines_on {next = next} {line = line} {text = text} one (refuses b) = refuses (record {
  front = (line, text) ∷ b.front;
  line = b.line;
  text = b.text;
  behind = b.behind;
  next = b.next;
  whole = ap (λ all. (line, text) ∷ all) b.whole;
  lawful = (next, one, b.lawful);
  broken = b.broken;
})

lines_read : (old : Outline) (lines : Lines) {answer : Outcome Outline}
    → LinesAnswer old lines answer → LinesRead old lines answer
unfolding LinesAnswer
lines_read old [] h = rw h (gives refl)
lines_read old ((line, text) ∷ lines) (Ok next, first, rest) = lines_on (given (line_read line old text first))
    (lines_read next lines rest)
lines_read old ((line, text) ∷ lines) (Err fault, first, is) = rw is (refuses (record {
  front = [];
  line = line;
  text = text;
  behind = lines;
  next = old;
  whole = refl;
  lawful = refl;
  broken = broken_by (line_read line old text first);
}))

-- lines that are branches are passed over
lines_pass : (old next : Outline) (front rest : Lines) (answer : Outcome Outline) → AreBranches old front next
    → LinesAnswer next rest answer → LinesAnswer old (front ++ rest) answer
unfolding LinesAnswer
lines_pass old next [] rest answer lawful h = rw lawful at h
lines_pass old next ((line, text) ∷ front) rest answer (middle, one, lawful) h =
    (Ok middle, line_answers line old text (gives one), lines_pass middle next front rest answer lawful h)

lines_answer : (old : Outline) (lines : Lines) {answer : Outcome Outline}
    → LinesRead old lines answer → LinesAnswer old lines answer
unfolding LinesAnswer
lines_answer old lines (gives {given = new} h) =
    subst (λ all. LinesAnswer old all (Ok new)) (append-nil lines) (lines_pass old new lines [] (Ok new) h refl)
lines_answer old lines (refuses {fault} b) = rw b.whole
    (lines_pass old b.next b.front ((b.line, b.text) ∷ b.behind) (Err fault) b.lawful
    (Err fault, line_answers b.line b.next b.text (refuses b.broken), refl))

-- A plan.

text_there : (bytes : List ℕ) → fault_of bytes ≡ None → (length bytes ≤ longest) × IsUtf8 bytes
unfolding fault_of
text_there bytes h = by_bool (nat_lt longest (length bytes))
    (λ w. let no = rw w at h in absurd (cc))
    (λ w. by_bool (is_utf8 bytes)
    (λ v. (grind (arith, nat_tests), IsUtf8-from_is_utf8 bytes v))
    (λ v. let no = rw (w, v) at h in absurd (cc)))

no_fault : (bytes : List ℕ) → length bytes ≤ longest → IsUtf8 bytes → fault_of bytes ≡ None
unfolding fault_of
no_fault = grind (arith, nat_tests, is_utf8-from_IsUtf8)

-- a text is a plan, or breaks a rule
abbrev PlanReads : List ℕ → Outcome (List Stage) → Type 0
PlanReads bytes = Reads (IsPlanOf bytes) (BreaksFirstOf bytes)

whole_read : (bytes : List ℕ) (whole : Outline) {answer : Outcome (List Stage)} → fault_of bytes ≡ None
    → AreBranches nothing (branches_of bytes) whole → WholeAnswer (length (lines_of bytes)) whole answer
    → PlanReads bytes answer
whole_read bytes whole {answer} none lines h = by_out (branch_of (codes "out") whole.branches) refl h
  where
    by_used : IsSome (branch_of (codes "out") whole.branches) → (found : Option ℕ) → first_unused whole.branches ≡ found
        → Unless (option_map (λ line. broken line 0 N11) found) (λ answer. answer ≡ Ok whole.stages) answer
        → PlanReads bytes answer
    by_used out (Some line) e h = rw h (refuses (at_end none (unused whole lines out e)))
    by_used out None e h =
        let text = text_there bytes none in
        rw h (gives (record {
          whole = whole;
          short = text.0;
          utf8 = text.1;
          branches = lines;
          out = out;
          taken = e;
          meaning = refl;
        }))

    by_out : (found : Option Branch) → branch_of (codes "out") whole.branches ≡ found
        → WholeAnswer (length (lines_of bytes)) whole answer → PlanReads bytes answer
    by_out None e h = rw (rw e at h) (refuses (at_end none (outless whole lines e)))
    by_out (Some branch) e h = by_used (rw e refl) (first_unused whole.branches) refl (rw e at h)

plan_read : (bytes : List ℕ) {answer : Outcome (List Stage)} → PlanAnswer bytes answer → PlanReads bytes answer
unfolding PlanAnswer
plan_read bytes {answer} h = by_text (fault_of bytes) refl h
  where
    by_text : (found : Option PlanTextFault) → fault_of bytes ≡ found
        → Unless (option_map of_text found)
        (Then (LinesAnswer nothing (branches_of bytes)) (WholeAnswer (length (lines_of bytes)))) answer
        → PlanReads bytes answer
    by_text (Some fault) e h = rw h (refuses (unread e))
    by_text None e (Ok whole, lines, h) = grind (arith, nat_tests, whole_read, given, lines_read)
    by_text None e (Err fault, lines, is) =
        rw is (refuses (at_line e (broken_by (lines_read nothing (branches_of bytes) lines))))

is_there : {A : Type 0} (x : Option A) → IsSome x → is_none x ≡ false
is_there = grind (arith, nat_tests)

whole_fails : {bytes : List ℕ} {fault : PlanFault} → WholeBreaks bytes fault → (all : Outline)
    × AreBranches nothing (branches_of bytes) all × WholeAnswer (length (lines_of bytes)) all (Err fault)
whole_fails = grind (arith, nat_tests)

plan_answers : (bytes : List ℕ) {answer : Outcome (List Stage)} → PlanReads bytes answer → PlanAnswer bytes answer
unfolding PlanAnswer
plan_answers bytes (gives p) =
    let lines = lines_answer nothing (branches_of bytes) (gives p.branches) in
    rw (no_fault bytes p.short p.utf8) (Ok p.whole, lines, rw (is_there _ p.out, p.taken, p.meaning) refl)
plan_answers bytes (refuses (unread e)) = rw e refl
plan_answers bytes (refuses (at_line {fault} none b)) = rw none
    (Err fault, lines_answer nothing (branches_of bytes) (refuses b), refl)
plan_answers bytes (refuses (at_end none w)) =
    let r = whole_fails w in rw none (Ok r.0, lines_answer nothing (branches_of bytes) (gives r.1), r.2)

pub read_as_written : (bytes : List ℕ) → IsReadAsWritten bytes
read_as_written bytes stages = (λ h. given (plan_read bytes h), λ p. plan_answers bytes (gives p))

pub refused_in_order : (bytes : List ℕ) → IsRefusedInOrder bytes
refused_in_order bytes fault = (λ h. broken_by (plan_read bytes h), λ b. plan_answers bytes (refuses b))

-- The stages of a plan are a tree.
use Rattle.std.proofs.lemmas.Grind.{common_steps}
use Rattle.std.proofs.Common.{◌≡◌, ◌⊎◌, ℕ, suc, ◌+◌, ◌<◌, ◌≤◌, ◌==◌, ◌&&◌, not, Bool, true, false}
use Rattle.std.proofs.Common.{List, [], ◌∷◌, ◌++◌, length, None, Some, is_some, Ok, slice_get, refl, sym, subst}
use Rattle.std.proofs.Common.{◌∙◌, if◌then◌else◌, arith, length-append, zero-add}
use Rattle.std.proofs.Math.Bool.{and-false, and-true}
use Rattle.std.proofs.lemmas.List.{append-nil}
use Rattle.std.proofs.lemmas.Bool.{eq-eqb, false≢true, both_ways, false_from_ne_true}
use Rattle.std.proofs.lemmas.Bool.Decides.{nat_tests}
use Rattle.std.proofs.lemmas.Option.{same_Some}
use Rattle.std.proofs.lemmas.Slice.Eq.{bytes_eq-Decides}
use Rattle.std.specs.List.{AllByRecursion}
use Rattle.std.specs.Prelude.{IsSome, nat_le}
use Rattle.std.specs.Str.{bytes_eq}
use lib.Chars.{codes}
use Rattle.hum_score.proofs.Cases.{by_bool}
use Rattle.hum_words.specs.declared.commands.Command.{Command}
use Rattle.hum_words.specs.declared.commands.Command.TheVariants as command
use Rattle.hum_options.specs.Answers.{Word}
use Rattle.hum_plan.specs.declared.branches.Branch.{Branch}
use Rattle.hum_plan.specs.Stages.{Stage, IsStage, IsTree, MayHave, all_sources, times, drops_interpretations}
use Rattle.hum_plan.specs.Branches.{Branches, branch_of, with_branch, first_unused, taken, is_out}
use Rattle.hum_plan.specs.Lines.{groups}
use Rattle.hum_plan.specs.Answers.{Outline, nothing, is_source, is_end, ended, PlanAnswer}
use Rattle.hum_plan.specs.Grammar.{SpellsOptions, TakesBranches, AddsStage, AddStages, IsBranch, AreBranches}
use Rattle.hum_plan.specs.Laws.{HasATree}
use Rattle.hum_plan.proofs.Written.{read_as_written}
use Rattle.hum_plan.proofs.Said.{added, end_said, stays_new}
use Rattle.hum_plan.proofs.Quiet.{spelled_quiet}

-- Numbers, and how often they come.

times_append : (n : ℕ) (xs ys : List ℕ) → times n (xs ++ ys) ≡ times n xs + times n ys
times_append n [] ys = sym (zero-add (times n ys))
times_append n (x ∷ xs) ys = rw (times_append n xs ys) (omega arith)

-- how often n is among the numbers from 1 to m
abbrev among : ℕ → ℕ → ℕ
among m n = if n == 0 then 0 else if nat_le n m then 1 else 0

among_more : (m n : ℕ) → among (m + 1) n ≡ (if m + 1 == n then 1 else 0) + among m n
among_more m n = grind (arith, nat_tests)

among_some : (m n : ℕ) → 1 ≤ among m n → (1 ≤ n) × (n ≤ m)
among_some m n h = (grind (arith, nat_tests), grind (arith, nat_tests))

among_one : (m n : ℕ) → 1 ≤ n → n ≤ m → among m n ≡ 1
among_one m n low high = grind (arith, nat_tests)

all_that_come : (P : ℕ → Type 0) (xs : List ℕ) → ((n : ℕ) → 1 ≤ times n xs → P n) → AllByRecursion P xs
all_that_come P [] h = tt
all_that_come P (x ∷ xs) h =
    let here : 1 ≤ times x (x ∷ xs) = rw (eq-eqb x x refl) (omega arith) in
    (h x here, all_that_come P xs (λ n c. h n (omega arith)))

sources_append : (stages : List Stage) (stage : Stage)
    → all_sources (stages ++ stage ∷ []) ≡ all_sources stages ++ stage.sources
sources_append [] stage = append-nil stage.sources
sources_append (first ∷ stages) stage = grind (arith, common_steps, sources_append stages stage)

-- an element behind one more
last_or_before : {A : Type 0} (xs : List A) (y : A) (k : ℕ) (x : A) → slice_get (xs ++ y ∷ []) k ≡ Some x
    → (slice_get xs k ≡ Some x) ⊎ ((k ≡ length xs) × (x ≡ y))
last_or_before (z ∷ xs) y (suc k) x h = grind (arith, nat_tests, last_or_before xs y k x h)
last_or_before xs y k x h = grind (arith, nat_tests)

-- Stages, and ends that are still loose: each number of a stage is a source once, or an end. All give scores, but the
-- last may give none where it is loud.
record IsGrown (is_loud : Bool) (stages : List Stage) (ends : List ℕ) : Type 0 where
  bound : length stages ≤ 64
  counts : (k : ℕ) (stage : Stage) → IsStage stages k stage → MayHave stage.options (length stage.sources)
  lower : (k : ℕ) (stage : Stage) → IsStage stages k stage → AllByRecursion (λ s. (1 ≤ s) × (s ≤ k)) stage.sources
  each : (n : ℕ) → times n (all_sources stages) + times n ends ≡ among (length stages) n
  scores : (k : ℕ) (stage : Stage) → IsStage stages k stage → (is_loud ≡ true → k + 1 < length stages)
      → drops_interpretations stage.options ≡ false

-- one stage more, whose sources are loose ends
grows : (is_last : Bool) (stages : List Stage) (stage : Stage) (ends next : List ℕ) → IsGrown false stages ends
    → length stages < 64
    → MayHave stage.options (length stage.sources) → ((n : ℕ) → times n ends ≡ times n stage.sources + times n next)
    → (is_last ≡ false → drops_interpretations stage.options ≡ false)
    → IsGrown is_last (stages ++ stage ∷ []) (length (stages ++ stage ∷ []) ∷ next)
grows is_last stages stage ends next grown room may parts quiet =
    let longer = length-append stages (stage ∷ []) in
    record {
      bound = omega (arith, longer);
      counts = grind (arith, nat_tests, last_or_before);
      lower = grind (arith, nat_tests, last_or_before, all_that_come, among_some);
      each = grind (arith, nat_tests, sources_append, times_append, among_more);
      scores = grind (arith, nat_tests, last_or_before, false≢true, false_from_ne_true);
    }

-- Branches.

-- the last stages of branches that aren't taken
abbrev loose : Branches → List ℕ
loose [] = []
loose (entry ∷ more) = if entry.1.taken then loose more else entry.1.last ∷ loose more

taken_loose : (n : ℕ) (name : List ℕ) (branch : Branch) (bs : Branches) → branch_of name bs ≡ Some branch
    → branch.taken ≡ false
    → times n (loose bs) ≡ (if branch.last == n then 1 else 0) + times n (loose (with_branch bs name (taken branch)))
taken_loose n name branch [] found free = absurd (cc)
taken_loose n name branch (entry ∷ more) found free = by_bool (bytes_eq name entry.0)
    (λ w. let is : entry.1 ≡ branch = same_Some entry.1 branch (rw w at found) in rw (w, is, free) refl)
    (λ w. let rest = taken_loose n name branch more (rw w at found) free in
    by_bool entry.1.taken (λ t. rw (w, t) rest) (λ t. rw (w, t) (omega (arith, rest))))

takes_loose : (before : Branches) (words : List Word) (sources : List ℕ) (after : Branches)
    → TakesBranches before words sources after
    → (n : ℕ) → times n (loose before) ≡ times n sources + times n (loose after)
takes_loose before [] sources after h n = rw (h.0, h.1) (sym (zero-add (times n (loose before))))
takes_loose before ((k, name) ∷ words) sources after (branch, more, found, free, is, h) n =
    let one = taken_loose n name branch before found free in
    let rest = takes_loose (with_branch before name (taken branch)) words more after h n in
    rw is (omega (arith, one, rest))

loose_behind : (name : List ℕ) (branch : Branch) (bs : Branches)
    → loose (bs ++ (name, branch) ∷ []) ≡ loose bs ++ (if branch.taken then [] else branch.last ∷ [])
loose_behind name branch [] = refl
loose_behind name branch (entry ∷ more) = grind (arith, nat_tests, loose_behind name branch more)

none_loose : (bs : Branches) → first_unused bs ≡ None → loose bs ≡ []
none_loose [] h = refl
none_loose (entry ∷ more) h = by_bool entry.1.taken
    (λ t. rw t (none_loose more (rw t at h))) (λ t. let no = rw t at h in absurd (cc))

-- Stages.

-- the loose ends of branches, and behind a stage of a line that one too
abbrev ends_at : Bool → Outline → List ℕ
ends_at true outline = loose outline.branches
ends_at false outline = length outline.stages ∷ loose outline.branches

-- a source joins ends of branches, and another stage the one before it
stage_grows : (is_last : Bool) (old new : Outline) (words : List Word) (kind : Command)
    → AddsStage is_last old words kind new → length old.stages < 64
    → IsGrown false old.stages (ends_at (is_source kind) old)
    → IsGrown is_last new.stages (ends_at false new)
stage_grows is_last old new words command.Read h room grown =
    rw h.4 (grows is_last old.stages _ _ (loose old.branches) grown room refl (λ n. sym (zero-add _)) (λ e. refl))
stage_grows is_last old new words command.Assemble h room grown =
    rw h.5 (grows is_last old.stages _ _ (loose h.1) grown room (h.3, h.4)
    (takes_loose old.branches words h.0 h.1 h.2) (λ e. refl))
stage_grows is_last old new words kind (options, spells, is) room grown =
    rw is (grows is_last old.stages _ _ (loose old.branches) grown room refl (λ n. omega arith)
    (λ e. spelled_quiet kind words options (subst (λ last. SpellsOptions last kind words options) e spells)))

stages_grow : (ends is_first : Bool) (old new : Outline) (stages : List (List Word))
    → AddStages ends is_first old stages new → IsGrown (ends && is_end stages) old.stages (ends_at is_first old)
    → IsGrown ends new.stages (ends_at (is_first && is_end stages) new)
stages_grow ends is_first old new [] h grown = rw (h, and-true) (rw and-true at grown)
stages_grow ends is_first old new (words ∷ stages) (next, one, h) grown =
    rw and-false (stages_grow ends false next new stages h
    (stage_grows (ends && is_end stages) old next one.behind one.kind one.adds one.room
    (rw (and-false, ← one.place) at grown)))

-- Lines.

abbrev has_out : Outline → Bool
has_out outline = is_some (branch_of (codes "out") outline.branches)

-- between lines: the last stage of `out` is a loose end too
abbrev IsSound : Outline → Type 0
IsSound outline = IsGrown (has_out outline) outline.stages (ends_at (not (has_out outline)) outline)

eq_sym : (xs ys : List ℕ) → bytes_eq xs ys ≡ bytes_eq ys xs
eq_sym = grind (arith, nat_tests, false_from_ne_true, both_ways, bytes_eq-Decides)

-- the branch of a line is entered
enters : (line : ℕ) (name : List ℕ) (next : Outline) → branch_of name next.branches ≡ None
    → branch_of (codes "out") next.branches ≡ None → IsGrown (is_out name) next.stages (ends_at false next)
    → IsSound (ended line name next)
enters line name next absent goes_on grown =
    let out : has_out (ended line name next) ≡ is_out name =
    (end_said line name next absent).names (codes "out") ∙ (rw goes_on (eq_sym (codes "out") name)) in
    rw out (by_bool (is_out name)
    (λ w. rw w (rw (added name _ next.branches absent, loose_behind, append-nil) (rw w at grown)))
    (λ w. let g : IsGrown false next.stages (ends_at false next) = rw w at grown in
    rw w (record {
      bound = g.bound;
      counts = g.counts;
      lower = g.lower;
      each = λ n. rw (added name _ next.branches absent, loose_behind, times_append) (omega (arith, g.each n));
      scores = g.scores;
    })))

line_sound : (old new : Outline) (line : ℕ) (text : List ℕ) → IsBranch old line text new → IsSound old → IsSound new
line_sound old new line text b sound =
    let stages = groups b.items in
    rw b.ends (enters line b.name b.next
    (stays_new b.name (is_out b.name) true old b.next stages b.stages b.is_new.is_new)
    (stays_new (codes "out") (is_out b.name) true old b.next stages b.stages b.is_new.goes_on)
    (stages_grow (is_out b.name) true old b.next stages b.stages (rw and-false (rw b.is_new.goes_on at sound))))

lines_sound : (old new : Outline) (lines : List (ℕ × List ℕ)) → AreBranches old lines new → IsSound old → IsSound new
lines_sound old new [] h sound = rw h sound
lines_sound old new ((line, text) ∷ lines) (next, one, h) sound =
    lines_sound next new lines h (line_sound old next line text one sound)

nothing_sound : IsSound nothing
nothing_sound = grind (arith, nat_tests)

-- a plan that has come to its end
ends_as_tree : (whole : Outline) → IsSome (branch_of (codes "out") whole.branches) → first_unused whole.branches ≡ None
    → IsSound whole → IsTree whole.stages
ends_as_tree whole out used sound =
    let m = length whole.stages in
    let grown : IsGrown true whole.stages (m ∷ []) = rw (out, none_loose whole.branches used) at sound in
    record {
      some =
          let same : (m == m) ≡ true = eq-eqb m m refl in
          let there : 1 ≤ among m m = omega (arith, rw same at (grown.each m)) in
          (among_some m m there).0;
      bound = grown.bound;
      counts = grown.counts;
      lower = grown.lower;
      once = grind (arith, nat_tests, among_one);
      scores = λ k stage h front. grown.scores k stage h (λ e. front);
    }

pub has_a_tree : (bytes : List ℕ) → HasATree bytes
has_a_tree = grind (arith, nat_tests, ends_as_tree, lines_sound, nothing_sound)

-- so the stages of a plan that is answered are a tree
pub answers_a_tree : (bytes : List ℕ) (stages : List Stage) → PlanAnswer bytes (Ok stages) → IsTree stages
answers_a_tree bytes stages h = has_a_tree bytes stages ((read_as_written bytes stages).0 h)

-- What is known behind some lines is what they say.
use Rattle.std.proofs.lemmas.Grind.{common_steps}
use Rattle.std.proofs.lemmas.Bool.Decides.{nat_tests}
use Rattle.std.proofs.Common.{◌≡◌, ℕ, ◌+◌, ◌&&◌, ◌||◌, Bool, true, false, List, [], ◌∷◌, ◌++◌}
use Rattle.std.proofs.Common.{length, None, Some, is_some, refl, sym, ap, ◌∙◌, arith, cond}
use Rattle.std.proofs.Math.Bool.{or_assoc, or-false, or-true, and-false, and-true}
use Rattle.std.proofs.lemmas.Bool.{both_ways, false_from_ne_true}
use Rattle.std.proofs.lemmas.List.{length-append}
use Rattle.std.proofs.lemmas.Slice.Eq.{bytes_eq-Decides}
use Rattle.std.specs.List.{list_any}
use Rattle.std.specs.Str.{bytes_eq}
use Rattle.hum_score.proofs.Cases.{by_bool}
use Rattle.hum_words.specs.Cutting.{cut_line}
use Rattle.hum_words.specs.Commands.{word_of}
use Rattle.hum_words.specs.declared.commands.Command.{Command}
use Rattle.hum_words.specs.declared.commands.Command.TheVariants as command
use Rattle.hum_options.specs.Answers.{Word, text_of_word}
use Rattle.hum_plan.specs.declared.branches.Branch.{Branch}
use Rattle.hum_plan.specs.Stages.{Options}
use Rattle.hum_plan.specs.Branches.{Branches, branch_of, with_branch, taken, is_out}
use Rattle.hum_plan.specs.Lines.{groups}
use Rattle.hum_plan.specs.Answers.{Outline, ended, with_stage}
use Rattle.hum_plan.specs.Grammar.{TakesBranches, AddsStage, IsStageOf, AddStages, IsBranch, AreBranches}
use Rattle.hum_plan.specs.Said.{names_cut, stages_cut, is_assembled, is_used, is_taken_in, stage_count, is_taken}
use Rattle.hum_plan.specs.Said.{LinesSayAll}
use Rattle.hum_plan.proofs.Written.{named_cut, not_there}

same_text : (x y : List ℕ) → bytes_eq x y ≡ true → x ≡ y
same_text x y w = (bytes_eq-Decides x y).0 w

-- Branches.

-- a branch that is put
look : (x name : List ℕ) (branch : Branch) (bs : Branches)
    → branch_of x (with_branch bs name branch) ≡ cond (bytes_eq x name) (Some branch) (branch_of x bs)
look x name branch [] = refl
look x name branch (entry ∷ more) = by_bool (bytes_eq name entry.0)
    (λ w.
    let e = same_text name entry.0 w in
    by_bool (bytes_eq x entry.0) (λ v. rw (w, e, v) refl) (λ v. rw (w, e, v) refl))
    (λ w. by_bool (bytes_eq x entry.0)
    (λ v.
    let other = false_from_ne_true (bytes_eq x name)
    (λ u. both_ways _ w ((bytes_eq-Decides name entry.0).1 (sym (same_text x name u) ∙ same_text x entry.0 v))) in
    rw (w, v, other) refl)
    (λ v. rw (w, v) (look x name branch more)))

-- one that takes the place of another
kept_size : (name : List ℕ) {other : Branch} (branch : Branch) (bs : Branches) → branch_of name bs ≡ Some other
    → length (with_branch bs name branch) ≡ length bs
kept_size name branch [] h = cc
kept_size name branch (entry ∷ more) h = by_bool (bytes_eq name entry.0)
    (λ w. rw w refl)
    (λ w. let e = kept_size name branch more (rw w at h) in rw w (omega (arith, e)))

-- a new one
pub added : (name : List ℕ) (branch : Branch) (bs : Branches) → branch_of name bs ≡ None
    → with_branch bs name branch ≡ bs ++ (name, branch) ∷ []
added name branch [] absent = refl
added name branch (entry ∷ more) absent = by_bool (bytes_eq name entry.0)
    (λ w. let no = rw w at absent in cc)
    (λ w. rw w (ap (λ all. entry ∷ all) (added name branch more (rw w at absent))))

-- What some words, stages or lines have said: which names are there, which are taken, and how many lines and stages.
pub record HaveSaid (old new : Outline) (uses takes : List ℕ → Bool) (more count : ℕ) : Type 0 where
  pub names : (x : List ℕ) → is_some (branch_of x new.branches) ≡ (is_some (branch_of x old.branches) || uses x)
  pub taken : (x : List ℕ) → is_taken (branch_of x new.branches)
      ≡ (is_taken (branch_of x old.branches) || (takes x || (is_out x && uses x)))
  pub branches : length new.branches ≡ length old.branches + more
  pub stages : length new.stages ≡ length old.stages + count

or_nothing : (a o : Bool) → a ≡ (a || (false || (o && false)))
or_nothing a o = rw (and-false, or-false) refl

none_said : (old : Outline) → HaveSaid old old (λ x. false) (λ x. false) 0 0
none_said = grind (arith, nat_tests)

-- one after the other
both_said : {old middle new : Outline} {used0 used1 used taken0 taken1 taken : List ℕ → Bool}
    {lines0 lines1 lines stages0 stages1 stages : ℕ}
    → HaveSaid old middle used0 taken0 lines0 stages0 → HaveSaid middle new used1 taken1 lines1 stages1
    → ((x : List ℕ) → used x ≡ (used0 x || used1 x)) → ((x : List ℕ) → taken x ≡ (taken0 x || taken1 x))
    → lines ≡ lines0 + lines1 → stages ≡ stages0 + stages1 → HaveSaid old new used taken lines stages
both_said {used0 = used0} {used1 = used1} {taken0 = taken0} {taken1 = taken1} a b uses takes both all =
    let first = a.branches in
    let second = b.branches in
    let front = a.stages in
    let behind = b.stages in
    record {
      names = λ x. rw (b.names x, a.names x, uses x) (or_assoc _ (used0 x) (used1 x));
      taken = λ x. rw (b.taken x, a.taken x, uses x, takes x)
          (taken_on _ (taken0 x) (is_out x) (used0 x) (taken1 x) (used1 x));
      branches = omega (arith, both);
      stages = omega (arith, all);
    }
  where
    taken_on : (a t o u ts us : Bool)
        → ((a || (t || (o && u))) || (ts || (o && us))) ≡ (a || ((t || ts) || (o && (u || us))))
    taken_on = grind (arith, nat_tests)

-- a branch that is taken
one_taken : (old : Outline) (name : List ℕ) (branch : Branch)
    → branch_of name old.branches ≡ Some branch → branch.taken ≡ false
    → HaveSaid old (record old { branches = with_branch old.branches name (taken branch) })
    (λ x. false) (λ x. bytes_eq x name) 0 0
one_taken old name branch found free = record {
  names = λ x. by_bool (bytes_eq x name)
      (λ w. let e = same_text x name w in rw (look x name (taken branch) old.branches, w, e, found) refl)
      (λ w. rw (look x name (taken branch) old.branches, w) (sym (or-false _)));
  taken = grind (arith, nat_tests, same_text, look, or_nothing);
  branches = let e = kept_size name (taken branch) old.branches found in omega (arith, e);
  stages = omega arith;
}

words_said : (old : Outline) (words : List Word) (sources : List ℕ) (after : Branches)
    → TakesBranches old.branches words sources after
    → HaveSaid old (record old { branches = after }) (λ x. false)
    (λ x. list_any (λ w. bytes_eq x (text_of_word w)) words) 0 0
words_said old [] sources after h = rw h.1 (none_said old)
words_said old ((k, name) ∷ words) sources after (branch, more, found, free, is, h) =
    both_said (one_taken old name branch found free)
    (words_said (record old { branches = with_branch old.branches name (taken branch) }) words more after h)
    (λ x. refl) (λ x. refl) refl refl

pushed : (old : Outline) (kind : Command) (sources : List ℕ) (options : Options)
    → HaveSaid old (with_stage old kind sources options) (λ x. false) (λ x. false) 0 1
pushed = grind (arith, common_steps)

stage_said : {is_first is_last : Bool} {old new : Outline} {words : List Word}
    → IsStageOf is_first is_last old words new → HaveSaid old new (λ x. false) (λ x. is_assembled x words) 0 1
stage_said {is_last = is_last} {old = old} {new = new} h = rw h.whole (by_kind h.number h.behind h.kind h.adds)
  where
    by_kind : (n : ℕ) (words : List Word) (kind : Command) → AddsStage is_last old words kind new
        → HaveSaid old new (λ x. false) (λ x. is_assembled x ((n, word_of kind) ∷ words)) 0 1
    by_kind n words command.Read h = rw h.4 (pushed old _ _ _)
    by_kind n words command.Assemble (sources, branches, takes, some, bound, is) =
        grind (arith, nat_tests, both_said, words_said, pushed, or-false)
    by_kind n words kind h = rw h.2 (pushed old _ _ _)

pub stages_said : (ends is_first : Bool) (old new : Outline) (stages : List (List Word))
    → AddStages ends is_first old stages new
    → HaveSaid old new (λ x. false) (λ x. list_any (is_assembled x) stages) 0 (length stages)
stages_said ends is_first old new [] h = rw h (none_said old)
stages_said ends is_first old new (words ∷ stages) (next, one, h) =
    both_said (stage_said one) (stages_said ends false next new stages h) (λ x. refl) (λ x. refl) refl (omega arith)

-- the end of a line
pub end_said : (line : ℕ) (name : List ℕ) (next : Outline) → branch_of name next.branches ≡ None
    → HaveSaid next (ended line name next) (λ x. bytes_eq x name) (λ x. false) 1 0
end_said line name next absent =
    let put : Branch = record { last = length next.stages; taken = is_out name; line = line } in
    record {
      names = grind (arith, nat_tests, look, or-true, or-false);
      taken = λ x. by_bool (bytes_eq x name)
          (λ w. let e = same_text x name w in rw (look x name put next.branches, w, e, absent) (sym (and-true _)))
          (λ w. rw (look x name put next.branches, w) (or_nothing _ (is_out x)));
      branches = ap length (added name put next.branches absent) ∙ length-append next.branches ((name, put) ∷ []);
      stages = omega arith;
    }

-- a name that isn't there is not there behind the stages of a line
pub stays_new : (x : List ℕ) (ends is_first : Bool) (old next : Outline) (stages : List (List Word))
    → AddStages ends is_first old stages next → branch_of x old.branches ≡ None → branch_of x next.branches ≡ None
stays_new = grind (arith, nat_tests, not_there, stages_said)

line_said : {old new : Outline} {line : ℕ} {text : List ℕ} → IsBranch old line text new
    → HaveSaid old new (λ x. names_cut x (cut_line text))
    (λ x. list_any (is_assembled x) (stages_cut (cut_line text))) 1 (length (stages_cut (cut_line text)))
line_said {old} {line = line} b =
    let c = named_cut b.named in
    let absent = stays_new b.name (is_out b.name) true old b.next (groups b.items) b.stages b.is_new.is_new in
    rw (c.0, b.ends) (both_said (stages_said (is_out b.name) true old b.next (groups b.items) b.stages)
    (end_said line b.name b.next absent) (λ x. rw c.1 refl) (λ x. sym (or-false _)) refl (omega arith))

lines_said : (old new : Outline) (lines : List (ℕ × List ℕ)) → AreBranches old lines new
    → HaveSaid old new (is_used lines) (is_taken_in lines) (length lines) (stage_count lines)
lines_said old new [] h = rw h (none_said old)
lines_said old new ((line, text) ∷ lines) (next, one, h) =
    both_said (line_said one) (lines_said next new lines h) (λ x. refl) (λ x. refl) (omega arith) (omega arith)

pub say_all : (lines : List (ℕ × List ℕ)) → LinesSayAll lines
say_all = grind (arith, nat_tests, lines_said)

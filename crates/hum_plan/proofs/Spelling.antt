-- The words behind a command: what they are answered, and what they spell or which rule they break.
use Rattle.std.proofs.Common.{◌≡◌, ◌≢◌, ◌↔◌, inl, inr, ℕ, ◌+◌, ◌<◌, ◌≤◌, ◌==◌, ◌&&◌, ◌||◌, not, Bool, true, false}
use Rattle.std.proofs.Common.{List, [], ◌∷◌, ◌++◌, length, map, Option, None, Some, is_none, Ok, Err, refl, sym, ap}
use Rattle.std.proofs.Common.{◌∙◌, arith, length-append, append_assoc}
use Rattle.std.proofs.Math.Bool.{or-true}
use Rattle.std.proofs.lemmas.List.{append-nil}
use Rattle.std.proofs.lemmas.Bool.{and_parts, and_from}
use Rattle.std.proofs.lemmas.Bool.Decides.{nat_tests}
use Rattle.std.specs.List.{list_all}
use lib.Chars.{codes}
use Rattle.hum_score.proofs.Cases.{by_bool}
use Rattle.hum_choices.specs.Options as meant
use Rattle.hum_choices.specs.declared.rid.RidOptions.{RidOptions}
use Rattle.hum_words.specs.declared.commands.Command.{Command}
use Rattle.hum_words.specs.declared.commands.Command.TheVariants as command
use Rattle.hum_options.specs.declared.faults.OptionFault.{OptionFault}
use Rattle.hum_options.specs.Answers.{Word, IsAnswer, is_rid, has_none, text_of_word, rid_answer, rid_of, rid_fault}
use Rattle.hum_options.specs.Letters.{is_letter_word, drops, dropped}
use Rattle.hum_options.specs.Given.{letter}
use Rattle.hum_options.proofs.Spelled.{read_as_spelled}
use Rattle.hum_options.proofs.Refusing.{in_order}
use Rattle.hum_plan.specs.declared.branches.Branch.{Branch}
use Rattle.hum_plan.specs.declared.faults.PlanFault.{PlanFault}
use Rattle.hum_plan.specs.Faults.{broken}
use Rattle.hum_plan.specs.Branches.{Branches, branch_of, with_branch, taken}
use Rattle.hum_plan.specs.Answers.{Outline, Outcome, Joined, joined, name_joined, branch_joined, names_joined, and_then}
use Rattle.hum_plan.specs.Answers.{name_read, with_read, with_joined, Begins}
use Rattle.hum_plan.specs.Grammar.{SpellsLetters, SpellsOptions, TakesBranches, AddsStage}
use Rattle.hum_plan.specs.Refused.{nothing_read, empty_name, one_more, NameBreaks, sixteenth, not_free}
use Rattle.hum_plan.specs.Refused.{BreaksAtName, CommandBreaks}

-- What is answered is something lawful, or a rule that is broken.
pub data Reads {A : Type 0} (Lawful : A → Type 0) (Breaks : PlanFault → Type 0) : Outcome A → Type 0 where
  gives : {given : A} → Lawful given → Reads Lawful Breaks (Ok given)
  refuses : {fault : PlanFault} → Breaks fault → Reads Lawful Breaks (Err fault)

pub given : {A : Type 0} {Lawful : A → Type 0} {Breaks : PlanFault → Type 0} {a : A} → Reads Lawful Breaks (Ok a)
    → Lawful a
given (gives h) = h

pub broken_by : {A : Type 0} {Lawful : A → Type 0} {Breaks : PlanFault → Type 0} {fault : PlanFault}
    → Reads Lawful Breaks (Err fault) → Breaks fault
broken_by (refuses h) = h

-- a command, which is word n of a line, with the words behind it
abbrev pub CommandReads : ℕ → ℕ → Bool → Outline → List Word → Command → Outcome Outline → Type 0
CommandReads line n is_last old words kind =
    Reads (AddsStage is_last old words kind) (CommandBreaks line n is_last old words kind)

-- The words of rid.

abbrev texts_of : List Word → List (List ℕ)
texts_of words = map text_of_word words

abbrev I : ℕ
I = letter (codes "I")

-- no word is at fault where all are of letters, and none drops interpretations before another stage
clear : (is_last : Bool) (words : List Word) → is_none (rid_fault is_last words)
    ≡ (list_all is_letter_word (texts_of words) && (is_last || not (drops I (texts_of words))))
clear is_last [] = sym (or-true is_last)
clear is_last ((n, word) ∷ words) = grind (arith, nat_tests, clear is_last words)

rid_there : (words : List Word) (found : Option OptionFault) {options : meant.Options} → Ok options ≡ rid_of words found
    → (is_none found ≡ true) × (options ≡ meant.Rid (dropped (texts_of words)))
rid_there = grind (arith, nat_tests)

pub none_there : {A : Type 0} {found : Option A} → is_none found ≡ true → found ≡ None
none_there = grind (arith, nat_tests)

-- The words of a command.
spelled : (kind : Command) (n : ℕ) (is_last : Bool) (words : List Word) (options : meant.Options)
    → IsAnswer kind n is_last words (Ok options) ↔ SpellsOptions is_last kind words options
spelled kind n is_last words options = by_bool (is_rid kind)
    (λ w. rw w (there, back))
    (λ w. rw w (read_as_spelled kind n words options))
  where
    there : Ok options ≡ rid_answer n is_last words
        → (letters : RidOptions) × SpellsLetters is_last words letters × (options ≡ meant.Rid letters)
    there h = by_bool (has_none words)
        (λ w. let no = rw w at h in absurd (cc))
        (λ w.
        let found = rid_there words (rid_fault is_last words) (rw w at h) in
        let all = and_parts _ _ (sym (clear is_last words) ∙ found.0) in
        (dropped (texts_of words), record { some = w; letters = all.0; last = all.1; meaning = refl }, found.1))

    back : (letters : RidOptions) × SpellsLetters is_last words letters × (options ≡ meant.Rid letters)
        → Ok options ≡ rid_answer n is_last words
    back (letters, h, is) =
        let last = rw h.meaning at h.last in
        rw (h.some, none_there (clear is_last words ∙ and_from _ _ h.letters last), is, h.meaning) refl

-- The name behind `read`.

some_bytes : {b : ℕ} {name : List ℕ} → b ∷ name ≢ []
some_bytes e = cc

-- The names behind `assemble`.

-- the names that are joined to sources
record AreJoined (before : Joined) (words : List Word) (all : Joined) : Type 0 where
  more : List ℕ
  takes : TakesBranches before.branches words more all.branches
  sources : all.sources ≡ before.sources ++ more
  some : 1 ≤ length all.sources
  bound : length all.sources ≤ 15

-- the sources and branches behind a name, given its branch
abbrev with_name : Joined → List ℕ → Branch → Joined
with_name before name branch =
    joined (before.sources ++ branch.last ∷ []) (with_branch before.branches name (taken branch))

-- a name joins its branch, if it is free and there is room for a source more
data Joins (before : Joined) (name : List ℕ) : Joined → Type 0 where
  joins : {branch : Branch} → length before.sources < 15 → branch_of name before.branches ≡ Some branch
      → branch.taken ≡ false → Joins before name (with_name before name branch)

-- a name is joined, or breaks a rule
abbrev NameReads : ℕ → ℕ → List ℕ → Joined → Outcome Joined → Type 0
NameReads line k name before =
    Reads (Joins before name) (NameBreaks line k name (length before.sources) before.branches)

-- some names are, or the first of them that breaks a rule tells it
abbrev NamesRead : ℕ → Joined → List Word → Outcome Joined → Type 0
NamesRead line before words =
    Reads (AreJoined before words) (BreaksAtName line before.branches (length before.sources) words)

name_reads : (line k : ℕ) (name : List ℕ) (before : Joined) → length before.sources ≤ 15
    → NameReads line k name before (name_joined line k name before)
name_reads line k name before most = by_bool (length before.sources == 15)
    (λ w. rw w (refuses (sixteenth (grind (arith, nat_tests)))))
    (λ w. rw w (by_found (grind (arith, nat_tests)) (branch_of name before.branches) refl))
  where
    by_found : length before.sources < 15 → (found : Option Branch) → branch_of name before.branches ≡ found
        → NameReads line k name before (branch_joined line k name before found)
    by_found less None e = refuses (not_free less (λ branch is. absurd (cc)))
    by_found less (Some branch) e = by_bool branch.taken
        (λ v. rw v (refuses (not_free less (λ other is. let same : branch ≡ other = cc in rw (← same) v))))
        (λ v. rw v (gives (joins less e v)))

joined_on : {line k : ℕ} {name : List ℕ} (before : Joined) {branch : Branch} {words : List Word} {all : Outcome Joined}
    → branch_of name before.branches ≡ Some branch → branch.taken ≡ false
    → NamesRead line (with_name before name branch) words all → NamesRead line before ((k, name) ∷ words) all
joined_on before {branch} found free (gives a) = gives (record {
  more = branch.last ∷ a.more;
  takes = (branch, a.more, found, free, refl, a.takes);
  sources = a.sources ∙ append_assoc before.sources (branch.last ∷ []) a.more;
  some = a.some;
  bound = a.bound;
})
joined_on {k = k} {name = name} before {branch} found free (refuses b) =
    let size = length-append before.sources (branch.last ∷ []) in
    let count : length (before.sources ++ branch.last ∷ []) + length b.sources
    ≡ length before.sources + length (branch.last ∷ b.sources) = omega (arith, size) in
    refuses (record {
      front = (k, name) ∷ b.front;
      k = b.k;
      name = b.name;
      rest = b.rest;
      sources = branch.last ∷ b.sources;
      after = b.after;
      whole = ap (λ all. (k, name) ∷ all) b.whole;
      lawful = (branch, b.sources, found, free, refl, b.lawful);
      broken = rw count at b.broken;
    })

names_read : (line n : ℕ) (before : Joined) (words : List Word) → length before.sources ≤ 15
    → 1 ≤ length before.sources + length words
    → NamesRead line before words (names_joined line n before words)
unfolding names_joined
names_read line n before [] most some =
    let w : (length before.sources == 0) ≡ false = grind (arith, nat_tests) in
    rw w (gives (record {
      more = [];
      takes = (refl, refl);
      sources = sym (append-nil before.sources);
      some = omega arith;
      bound = most;
    }))
names_read line n before ((k, name) ∷ words) most some =
    one_name (name_reads line k name before most) (λ next few more. names_read line n next words few (omega arith))
  where
    one_name : {first : Outcome Joined} → NameReads line k name before first
        → ((next : Joined) → length next.sources ≤ 15 → 1 ≤ length next.sources
        → NamesRead line next words (names_joined line n next words))
        → NamesRead line before ((k, name) ∷ words) (and_then first (λ next. names_joined line n next words))
    one_name (refuses b) rest = refuses (record {
      front = [];
      k = k;
      name = name;
      rest = words;
      sources = [];
      after = before.branches;
      whole = refl;
      lawful = (refl, refl);
      broken = let count : length before.sources + 0 ≡ length before.sources = omega arith in rw count b;
    })
    one_name (gives (joins {branch} less found free)) rest =
        grind (arith, nat_tests, length-append, joined_on)

-- names that take branches are passed over
names_pass : (line n : ℕ) (before : Joined) (front rest : List Word) (sources : List ℕ) (after : Branches)
    → TakesBranches before.branches front sources after → length before.sources + length sources ≤ 15
    → names_joined line n before (front ++ rest) ≡ names_joined line n (joined (before.sources ++ sources) after) rest
unfolding names_joined
names_pass line n before [] rest sources after h few = rw (h.0, h.1, append-nil) refl
names_pass line n before ((k, name) ∷ front) rest sources after (branch, more, found, free, is, h) few =
    let size = length-append before.sources (branch.last ∷ []) in
    let count = ap length is in
    let room : (length before.sources == 15) ≡ false = grind (arith, nat_tests) in
    rw (room, found, free, is)
    (names_pass line n (with_name before name branch) front rest more after h (omega arith)
    ∙ ap (λ all. names_joined line n (joined all after) rest) (append_assoc before.sources (branch.last ∷ []) more))

name_breaks : {line k count : ℕ} {name : List ℕ} (before : Joined) {fault : PlanFault}
    → NameBreaks line k name count before.branches fault
    → count ≡ length before.sources → name_joined line k name before ≡ Err fault
name_breaks = grind (arith, nat_tests)

at_most : {line k count : ℕ} {name : List ℕ} {branches : Branches} {fault : PlanFault}
    → NameBreaks line k name count branches fault → count ≤ 15
at_most = grind (arith, nat_tests)

-- A command with its words.

module _ (line n : ℕ) (is_last : Bool) (old : Outline) where
  read_read : (words : List Word)
      → CommandReads line n is_last old words command.Read (with_read old (name_read line n words))
  read_read [] = refuses nothing_read
  read_read ((k, []) ∷ words) = refuses empty_name
  read_read ((k, b ∷ name) ∷ []) = gives (k, b ∷ name, refl, some_bytes, refl)
  read_read ((k, b ∷ name) ∷ ((m, word) ∷ words)) = refuses (one_more some_bytes)

  read_answers : {words : List Word} {answer : Outcome Outline}
      → CommandReads line n is_last old words command.Read answer → answer ≡ with_read old (name_read line n words)
  read_answers = grind (arith, nat_tests)

  assemble_read : (words : List Word) → CommandReads line n is_last old words command.Assemble
      (with_joined old (names_joined line n (joined [] old.branches) words))
  unfolding names_joined
  assemble_read [] = refuses (inl (refl, refl))
  assemble_read (word ∷ words) =
      all_joined (names_read line n (joined [] old.branches) (word ∷ words) (omega arith) (omega arith))
    where
      all_joined : {all : Outcome Joined} → NamesRead line (joined [] old.branches) (word ∷ words) all
          → CommandReads line n is_last old (word ∷ words) command.Assemble (with_joined old all)
      all_joined (gives a) = gives (_, _, rw (← a.sources) at a.takes, a.some, a.bound, refl)
      all_joined (refuses b) = refuses (inr b)

  assemble_answers : {words : List Word} {answer : Outcome Outline}
      → CommandReads line n is_last old words command.Assemble answer
      → answer ≡ with_joined old (names_joined line n (joined [] old.branches) words)
  unfolding names_joined
  assemble_answers {words} (gives (sources, branches, takes, some, bound, new)) =
      let w : (length sources == 0) ≡ false = grind (arith, nat_tests) in
      let passed = names_pass line n (joined [] old.branches) words [] sources branches takes (omega arith) in
      rw (new, ← append-nil words, passed, w) refl
  assemble_answers (refuses (inl (is, e))) = rw (is, e) refl
  assemble_answers (refuses (inr b)) =
      let most = at_most b.broken in
      let rest = (b.k, b.name) ∷ b.rest in
      let passed = names_pass line n (joined [] old.branches) b.front rest b.sources b.after b.lawful (omega arith) in
      let stops = name_breaks {line = line} {k = b.k} (joined b.sources b.after) b.broken (omega arith) in
      rw (b.whole, passed, stops) refl

  pub begins_read : (words : List Word) (kind : Command) {answer : Outcome Outline}
      → Begins line is_last old n words kind answer → CommandReads line n is_last old words kind answer
  begins_read words command.Read h = rw h (read_read words)
  begins_read words command.Assemble h = rw h (assemble_read words)
  begins_read words kind (Ok options, is, e) =
      rw e (gives (options, (spelled kind n is_last words options).0 is, refl))
  begins_read words kind (Err found, is, e) =
      rw e (refuses (found, (in_order kind n is_last words found).0 is, refl))

  pub begins_answers : (words : List Word) (kind : Command) {answer : Outcome Outline}
      → CommandReads line n is_last old words kind answer → Begins line is_last old n words kind answer
  begins_answers words command.Read h = read_answers h
  begins_answers words command.Assemble h = assemble_answers h
  begins_answers words kind (gives (options, spells, new)) =
      (Ok options, (spelled kind n is_last words options).1 spells, rw new refl)
  begins_answers words kind (refuses (found, breaks, is)) =
      (Err found, (in_order kind n is_last words found).1 breaks, rw is refl)

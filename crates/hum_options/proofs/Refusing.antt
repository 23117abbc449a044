-- Words are refused for the first rule that they break.
use Rattle.std.proofs.lemmas.Bool.Decides.{nat_tests}
use Rattle.std.proofs.Common.{◌≡◌, ◌∙◌, ◌↔◌, refl, ap, subst, ℕ, Bool, true, false, not, ◌&&◌}
use Rattle.std.proofs.Common.{List, [], ◌∷◌, ◌++◌, Option, None, Some, Err, arith}
use Rattle.std.specs.List.{AllByRecursion}
use Rattle.std.specs.Option.{option_or}
use Rattle.std.proofs.lemmas.Bool.{and_parts}
use lib.Chars.{codes}
use Rattle.hum_score.proofs.Cases.{by_bool}
use Rattle.hum_words.specs.declared.commands.Command.{Command}
use Rattle.hum_options.specs.declared.faults.OptionRule.TheVariants.{N8, N11}
use Rattle.hum_options.specs.declared.faults.OptionFault.{OptionFault}
use Rattle.hum_options.specs.declared.reading.Turn.TheVariants.{Free}
use Rattle.hum_options.specs.Given.{letter}
use Rattle.hum_options.specs.Letters.{is_letter_word, has_letter}
use Rattle.hum_options.specs.Answers.{Word, Answer, Answers, is_rid, word_fault, rid_fault, rid_answer}
use Rattle.hum_options.specs.Refused.{at, BreaksRid, no_letters, before_another, BreaksNone, IsFirstWord}
use Rattle.hum_options.specs.Refused.{IsFirstOfRid, IsFirstFault, AreRefusedInOrder}
use Rattle.hum_options.proofs.Choices.{chosen}
use Rattle.hum_options.proofs.Readings.{broken, reached, told}

-- a word's fault, and what it breaks
fault_breaks : (is_last : Bool) (word : Word) (fault : OptionFault) → word_fault is_last word ≡ Some fault
    → BreaksRid is_last word fault
fault_breaks is_last (k, word) fault h = by_bool (is_letter_word word)
    (λ w.
    let found = chosen (not is_last && has_letter (letter (codes "I")) word) (Some (at k N11)) fault (rw w at h) in
    let tests = and_parts (not is_last) (has_letter (letter (codes "I")) word) found.0 in
    let same : at k N11 ≡ fault = let told = found.1 in cc in
    subst (BreaksRid is_last (k, word)) same (before_another w (not_true is_last tests.0) tests.1))
    (λ w.
    let told : Some (at k N8) ≡ Some fault = rw w at h in
    let same : at k N8 ≡ fault = cc in
    subst (BreaksRid is_last (k, word)) same (no_letters w))
  where
    not_true : (b : Bool) → not b ≡ true → b ≡ false
    not_true = grind (arith, nat_tests)

breaks_fault : (is_last : Bool) (word : Word) (fault : OptionFault) → BreaksRid is_last word fault
    → word_fault is_last word ≡ Some fault
breaks_fault = grind (arith, nat_tests)

-- the first of the words
first_fault : (is_last : Bool) (words : List Word) (fault : OptionFault) → rid_fault is_last words ≡ Some fault
    → IsFirstWord is_last words fault
first_fault is_last [] fault h = cc
first_fault is_last (word ∷ words) fault h = by_first (word_fault is_last word) refl h (first_fault is_last words fault)
  where
    by_first : (found : Option OptionFault) → word_fault is_last word ≡ found
        → option_or found (rid_fault is_last words) ≡ Some fault
        → (rid_fault is_last words ≡ Some fault → IsFirstWord is_last words fault)
        → IsFirstWord is_last (word ∷ words) fault
    by_first (Some here) e h further = record {
      front = [];
      word = word;
      rest = words;
      whole = refl;
      lawful = tt;
      broken = fault_breaks is_last word fault (e ∙ h);
    }
    by_first None e h further =
        let r = further h in
        record {
          front = word ∷ r.front;
          word = r.word;
          rest = r.rest;
          whole = ap (λ ws. word ∷ ws) r.whole;
          lawful = (λ other b. let told = breaks_fault is_last word other b in cc, r.lawful);
          broken = r.broken;
        }

fault_first : (is_last : Bool) (front rest : List Word) (word : Word) (fault : OptionFault)
    → AllByRecursion (BreaksNone is_last) front
    → BreaksRid is_last word fault → rid_fault is_last (front ++ word ∷ rest) ≡ Some fault
fault_first is_last [] rest word fault lawful here = grind (arith, nat_tests, breaks_fault)
fault_first is_last (other ∷ front) rest word fault lawful here =
    let e = no_fault (word_fault is_last other) refl in
    rw e (fault_first is_last front rest word fault lawful.1 here)
  where
    no_fault : (found : Option OptionFault) → word_fault is_last other ≡ found → word_fault is_last other ≡ None
    no_fault None e = e
    no_fault (Some there) e = absurd (lawful.0 there (fault_breaks is_last other there e))

rid_first : (n : ℕ) (is_last : Bool) (words : List Word) (fault : OptionFault)
    → (◌≡◌ {A = Answer} (Err fault) (rid_answer n is_last words)) ↔ IsFirstOfRid n is_last words fault
rid_first = grind (arith, nat_tests, first_fault, fault_first)

-- the first rule that is broken by words that give options
told_first : (command : Command) (n : ℕ) (words : List Word) (fault : OptionFault)
    → Answers command n [] Free words (Err fault) ↔ IsFirstFault command n words fault
told_first = grind (arith, nat_tests, reached, broken, told)

pub in_order : (command : Command) (n : ℕ) (is_last : Bool) (words : List Word)
    → AreRefusedInOrder command n is_last words
in_order command n is_last words fault = by_bool (is_rid command)
    (λ w. rw w (rid_first n is_last words fault))
    (λ w. rw w (told_first command n words fault))

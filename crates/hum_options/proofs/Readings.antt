-- How far words are read, and what they are answered.
use Rattle.std.proofs.lemmas.Bool.Decides.{nat_tests}
use Rattle.std.proofs.Common.{◌≡◌, inl, inr, refl, ℕ, true, false, List, [], ◌∷◌, ◌++◌, append_assoc}
use Rattle.std.proofs.Common.{Option, None, Some, Ok, Err, arith}
use Rattle.std.proofs.lemmas.List.{append-nil}
use Rattle.hum_score.proofs.Cases.{by_bool}
use Rattle.hum_words.specs.declared.commands.Command.{Command}
use Rattle.hum_choices.specs.Options.{Options}
use Rattle.hum_options.specs.declared.options.CommandOption.{CommandOption}
use Rattle.hum_options.specs.declared.faults.OptionFault.{OptionFault}
use Rattle.hum_options.specs.declared.reading.Turn.{Turn}
use Rattle.hum_options.specs.declared.reading.Turn.TheVariants.{Free, Awaits}
use Rattle.hum_options.specs.Options.{option_of, meant}
use Rattle.hum_options.specs.Values.{Value, Nothing, Pattern, value_of}
use Rattle.hum_options.specs.Given.{Given}
use Rattle.hum_options.specs.Answers.{Word, Answer, Answers, AtOption, AtValue, unless_barred, is_barred, is_alone}
use Rattle.hum_options.specs.Answers.{with_value, together}
use Rattle.hum_options.specs.Spelling.{IsValue, Spells, none, alone, valued, AreAllowed, given_as}
use Rattle.hum_options.specs.Refused.{MayCome, Breaks, stranger, valueless, malformed, refused, lacking}
use Rattle.hum_options.proofs.Turns.{sound}

-- what the words are answered that stand behind all options that could be read
pub data Ends (command : Command) (n : ℕ) (given : List Given) : List Word → Answer → Type 0 where
  all_read : {options : Options} → meant command given ≡ Some options → Ends command n given [] (Ok options)
  broken : {words : List Word} {fault : OptionFault} → Breaks command n given words fault
      → Ends command n given words (Err fault)

-- Words behind some options spell more of them, up to those that end so.
pub record Reached (command : Command) (n : ℕ) (before : List Given) (words : List Word) (answer : Answer)
    : Type 0 where
  pub front : List Word
  pub rest : List Word
  pub given : List Given
  pub whole : words ≡ front ++ rest
  pub spelled : Spells command front given
  pub allowed : AreAllowed command before given
  pub ends : Ends command n (before ++ given) rest answer

module _ {command : Command} {n : ℕ} {before : List Given} {answer : Answer} where
  here : {words : List Word} {told : Answer} → Ends command n before words told → answer ≡ told
      → Reached command n before words answer
  here {words} ends is = rw is (record {
    front = [];
    rest = words;
    given = [];
    whole = refl;
    spelled = none;
    allowed = tt;
    ends = rw append-nil ends;
  })

  -- behind words that spell one more option
  further : {words : List Word} (option : CommandOption) (value : Value) (first : List Word)
      → is_barred command before option.letter ≡ false
      → ((front : List Word) (more : List Given) → Spells command front more
      → Spells command (first ++ front) (given_as option value ∷ more))
      → Reached command n (with_value before option value) words answer
      → Reached command n before (first ++ words) answer
  further = grind (arith, nat_tests, append_assoc)

  from_alone : {k : ℕ} {word : List ℕ} {words : List Word} {option : CommandOption} → MayCome command before word option
      → is_alone option.kind ≡ true → Reached command n (with_value before option Nothing) words answer
      → Reached command n before ((k, word) ∷ words) answer
  from_alone {k} {word} {words} {option} may stands =
      further option Nothing ((k, word) ∷ []) may.free (λ front more. alone may.known stands)

  from_valued : {k m : ℕ} {word text : List ℕ} {words : List Word} {option : CommandOption} {value : Value}
      → MayCome command before word option → is_alone option.kind ≡ false → IsValue option.kind text value
      → Reached command n (with_value before option value) words answer
      → Reached command n before ((k, word) ∷ ((m, text) ∷ words)) answer
  from_valued {k} {m} {word} {text} {words} {option} {value} may takes is =
      further option value ((k, word) ∷ (m, text) ∷ []) may.free (λ front more. valued may.known takes is)

-- how far words are read, in front of an option or in front of the value of one that is word k
abbrev Found : Command → ℕ → List Given → Turn → List Word → Answer → Type 0
Found command n before Free words answer = Reached command n before words answer
Found command n before (Awaits k option) words answer =
    (word : List ℕ) → MayCome command before word option → is_alone option.kind ≡ false
    → Reached command n before ((k, word) ∷ words) answer

-- what words are answered is told by how far they are read
pub reached : (command : Command) (n : ℕ) (before : List Given) (turn : Turn) (words : List Word) (answer : Answer)
    → Answers command n before turn words answer → Found command n before turn words answer
unfolding Answers
reached command n before Free [] answer h = by_meaning (meant command before) refl h
  where
    by_meaning : (found : Option Options) → meant command before ≡ found → answer ≡ together n found
        → Reached command n before [] answer
    by_meaning None e is = here (broken (lacking e)) is
    by_meaning (Some options) e is = here (all_read e) is
reached command n before (Awaits k option) [] answer h = λ word may takes. here (broken (valueless may takes)) h
reached command n before Free ((k, word) ∷ words) answer h =
    by_option (option_of command word) refl h (λ next turn. reached command n next turn words answer)
  where
    by_option : (found : Option CommandOption) → option_of command word ≡ found
        → AtOption k before (λ next turn. Answers command n next turn words answer)
        (unless_barred command before found) answer
        → ((next : List Given) (turn : Turn) → Answers command n next turn words answer
        → Found command n next turn words answer)
        → Reached command n before ((k, word) ∷ words) answer
    by_option None e is goes = here (broken (stranger (inl e))) is
    by_option (Some option) e is goes = by_bool (is_barred command before option.letter)
        (λ barred. here (broken (stranger (inr (option, e, barred)))) (rw barred at is))
        (λ free.
        let may : MayCome command before word option = record { known = e; free = free } in
        by_bool (is_alone option.kind)
        (λ stands. from_alone may stands (goes (with_value before option Nothing) Free (rw (free, stands) at is)))
        (λ takes. goes before (Awaits k option) (rw (free, takes) at is) word may takes))
reached command n before (Awaits k option) ((m, text) ∷ words) answer h = λ word may takes.
    by_value word may takes (value_of option.kind text) refl h
    (λ value. reached command n (with_value before option value) Free words answer)
  where
    by_value : (word : List ℕ) → MayCome command before word option → is_alone option.kind ≡ false
        → (found : Option Value)
        → value_of option.kind text ≡ found
        → AtValue m (λ value. Answers command n (with_value before option value) Free words answer) found answer
        → ((value : Value) → Answers command n (with_value before option value) Free words answer
        → Reached command n (with_value before option value) words answer)
        → Reached command n before ((k, word) ∷ ((m, text) ∷ words)) answer
    by_value word may takes None e is goes = here (broken (malformed may takes e)) is
    by_value word may takes (Some (Pattern x)) e is goes = elim is [
      | inl p ↦ from_valued may takes (record { grammar = e; sound = p.0 }) (goes (Pattern x) p.1)
      | inr p ↦ here (broken (refused may takes e p.1)) p.2
    ]
    by_value word may takes (Some value) e is goes =
        from_valued may takes (record { grammar = e; sound = tt }) (goes value is)

told_end : {command : Command} {n : ℕ} {before : List Given} {words : List Word} {answer : Answer}
    → Ends command n before words answer → Answers command n before Free words answer
unfolding Answers
told_end (all_read e) = rw e refl
told_end (broken (stranger (inl e))) = rw e refl
told_end (broken (stranger (inr h))) = rw (h.1, h.2) refl
told_end (broken (valueless may takes)) = rw (may.known, may.free, takes) refl
told_end (broken (malformed may takes e)) = rw (may.known, may.free, takes, e) refl
told_end (broken (refused {refusal} may takes e is)) = rw (may.known, may.free, takes, e) (inr (refusal, is, refl))
told_end (broken (lacking e)) = rw e refl

-- and how far they are read tells what they are answered
pub told : {command : Command} {n : ℕ} {front rest : List Word} {given : List Given} {answer : Answer}
    → Spells command front given → (before : List Given) → AreAllowed command before given
    → Ends command n (before ++ given) rest answer → Answers command n before Free (front ++ rest) answer
unfolding Answers
told none before allowed ends = told_end (rw append-nil at ends)
told (alone {option} {more} found stands spelled) before allowed ends =
    rw (found, allowed.0, stands) (told spelled (with_value before option Nothing) allowed.1
    (rw (append_assoc before (given_as option Nothing ∷ []) more) ends))
told {command} {n} {rest = rest} {answer = answer} (valued {m} {words} {option} {value} {more} found takes is spelled)
    before allowed ends =
    let goes = told spelled (with_value before option value) allowed.1
    (rw (append_assoc before (given_as option value ∷ []) more) ends) in
    rw (found, allowed.0, takes, is.grammar)
    (sound m (λ v. Answers command n (with_value before option v) Free (words ++ rest) answer) value answer
    is.sound goes)

-- Words that can be written in a line.
use Rattle.std.proofs.lemmas.Bool.Decides.{nat_tests}
use Rattle.std.proofs.Common.{◌≡◌, ℕ, ◌+◌, true, List, [], ◌∷◌, ◌++◌, refl, sym, ap, append_assoc, arith}
use Rattle.std.proofs.lemmas.Bool.{and_parts}
use Rattle.std.proofs.lemmas.List.Elements.{All-nil, All-cons, All-head, All-tail}
use Rattle.std.specs.Prelude.{All}
use Rattle.hum_words.specs.Characters.{is_bare, is_quotable, begins_apart, trimmed}
use Rattle.hum_words.specs.Pieces.{words_from}
use Rattle.hum_words.specs.Writing.{IsBare, IsQuotable, Delimited, BeginsWithWord, Begins, GoesOn}
use Rattle.hum_words.specs.Laws.{CanBeWritten}

-- each word between quotes, with a blank before them
abbrev line_of : List (List ℕ) → List ℕ
line_of [] = []
line_of (word ∷ words) = 32 ∷ 39 ∷ (word ++ 39 ∷ line_of words)

apart : (words : List (List ℕ)) → begins_apart (line_of words) ≡ true
apart [] = refl
apart (word ∷ words) = refl

-- a line is written by words alone, behind n words
abbrev LineIs : ℕ → List (List ℕ) → List ℕ → Type 0
LineIs n words line = (m : ℕ) × (rest : List ℕ)
    × GoesOn n (words_from n words) m rest line × (trimmed rest ≡ [])

line_is : (n : ℕ) (words : List (List ℕ)) → All IsQuotable words → LineIs n words (line_of words)
unfolding trimmed
line_is n [] all = (n, [], (refl, refl), refl)
line_is n (word ∷ words) all =
    let more = line_is (n + 1) words (All-tail IsQuotable word words all) in (
      more.0,
      more.1,
      (
        line_of words,
        (
          refl,
          Begins (39 ∷ (word ++ 39 ∷ [])) (Delimited (All-head IsQuotable word words all) refl)
              (apart words)
              (ap (λ xs. 39 ∷ xs) (sym (append_assoc word (39 ∷ []) (line_of words)))),
        ),
        more.2,
      ),
      more.3,
    )

bare_is_quotable : (b : ℕ) → is_bare b ≡ true → is_quotable b ≡ true
bare_is_quotable b h = grind arith

bare_are_quotable : (xs : List ℕ) → IsBare xs → IsQuotable xs
bare_are_quotable [] h = refl
bare_are_quotable (x ∷ xs) h =
    let parts = and_parts _ _ h in rw (bare_is_quotable x parts.0) (bare_are_quotable xs parts.1)

-- what is written has no quote
quotable : (word rest line : List ℕ) → BeginsWithWord word rest line → IsQuotable word
quotable = grind (arith, nat_tests, bare_are_quotable)

all_quotable : (n : ℕ) (words : List (List ℕ)) (m : ℕ) (rest line : List ℕ)
    → GoesOn n (words_from n words) m rest line
    → All IsQuotable words
all_quotable n [] m rest line h = All-nil IsQuotable
all_quotable n (word ∷ words) m rest line h =
    All-cons IsQuotable word words (quotable word h.0 (trimmed line) h.1.1)
    (all_quotable (n + 1) words m rest h.0 h.2)

pub can_be_written : (words : List (List ℕ)) → CanBeWritten words
can_be_written words =
    (λ all. (line_of words, line_is 0 words all), λ h. all_quotable 0 words h.1.0 h.1.1 h.0 h.1.2)

-- A line that is written by pieces, cut.
use Rattle.std.proofs.lemmas.Bool.Decides.{nat_tests}
use Rattle.std.proofs.Common.{◌≡◌, ◌≢◌, ℕ, ◌+◌, true, false, List, [], ◌∷◌, ◌++◌, Ok, Err, Result}
use Rattle.std.proofs.Common.{refl, sym, ap, ◌∙◌, arith, append_assoc}
use Rattle.std.proofs.lemmas.Bool.{and_parts}
use Rattle.std.proofs.lemmas.List.{append-nil}
use Rattle.std.specs.declared.vec.Vec.{Vec}
use Rattle.std.specs.declared.alloc.Global.{Global}
use Rattle.hum_words.specs.Characters.{is_blank, is_bar, is_quote, is_bare, is_quotable, begins_apart, trimmed}
use Rattle.hum_words.specs.Pieces.{Item, Word, Bar, number_of, items_of}
use Rattle.hum_words.specs.Writing.{IsBare, IsQuotable, BeginsWithWord, BeginsWith, GoesOn}
use Rattle.hum_words.specs.Writing.{IsWritten, IsWrong, Unclosed, Within, Joined, IsWrongAt}
use Rattle.hum_words.specs.Cutting.{Cut, Between, Inside, Quoted, Closed, cut, cut_line, onto, followed_by, Tells, Gives, GivesItems}
use Rattle.hum_words.specs.declared.cutting.Piece.{Piece}
use Rattle.hum_words.specs.declared.cutting.WordFault.{WordFault}
use Rattle.hum_words.specs.declared.cutting.WordFault.TheVariants.{Quote, Memory}

-- blanks give nothing
cut_trimmed : (n : ℕ) (xs : List ℕ) → cut Between n (trimmed xs) ≡ cut Between n xs
unfolding cut trimmed
cut_trimmed n [] = refl
cut_trimmed n (x ∷ xs) = grind (arith, nat_tests, cut_trimmed n xs)

-- the three tests of a byte
record Tests (b : ℕ) : Type 0 where
  blank : is_blank b ≡ false
  bar : is_bar b ≡ false
  quote : is_quote b ≡ false

tests : (b : ℕ) → is_bare b ≡ true → Tests b
tests = grind (arith, nat_tests)

no_quote : (b : ℕ) → is_quotable b ≡ true → is_quote b ≡ false
no_quote b h = grind arith

-- In a word

word_ends : (word rest : List ℕ) (n : ℕ) → begins_apart rest ≡ true
    → cut (Inside word) n rest ≡ onto (Word n word) (cut Between n rest)
unfolding cut
word_ends = grind (arith, nat_tests)

one_more : (word : List ℕ) (b : ℕ) (bs : List ℕ) (n : ℕ) → is_bare b ≡ true
    → cut (Inside word) n (b ∷ bs) ≡ cut (Inside (word ++ b ∷ [])) n bs
unfolding cut
one_more word b bs n h = let t = tests b h in rw (t.blank, t.bar, t.quote) refl

inside_word : (xs word rest : List ℕ) (n : ℕ) → IsBare xs → begins_apart rest ≡ true
    → cut (Inside word) n (xs ++ rest) ≡ onto (Word n (word ++ xs)) (cut Between n rest)
inside_word [] word rest n h apart = rw append-nil (word_ends word rest n apart)
inside_word (x ∷ xs) word rest n h apart =
    let parts = and_parts _ _ h in
    one_more word x (xs ++ rest) n parts.0 ∙ inside_word xs (word ++ x ∷ []) rest n parts.1 apart
    ∙ ap (λ ys. onto (Word n ys) (cut Between n rest)) (append_assoc word (x ∷ []) xs)

quote_inside : (word rest : List ℕ) (n : ℕ) → cut (Inside word) n (39 ∷ rest) ≡ Err n
unfolding cut
quote_inside word rest n = refl

inside_quote : (xs word rest : List ℕ) (n : ℕ) → IsBare xs
    → cut (Inside word) n (xs ++ 39 ∷ rest) ≡ Err n
inside_quote [] word rest n h = quote_inside word rest n
inside_quote (x ∷ xs) word rest n h =
    let parts = and_parts _ _ h in
    one_more word x (xs ++ 39 ∷ rest) n parts.0 ∙ inside_quote xs (word ++ x ∷ []) rest n parts.1

-- Between quotes

quoted_more : (word : List ℕ) (b : ℕ) (bs : List ℕ) (n : ℕ) → is_quotable b ≡ true
    → cut (Quoted word) n (b ∷ bs) ≡ cut (Quoted (word ++ b ∷ [])) n bs
unfolding cut
quoted_more word b bs n h = rw (no_quote b h) refl

quote_closes : (word rest : List ℕ) (n : ℕ)
    → cut (Quoted word) n (39 ∷ rest) ≡ cut (Closed word) n rest
unfolding cut
quote_closes word rest n = refl

quoted_word : (xs word rest : List ℕ) (n : ℕ) → IsQuotable xs
    → cut (Quoted word) n (xs ++ 39 ∷ rest) ≡ cut (Closed (word ++ xs)) n rest
quoted_word [] word rest n h = rw append-nil (quote_closes word rest n)
quoted_word (x ∷ xs) word rest n h =
    let parts = and_parts _ _ h in
    quoted_more word x (xs ++ 39 ∷ rest) n parts.0 ∙ quoted_word xs (word ++ x ∷ []) rest n parts.1
    ∙ ap (λ ys. cut (Closed ys) n rest) (append_assoc word (x ∷ []) xs)

quoted_end : (word : List ℕ) (n : ℕ) → cut (Quoted word) n [] ≡ Err n
unfolding cut
quoted_end word n = refl

quoted_open : (xs word : List ℕ) (n : ℕ) → IsQuotable xs → cut (Quoted word) n xs ≡ Err n
quoted_open [] word n h = quoted_end word n
quoted_open (x ∷ xs) word n h =
    let parts = and_parts _ _ h in
    quoted_more word x xs n parts.0 ∙ quoted_open xs (word ++ x ∷ []) n parts.1

closed_ends : (word rest : List ℕ) (n : ℕ) → begins_apart rest ≡ true
    → cut (Closed word) n rest ≡ onto (Word n word) (cut Between n rest)
unfolding cut
closed_ends = grind (arith, nat_tests)

closed_joined : (word rest : List ℕ) (n : ℕ) → begins_apart rest ≡ false
    → cut (Closed word) n rest ≡ Err n
unfolding cut
closed_joined = grind (arith, nat_tests)

-- At the front of a line

bar_begins : (n : ℕ) (rest : List ℕ)
    → cut Between n (124 ∷ rest) ≡ onto (Bar n) (cut Between n rest)
unfolding cut
bar_begins n rest = refl

quote_begins : (n : ℕ) (rest : List ℕ) → cut Between n (39 ∷ rest) ≡ cut (Quoted []) (n + 1) rest
unfolding cut
quote_begins n rest = refl

word_begins : (n b : ℕ) (bs : List ℕ) → is_bare b ≡ true
    → cut Between n (b ∷ bs) ≡ cut (Inside (b ∷ [])) (n + 1) bs
unfolding cut
word_begins n b bs h = let t = tests b h in rw (t.blank, t.bar, t.quote) refl

begins_plain : (n : ℕ) (word rest : List ℕ) → word ≢ [] → IsBare word → begins_apart rest ≡ true
    → cut Between n (word ++ rest) ≡ onto (Word (n + 1) word) (cut Between (n + 1) rest)
begins_plain n [] rest some h apart = absurd (some refl)
begins_plain n (x ∷ xs) rest some h apart = grind (arith, nat_tests, and_parts, word_begins, inside_word)

begins_quoted : (n : ℕ) (word rest : List ℕ) → IsQuotable word → begins_apart rest ≡ true
    → cut Between n ((39 ∷ (word ++ 39 ∷ [])) ++ rest)
    ≡ onto (Word (n + 1) word) (cut Between (n + 1) rest)
begins_quoted = grind (arith, nat_tests, quote_begins, append_assoc, quoted_word, closed_ends)

begins_word : (n : ℕ) (word rest line : List ℕ) → BeginsWithWord word rest line
    → cut Between n line ≡ onto (Word (n + 1) word) (cut Between (n + 1) rest)
begins_word = grind (arith, nat_tests, begins_plain, begins_quoted)

begins : (n : ℕ) (item : Item) (rest line : List ℕ) → BeginsWith n item rest line
    → cut Between n line ≡ onto item (cut Between (number_of item) rest)
begins n (Bar k) rest line h = rw (h.0, h.1) (bar_begins n rest)
begins n (Word k word) rest line h = rw h.0 (begins_word n word rest line h.1)

wrong : (n : ℕ) (line : List ℕ) → IsWrong line → cut Between n line ≡ Err (n + 1)
wrong n line (Unclosed text quotable e) = grind (arith, nat_tests, quote_begins, quoted_open)
wrong n line (Within [] rest some bare e) = absurd (some refl)
wrong n line (Within (x ∷ xs) rest some bare e) =
    grind (arith, nat_tests, and_parts, word_begins, inside_quote)
wrong n line (Joined word rest quotable joined e) =
    grind (arith, nat_tests, quote_begins, quoted_word, closed_joined)

-- Piece by piece

followed_by_none : (r : Cut) → followed_by [] r ≡ r
followed_by_none = grind (arith, nat_tests)

onto_followed : (item : Item) (items : List Item) (r : Cut)
    → onto item (followed_by items r) ≡ followed_by (item ∷ items) r
onto_followed = grind (arith, nat_tests)

goes : (n : ℕ) (items : List Item) (m : ℕ) (rest line : List ℕ) → GoesOn n items m rest line
    → cut Between n line ≡ followed_by items (cut Between m rest)
goes n [] m rest line h = rw (h.0, h.1) (sym (followed_by_none (cut Between n line)))
goes n (item ∷ items) m rest line h =
    grind (arith, nat_tests, goes (number_of item) items m rest h.0 h.2, cut_trimmed, begins, onto_followed)

-- one piece more
pub push : (n : ℕ) (items : List Item) (m : ℕ) (behind line : List ℕ) (item : Item) (rest : List ℕ)
    → GoesOn n items m behind line → BeginsWith m item rest (trimmed behind)
    → GoesOn n (items ++ item ∷ []) (number_of item) rest line
push n [] m behind line item rest h b = (rest, rw (h.0, h.1) at b, (refl, refl))
push n (first ∷ items) m behind line item rest h b =
    (h.0, h.1, push (number_of first) items m behind h.0 item rest h.2 b)

nothing_left : (m : ℕ) (rest : List ℕ) → trimmed rest ≡ [] → cut Between m rest ≡ Ok []
unfolding cut
nothing_left m rest e = sym (cut_trimmed m rest) ∙ ap (cut Between m) e

-- what a line is written by is what it is cut into
pub written : (items : List Item) (line : List ℕ) → IsWritten items line → cut_line line ≡ Ok items
written = grind (arith, nat_tests, goes, nothing_left, append-nil)

pub wrong_at : (k : ℕ) (line : List ℕ) → IsWrongAt k line → cut_line line ≡ Err k
wrong_at k line h =
    grind (arith, nat_tests, goes 0 h.0 h.1 h.2 line h.3, cut_trimmed h.1 h.2, wrong h.1 (trimmed h.2) h.5)

pub exact : (r : Result (Vec Piece Global) WordFault) (line : List ℕ) → Tells r line
    → Gives r (cut_line line)
exact (Ok pieces) line h = written (items_of pieces.items) line h
exact (Err (Quote k)) line h = wrong_at k line h
exact (Err Memory) line h = tt

pub only : (r : Result (Vec Piece Global) WordFault) (line : List ℕ) → Tells r line
    → (items : List Item)
    → IsWritten items line → GivesItems r items
only (Ok pieces) line h items w =
    grind (arith, nat_tests, written (items_of pieces.items) line h, written items line w)
only (Err (Quote k)) line h items w = grind (arith, nat_tests, wrong_at k line h, written items line w)
only (Err Memory) line h items w = tt

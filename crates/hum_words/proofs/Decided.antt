-- Each line is written by some pieces, or has a word that is wrong.
use Rattle.std.proofs.lemmas.Bool.Decides.{nat_tests}
use Rattle.std.proofs.Common.{◌≡◌, ◌≢◌, ℕ, ◌+◌, ◌<◌, ◌≤◌, Bool, true, false, zero, suc, ◌⊎◌, inl, inr}
use Rattle.std.proofs.Common.{List, [], ◌∷◌, ◌++◌, length, take, Ok, Err, refl, sym, ap, ◌∙◌, arith, append_assoc}
use Rattle.std.proofs.lemmas.Bool.{cases_Bool, eqb-true}
use Rattle.std.proofs.lemmas.List.{take-append-drop, length-drop, append-nil}
use Rattle.std.proofs.lemmas.List.Sums.{prefix_len-le-length}
use Rattle.std.specs.List.{prefix_len}
use Rattle.hum_words.specs.Characters.{is_blank, is_bar, is_quote, is_bare, is_quotable, begins_apart, begins_blank, trimmed}
use Rattle.hum_words.specs.Pieces.{Item, Word, Bar, number_of}
use Rattle.hum_words.specs.Writing.{IsQuotable, Delimited, BeginsWithWord, Begins, BeginsWith, GoesOn}
use Rattle.hum_words.specs.Writing.{IsWritten, IsWrong, Unclosed, Joined, IsWrongAt}
use Rattle.hum_words.specs.Cutting.{Cut, cut_line}
use Rattle.hum_words.specs.Laws.{IsCutAsWritten, IsRefusedAsWrong}
use Rattle.hum_words.proofs.Fronts.{behind_front, one_more, all_pass, drop_blanks, trimmed_first}
use Rattle.hum_words.proofs.Spelled.{plain_begins, plain_breaks}
use Rattle.hum_words.proofs.Cuts.{written, wrong_at}

-- how a line is written behind n words, or where it is wrong
abbrev Reads : ℕ → List ℕ → Cut → Type 0
Reads n line (Ok items) = (m : ℕ) × (rest : List ℕ)
    × GoesOn n items m rest line × (trimmed rest ≡ [])
Reads n line (Err k) = (items : List Item) × (m : ℕ) × (rest : List ℕ)
    × GoesOn n items m rest line × (k ≡ m + 1) × IsWrong (trimmed rest)

abbrev IsRead : ℕ → List ℕ → Type 0
IsRead n line = (r : Cut) × Reads n line r

-- a line begins with a piece and goes on with less of it, or it is wrong
data IsMet (n : ℕ) (line : List ℕ) : Type 0 where
  Goes : (item : Item) (rest : List ℕ) → BeginsWith n item rest line → length rest < length line
      → IsMet n line
  Wrong : IsWrong line → IsMet n line

one_read : (n : ℕ) (line : List ℕ) (item : Item) (rest : List ℕ)
    → BeginsWith n item rest (trimmed line)
    → IsRead (number_of item) rest → IsRead n line
one_read n line item rest b h = go h.0 h.1
  where
    go : (r : Cut) → Reads (number_of item) rest r → IsRead n line
    go (Ok items) g = (Ok (item ∷ items), (g.0, g.1, (rest, b, g.2), g.3))
    go (Err k) g = (Err k, (item ∷ g.0, g.1, g.2, (rest, b, g.3), g.4, g.5))

-- what stands behind the bytes without a quote: nothing, or a quote and the rest
abbrev Closes : List ℕ → Type 0
Closes xs = (behind_front is_quotable xs ≡ [])
    ⊎ ((rest : List ℕ) × (behind_front is_quotable xs ≡ 39 ∷ rest))

closes : (xs : List ℕ) → Closes xs
closes [] = inl refl
closes (x ∷ xs) = go (closes xs) (is_quote x) refl
  where
    next : 1 + prefix_len is_quotable xs ≡ suc (prefix_len is_quotable xs)
    next = omega arith

    go : Closes xs → (v : Bool) → is_quote x ≡ v → Closes (x ∷ xs)
    go = grind (arith, nat_tests, next, eqb-true)

met_quote : (n : ℕ) (xs : List ℕ) → IsMet n (39 ∷ xs)
met_quote n xs = go (closes xs)
  where
    word : List ℕ
    word = take (prefix_len is_quotable xs) xs

    all : IsQuotable word
    all = all_pass is_quotable xs

    whole : word ++ behind_front is_quotable xs ≡ xs
    whole = take-append-drop (prefix_len is_quotable xs) xs

    split : (rest : List ℕ) → behind_front is_quotable xs ≡ 39 ∷ rest → xs ≡ word ++ 39 ∷ rest
    split rest e = sym whole ∙ ap (λ ys. word ++ ys) e

    less : (rest : List ℕ) → behind_front is_quotable xs ≡ 39 ∷ rest
        → length rest < length (39 ∷ xs)
    less rest e = omega (arith, ap length e, length-drop (prefix_len is_quotable xs) xs)

    closed : (rest : List ℕ) → behind_front is_quotable xs ≡ 39 ∷ rest
        → (begins_apart rest ≡ true) ⊎ (begins_apart rest ≡ false) → IsMet n (39 ∷ xs)
    closed rest e (inl apart) =
        let text : 39 ∷ xs ≡ (39 ∷ (word ++ 39 ∷ [])) ++ rest
        = ap (λ ys. 39 ∷ ys) (split rest e ∙ sym (append_assoc word (39 ∷ []) rest)) in
        let begins : BeginsWithWord word rest (39 ∷ xs)
        = Begins (39 ∷ (word ++ 39 ∷ [])) (Delimited all refl) apart text in
        Goes (Word (n + 1) word) rest (refl, begins) (less rest e)
    closed rest e (inr joined) =
        Wrong (Joined word rest all joined (ap (λ ys. 39 ∷ ys) (split rest e)))

    go : Closes xs → IsMet n (39 ∷ xs)
    go (inl e) =
        let same : xs ≡ word = sym whole ∙ ap (λ ys. word ++ ys) e ∙ append-nil word in
        Wrong (Unclosed word all (ap (λ ys. 39 ∷ ys) same))
    go (inr h) = closed h.0 h.1 (cases_Bool (begins_apart h.0))

met_plain : (n : ℕ) (xs : List ℕ) → 0 < prefix_len is_bare xs → IsMet n xs
met_plain n xs l = go (cases_Bool (begins_apart behind))
  where
    behind : List ℕ
    behind = behind_front is_bare xs

    less : length behind < length xs
    less = omega (arith, length-drop (prefix_len is_bare xs) xs, prefix_len-le-length is_bare xs)

    go : (begins_apart behind ≡ true) ⊎ (begins_apart behind ≡ false) → IsMet n xs
    go (inl apart) =
        Goes (Word (n + 1) (take (prefix_len is_bare xs) xs)) behind
        (refl, plain_begins xs l apart) less
    go (inr joined) = Wrong (plain_breaks xs l joined)

met : (n : ℕ) (xs : List ℕ) → begins_blank xs ≡ false → xs ≢ [] → IsMet n xs
met n [] first some = absurd (some refl)
met n (x ∷ xs) first some = go (is_bar x) (is_quote x) refl refl
  where
    go : (u v : Bool) → is_bar x ≡ u → is_quote x ≡ v → IsMet n (x ∷ xs)
    go true v e f = rw (eqb-true x 124 e) (Goes (Bar n) xs (refl, refl) (omega arith))
    go false true e f = rw (eqb-true x 39 f) (met_quote n xs)
    go false false e f =
        let bare : is_bare x ≡ true = rw (first, e, f) refl in
        met_plain n (x ∷ xs) (rw (one_more is_bare x xs bare) (omega arith))

shorter : (xs : List ℕ) → length (trimmed xs) ≤ length xs
shorter xs = rw (← drop_blanks xs) (omega (arith, length-drop (prefix_len is_blank xs) xs))

reads : (fuel n : ℕ) (line : List ℕ) → length line < fuel → IsRead n line
reads zero n line l = absurd (omega arith)
reads (suc fuel) n line l = go (reads fuel) (trimmed line) refl
  where
    step : ((m : ℕ) (rest : List ℕ) → length rest < fuel → IsRead m rest) → IsMet n (trimmed line)
        → IsRead n line
    step less (Goes item rest b behind) = grind (arith, nat_tests, one_read, shorter)
    step less (Wrong h) = (Err (n + 1), ([], n, line, (refl, refl), refl, h))

    go : ((m : ℕ) (rest : List ℕ) → length rest < fuel → IsRead m rest) → (t : List ℕ)
        → trimmed line ≡ t → IsRead n line
    go less [] e = (Ok [], (n, line, (refl, refl), e))
    go less (x ∷ xs) e = step less (met n (trimmed line) (trimmed_first line) (λ none. absurd cc))

read : (line : List ℕ) → IsRead 0 line
read line = reads (suc (length line)) 0 line (omega arith)

pub cut_as_written : (line : List ℕ) → IsCutAsWritten line
cut_as_written line items = (λ w. written items line w, λ e. go (read line).0 (read line).1 e)
  where
    go : (r : Cut) → Reads 0 line r → cut_line line ≡ Ok items → IsWritten items line
    go (Ok more) h e = grind (arith, nat_tests, written more line h)
    go (Err k) h e = let here : cut_line line ≡ Err k = wrong_at k line h in absurd cc

pub refused_as_wrong : (line : List ℕ) → IsRefusedAsWrong line
refused_as_wrong line k = (λ w. wrong_at k line w, λ e. go (read line).0 (read line).1 e)
  where
    go : (r : Cut) → Reads 0 line r → cut_line line ≡ Err k → IsWrongAt k line
    go (Ok items) h e = let here : cut_line line ≡ Ok items = written items line h in absurd cc
    go (Err j) h e =
        let here : cut_line line ≡ Err j = wrong_at j line h in
        let same : j ≡ k = cc in rw (← same) h

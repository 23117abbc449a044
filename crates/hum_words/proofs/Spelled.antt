-- Words at the front of a line, as they are found there.
use Rattle.std.proofs.lemmas.Bool.Decides.{nat_tests}
use Rattle.std.proofs.Common.{◌≡◌, ◌≢◌, ℕ, ◌<◌, true, false, List, [], ◌∷◌, ◌++◌, length, take, get_or}
use Rattle.std.proofs.Common.{refl, sym, ap, ◌∙◌, arith, append_assoc}
use Rattle.std.proofs.lemmas.List.{take-append-drop}
use Rattle.std.specs.List.{prefix_len}
use Rattle.hum_words.specs.Characters.{is_bare, begins_apart}
use Rattle.hum_words.specs.Writing.{Plain, Delimited, BeginsWithWord, Begins, IsWrong, Unclosed, Within, Joined}
use Rattle.hum_words.proofs.Divided.{none_is}
use Rattle.hum_words.proofs.Fronts.{behind_front, all_pass, stops_at_quote}

-- Behind an opening quote

pub quoted_begins : (line word rest : List ℕ) → line ≡ word ++ 39 ∷ rest
    → ((i : ℕ) → i < length word → get_or word i 0 ≢ 39)
    → begins_apart rest ≡ true → BeginsWithWord word rest (39 ∷ line)
quoted_begins line word rest e none apart =
    Begins (39 ∷ (word ++ 39 ∷ [])) (Delimited (none_is 39 word none) refl) apart
    (ap (λ xs. 39 ∷ xs) (e ∙ sym (append_assoc word (39 ∷ []) rest)))

pub quoted_joins : (line word rest : List ℕ) → line ≡ word ++ 39 ∷ rest
    → ((i : ℕ) → i < length word → get_or word i 0 ≢ 39)
    → begins_apart rest ≡ false → IsWrong (39 ∷ line)
quoted_joins line word rest e none apart =
    Joined word rest (none_is 39 word none) apart (ap (λ xs. 39 ∷ xs) e)

pub never_closed : (line : List ℕ) → ((i : ℕ) → i < length line → get_or line i 0 ≢ 39)
    → IsWrong (39 ∷ line)
never_closed line none = Unclosed line (none_is 39 line none) refl

-- Without quotes

not_empty : (xs : List ℕ) → 0 < prefix_len is_bare xs → take (prefix_len is_bare xs) xs ≢ []
not_empty = grind (arith, nat_tests)

pub plain_begins : (xs : List ℕ) → 0 < prefix_len is_bare xs
    → begins_apart (behind_front is_bare xs) ≡ true
    → BeginsWithWord (take (prefix_len is_bare xs) xs) (behind_front is_bare xs) xs
plain_begins xs l apart =
    Begins (take (prefix_len is_bare xs) xs) (Plain (not_empty xs l) (all_pass is_bare xs) refl)
    apart (sym (take-append-drop (prefix_len is_bare xs) xs))

pub plain_breaks : (xs : List ℕ) → 0 < prefix_len is_bare xs
    → begins_apart (behind_front is_bare xs) ≡ false → IsWrong xs
plain_breaks xs l apart =
    let stop : (rest : List ℕ) × (behind_front is_bare xs ≡ 39 ∷ rest) = stops_at_quote xs apart in
    Within (take (prefix_len is_bare xs) xs) stop.0 (not_empty xs l) (all_pass is_bare xs)
    (sym (take-append-drop (prefix_len is_bare xs) xs)
    ∙ ap (λ ys. take (prefix_len is_bare xs) xs ++ ys) stop.1)

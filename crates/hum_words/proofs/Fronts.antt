-- Fronts of a line: its blanks, the bytes of a word, and where they end.
use Rattle.std.proofs.Common.{◌≡◌, ◌≢◌, ℕ, ◌+◌, ◌<◌, Bool, true, false, ◌||◌, cond, zero, suc}
use Rattle.std.proofs.Common.{List, [], ◌∷◌, length, take, drop, get_or, refl, arith, add-one}
use Rattle.std.proofs.lemmas.Bool.Decides.{nat_tests}
use Rattle.std.proofs.lemmas.List.Sums.{prefix_len-le-length, prefix_len_passes, prefix_len_stops}
use Rattle.std.proofs.lemmas.Str.{IsCharBoundary-start}
use Rattle.std.proofs.lemmas.Str.{IsCharBoundary-after_ascii}
use Rattle.std.specs.Prelude.{if◌then◌else◌}
use Rattle.std.specs.List.{prefix_len, list_all}
use Rattle.std.specs.Str.{IsUtf8, IsCharBoundary}
use Rattle.hum_words.specs.Characters.{is_blank, is_bar, is_bare, begins_apart, begins_blank, trimmed}

-- what stands behind the bytes that pass
abbrev pub behind_front : (ℕ → Bool) → List ℕ → List ℕ
behind_front p xs = drop (prefix_len p xs) xs

pub one_more : (p : ℕ → Bool) (x : ℕ) (xs : List ℕ) → p x ≡ true
    → prefix_len p (x ∷ xs) ≡ suc (prefix_len p xs)
one_more = grind (arith, nat_tests)

-- blanks are skipped by their number
pub drop_blanks : (xs : List ℕ) → behind_front is_blank xs ≡ trimmed xs
unfolding trimmed
drop_blanks [] = refl
drop_blanks (x ∷ xs) = go (drop_blanks xs) (is_blank x)
  where
    next : 1 + prefix_len is_blank xs ≡ suc (prefix_len is_blank xs)
    next = omega arith

    go : behind_front is_blank xs ≡ trimmed xs → (v : Bool)
        → drop (cond v (1 + prefix_len is_blank xs) 0) (x ∷ xs) ≡ (if v then trimmed xs else x ∷ xs)
    go = grind (arith, nat_tests, next)

-- no blank is left at the front
pub trimmed_first : (xs : List ℕ) → begins_blank (trimmed xs) ≡ false
unfolding trimmed
trimmed_first [] = refl
trimmed_first (x ∷ xs) = grind (arith, nat_tests, trimmed_first xs)

-- the bytes in front of the first that doesn't pass
pub all_pass : (p : ℕ → Bool) (xs : List ℕ) → list_all p (take (prefix_len p xs) xs) ≡ true
all_pass p [] = refl
all_pass p (x ∷ xs) = go (all_pass p xs) (p x) refl
  where
    next : 1 + prefix_len p xs ≡ suc (prefix_len p xs)
    next = omega arith

    go : list_all p (take (prefix_len p xs) xs) ≡ true → (v : Bool) → p x ≡ v
        → list_all p (take (cond v (1 + prefix_len p xs) 0) (x ∷ xs)) ≡ true
    go = grind (arith, nat_tests, next)

-- a text may be cut behind ASCII
pub cut_behind : (p : ℕ → Bool) → ((b : ℕ) → p b ≡ true → b < 128) → (xs : List ℕ) → IsUtf8 xs
    → IsCharBoundary xs (prefix_len p xs)
cut_behind p ascii xs u = go (prefix_len p xs) refl
  where
    go : (k : ℕ) → prefix_len p xs ≡ k → IsCharBoundary xs k
    go zero e = IsCharBoundary-start xs u
    go (suc j) e =
        let some : j < prefix_len p xs = omega arith in
        let within : j < length xs = omega (arith, prefix_len-le-length p xs) in
        let byte : get_or xs j 0 < 128 = ascii _ (prefix_len_passes p xs j 0 some) in
        let here : IsCharBoundary xs (j + 1) = IsCharBoundary-after_ascii xs j u within byte in
        rw add-one at here

-- a text may be cut in front of ASCII, and at its end
pub cut_before : (p : ℕ → Bool) → ((b : ℕ) → p b ≡ false → b < 128) → (xs : List ℕ)
    → IsCharBoundary xs (prefix_len p xs)
cut_before = grind (arith, nat_tests, prefix_len-le-length, prefix_len_stops)

blank_is_ascii : (b : ℕ) → is_blank b ≡ true → b < 128
blank_is_ascii b h = grind (arith, nat_tests)

stop_is_ascii : (b : ℕ) → is_bare b ≡ false → b < 128
stop_is_ascii b h = grind (arith, nat_tests)

pub cut_behind_blanks : (xs : List ℕ) → IsUtf8 xs → IsCharBoundary xs (prefix_len is_blank xs)
cut_behind_blanks = cut_behind is_blank blank_is_ascii

pub cut_behind_word : (xs : List ℕ) → IsCharBoundary xs (prefix_len is_bare xs)
cut_behind_word = cut_before is_bare stop_is_ascii

quote_is : (b : ℕ) → is_bare b ≡ false → (is_blank b || is_bar b) ≡ false → b ≡ 39
quote_is b e h = grind (arith, nat_tests)

-- what stands behind a word without quotes: a blank, a bar, the end, or a quote
abbrev pub Stops : List ℕ → Type 0
Stops xs = begins_apart (behind_front is_bare xs) ≡ false
    → (rest : List ℕ) × (behind_front is_bare xs ≡ 39 ∷ rest)

pub stops_at_quote : (xs : List ℕ) → Stops xs
stops_at_quote [] h = absurd cc
stops_at_quote (x ∷ xs) h = go (stops_at_quote xs) (is_bare x) refl h
  where
    next : 1 + prefix_len is_bare xs ≡ suc (prefix_len is_bare xs)
    next = omega arith

    go : Stops xs → (v : Bool) → is_bare x ≡ v → Stops (x ∷ xs)
    go = grind (arith, nat_tests, next, quote_is)

-- what is no bar, no quote and no blank begins a word without quotes
pub bare_front : (xs : List ℕ) → 0 < length xs → begins_blank xs ≡ false
    → ((rest : List ℕ) → xs ≢ 124 ∷ rest)
    → ((rest : List ℕ) → xs ≢ 39 ∷ rest) → 0 < prefix_len is_bare xs
bare_front = grind (arith, nat_tests)

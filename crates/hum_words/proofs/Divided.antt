-- The first line of a text.
use Rattle.std.proofs.lemmas.Grind.{common_steps}
use Rattle.std.proofs.Common.{◌≡◌, ◌≢◌, ℕ, ◌+◌, ◌<◌, true, false, not, suc}
use Rattle.std.proofs.Common.{List, [], ◌∷◌, ◌++◌, length, get_or, refl, arith}
use Rattle.std.proofs.lemmas.Bool.{and_parts}
use Rattle.std.proofs.lemmas.Bool.Decides.{nat_tests}
use Rattle.std.specs.Prelude.{◌==◌}
use Rattle.std.specs.List.{list_all}
use Rattle.hum_words.specs.Branches.{is_lf, lines_of, IsFirstLine, AreLines}
use Rattle.hum_words.specs.Branches.{without_cr, is_skipped, branches_from}
use Rattle.hum_words.specs.Laws.{IsDivided}

other_byte : (c b : ℕ) → b ≢ c → not (b == c) ≡ true
other_byte c b h = grind (arith, nat_tests)

-- a byte that stands nowhere
pub none_is : (c : ℕ) (xs : List ℕ) → ((i : ℕ) → i < length xs → get_or xs i 0 ≢ c)
    → list_all (λ b. not (b == c)) xs ≡ true
none_is c [] h = refl
none_is c (x ∷ xs) h =
    let here : not (x == c) ≡ true = other_byte c x (h 0 (omega arith)) in
    rw here (none_is c xs (λ i l. h (suc i) (omega arith)))

no_lf : (b : ℕ) → not (is_lf b) ≡ true → is_lf b ≡ false
no_lf b h = grind arith

-- a line that LF ends
pub first_ended : (line rest : List ℕ) → list_all (λ b. not (is_lf b)) line ≡ true
    → lines_of (line ++ 10 ∷ rest) ≡ line ∷ lines_of rest
unfolding lines_of
first_ended [] rest h = refl
first_ended (b ∷ line) rest h =
    let parts = and_parts _ _ h in
    rw (no_lf b parts.0, first_ended line rest parts.1) refl

-- the last line
pub last_line : (line : List ℕ) → line ≢ [] → list_all (λ b. not (is_lf b)) line ≡ true
    → lines_of line ≡ line ∷ []
unfolding lines_of
last_line (b ∷ c ∷ line) some h =
    let parts = and_parts _ _ h in
    rw (no_lf b parts.0, last_line (c ∷ line) (λ e. cc) parts.1) refl
last_line line h k = grind (arith, nat_tests)

-- nothing has no lines
pub no_lines : (xs : List ℕ) → length xs ≡ 0 → lines_of xs ≡ []
unfolding lines_of
no_lines = grind (arith, common_steps)

-- a line that is skipped
pub passed : (n : ℕ) (rest line text after : List ℕ) → lines_of rest ≡ line ∷ lines_of after
    → text ≡ without_cr line
    → is_skipped text ≡ true
    → branches_from n (lines_of rest) ≡ branches_from (n + 1) (lines_of after)
unfolding branches_from
passed n rest line text after e same skipped = rw (e, ← same, skipped) refl

-- a line that is a branch
pub met : (n : ℕ) (rest line text after : List ℕ) → lines_of rest ≡ line ∷ lines_of after
    → text ≡ without_cr line
    → is_skipped text ≡ false
    → branches_from n (lines_of rest) ≡ (n + 1, text) ∷ branches_from (n + 1) (lines_of after)
unfolding branches_from
met n rest line text after e same skipped = rw (e, ← same, skipped) refl

pub no_branches : (n : ℕ) (rest : List ℕ) → length rest ≡ 0 → branches_from n (lines_of rest) ≡ []
unfolding branches_from
no_branches n rest e = rw (no_lines rest e) refl

-- the first line by what follows it
pub first_of : (line rest text : List ℕ) → IsFirstLine line rest text
    → lines_of text ≡ line ∷ lines_of rest
unfolding lines_of
first_of = grind (arith, nat_tests, first_ended, last_line)

are_lines : (lines : List (List ℕ)) (text : List ℕ) → AreLines lines text → lines_of text ≡ lines
are_lines [] text h = rw h (no_lines [] refl)
are_lines (line ∷ lines) text h = grind (arith, nat_tests, are_lines lines h.0 h.2, first_of)

lines_are : (text : List ℕ) → AreLines (lines_of text) text
unfolding lines_of
lines_are [] = refl
lines_are (b ∷ bs) = grind (arith, nat_tests, lines_are bs)

pub divided : (text : List ℕ) → IsDivided text
divided text lines = (λ h. are_lines lines text h, λ e. rw (← e) (lines_are text))

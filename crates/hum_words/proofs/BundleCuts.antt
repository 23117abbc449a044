-- The first line of some bytes.
use Rattle.std.proofs.lemmas.Grind.{common_steps}
use Rattle.std.proofs.lemmas.Bool.Decides.{nat_tests}
use Rattle.std.proofs.Common.{◌≡◌, ℕ, suc, ◌+◌, ◌<◌, ◌≤◌, ◌==◌, ◌&&◌, Bool, true, false, List, [], ◌∷◌, ◌++◌}
use Rattle.std.proofs.Common.{length, take, drop, get_or, None, Some, is_some, refl, sym, ap, ◌∙◌, arith}
use Rattle.std.proofs.Common.{length-append, length-drop, length-take, drop-cons, ◌-◌}
use Rattle.std.proofs.lemmas.List.{take-append-drop, get_or-take, take_more, drop-drop}
use Rattle.std.proofs.lemmas.Bool.{eqb-true}
use Rattle.std.proofs.Math.Seq.{drop-append_seam, take-append_seam, take-add}
use Rattle.memchr.specs.Find.{IsFirstByte, is_byte}
use Rattle.std.specs.List.{list_all}
use Rattle.std.specs.Prelude.{not}
use Rattle.hum_words.specs.Bundle.{lines, before_name, name_in, names, score_in}

-- no LF
abbrev pub IsOneLine : List ℕ → Type 0
IsOneLine line = list_all (λ b. not (b == 10)) line ≡ true

split_step : (b : Bool) (more : Bool) → (not b && more) ≡ true → (b ≡ false) × (more ≡ true)
split_step = grind (arith, nat_tests)

pub line_ended : (line rest : List ℕ) → IsOneLine line → lines (line ++ 10 ∷ rest) ≡ (line ++ 10 ∷ []) ∷ lines rest
unfolding lines
line_ended [] rest h = refl
line_ended (b ∷ line) rest h =
    let p = split_step (b == 10) (list_all (λ b. not (b == 10)) line) h in
    rw (p.0, line_ended line rest p.1) refl

pub line_last : (b : ℕ) (line : List ℕ) → IsOneLine (b ∷ line) → lines (b ∷ line) ≡ (b ∷ line) ∷ []
unfolding lines
line_last b [] h = let p = split_step (b == 10) true h in rw p.0 refl
line_last b (c ∷ line) h =
    let p = split_step (b == 10) (list_all (λ b. not (b == 10)) (c ∷ line)) h in
    rw (p.0, line_last c line p.1) refl

not_true : (b : Bool) → (b ≡ true → ⊥) → b ≡ false
not_true = grind (arith, nat_tests)

one_line : (xs : List ℕ) → ((j : ℕ) → j < length xs → (get_or xs j 0 == 10) ≡ true → ⊥) → IsOneLine xs
one_line [] h = refl
one_line (b ∷ xs) h =
    let first : (b == 10) ≡ false = not_true (b == 10) (λ yes. h 0 (omega arith) yes) in
    rw first (one_line xs (λ j low yes. h (suc j) (omega arith) yes))

-- behind the first LF the next line begins
pub line_at : (xs : List ℕ) (k : ℕ) → IsFirstByte (is_byte 10) xs (Some k) → lines xs ≡ take (k + 1) xs ∷ lines (drop (k + 1) xs)
line_at xs k h =
    let within : k < length xs = h.0.high in
    let byte : get_or xs k 0 ≡ 10 = eqb-true (get_or xs k 0) 10 h.1 in
    let free = one_line (take k xs) (λ j low yes.
    let below : j < k = omega (arith, length-take k xs) in
    h.0.before j (omega arith) below (rw (get_or-take k xs j 0 below) at yes)) in
    let next : k + 1 ≡ suc k = omega arith in
    let all : xs ≡ take k xs ++ 10 ∷ drop (k + 1) xs =
    rw next (sym (take-append-drop k xs) ∙ ap (λ rest. take k xs ++ rest) (drop-cons xs k 0 within ∙ ap (λ b. b ∷ drop (suc k) xs) byte)) in
    let first : take (k + 1) xs ≡ take k xs ++ 10 ∷ [] = grind (arith, nat_tests, take_more) in
    ap lines all ∙ line_ended (take k xs) (drop (k + 1) xs) free ∙ ap (λ line. line ∷ lines (drop (k + 1) xs)) (sym first)

-- where there is no LF, all is one line
pub line_alone : (xs : List ℕ) → 0 < length xs → IsFirstByte (is_byte 10) xs None → lines xs ≡ xs ∷ lines []
unfolding lines
line_alone [] some h = absurd (omega arith)
line_alone (b ∷ xs) some h = line_last b xs (one_line (b ∷ xs) (λ j low yes. h j (omega arith) low yes))

-- One line after another.

pub passed : (line : List ℕ) (more : List (List ℕ)) → is_some (name_in line) ≡ false → before_name (line ∷ more) ≡ line ++ before_name more
unfolding before_name
passed line more h = rw h refl

pub met : (line : List ℕ) (more : List (List ℕ)) → is_some (name_in line) ≡ true → before_name (line ∷ more) ≡ []
unfolding before_name
met line more h = rw h refl

pub none_left : (xs : List ℕ) → length xs ≡ 0 → before_name (lines xs) ≡ []
unfolding before_name lines
none_left = grind (arith, common_steps)

pub found : (name line : List ℕ) (more : List (List ℕ)) → names (name_in line) name ≡ true
    → score_in name (line ∷ more) ≡ Some (before_name more)
unfolding score_in
found name line more h = rw h refl

pub other : (name line : List ℕ) (more : List (List ℕ)) → names (name_in line) name ≡ false
    → score_in name (line ∷ more) ≡ score_in name more
unfolding score_in
other name line more h = rw h refl

pub no_score : (name xs : List ℕ) → length xs ≡ 0 → score_in name (lines xs) ≡ None
unfolding score_in lines
no_score = grind (arith, common_steps)

-- a line more of a front
pub front_on : (bytes line rest : List ℕ) (len : ℕ) → len ≤ length bytes → drop len bytes ≡ line ++ rest
    → (len + length line ≤ length bytes) × (rest ≡ drop (len + length line) bytes)
    × (take (len + length line) bytes ≡ take len bytes ++ line)
front_on bytes line rest len within cut =
    let total : length bytes - len ≡ length line + length rest = sym (length-drop len bytes) ∙ ap (λ xs. length xs) cut ∙ length-append line rest in (
      omega (arith, total),
      sym (sym (drop-drop (length line) len bytes) ∙ ap (drop (length line)) cut ∙ drop-append_seam line rest),
      take-add len (length line) bytes ∙ ap (λ xs. take len bytes ++ take (length line) xs) cut ∙ ap (λ xs. take len bytes ++ xs) (take-append_seam line rest),
    )

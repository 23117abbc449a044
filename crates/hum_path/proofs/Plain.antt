-- Interpretations without path indicator and exclusive interpretation change nothing.
use Rattle.std.proofs.Common.{◌≡◌, ◌∙◌, refl, sym, ap, ℕ, zero, suc, ◌+◌, Bool, true, false, List}
use Rattle.std.proofs.Common.{[], ◌∷◌, length, map, drop, get_or, arith, add-one, drop-cons, cond}
use Rattle.std.proofs.Common.{None}
use Rattle.std.specs.List.{list_any, list_all, find, AllByRecursion}
use Rattle.std.proofs.lemmas.List.{drop_all, length-map}
use Rattle.std.proofs.lemmas.Bool.Decides.{nat_tests}
use Rattle.hum_score.specs.declared.spines.Sign.{Sign}
use Rattle.hum_score.specs.declared.spines.Move.TheVariants.{Same}
use Rattle.hum_score.specs.Sign.{sign_of, is_exclusive, is_plain, has_exclusive}
use Rattle.hum_score.specs.Spines.{Spines, exchanges, heirs_from, same_upto, moves_under, renamed, names_after}
use Rattle.hum_score.specs.Rules.{breaks, in_order}

-- none passes the test
pub find_head : {X : Type 0} (p : X → Bool) (x : X) (xs : List X) → find p (x ∷ xs) ≡ None
    → (p x ≡ false) × (find p xs ≡ None)
find_head = grind (arith, nat_tests)

pub find_none : {X : Type 0} (p : X → Bool) (xs : List X) → find p xs ≡ None → AllByRecursion (λ x. p x ≡ false) xs
find_none p [] h = tt
find_none p (x ∷ xs) h = let w = find_head p x xs h in (w.0, find_none p xs w.1)

-- tokens have an exclusive interpretation where their signs do
pub any_exclusive : (tokens : List (List ℕ)) → list_any is_exclusive (map sign_of tokens) ≡ has_exclusive tokens
any_exclusive [] = refl
any_exclusive (token ∷ tokens) = rw (any_exclusive tokens) refl

pub signs_exclusive : (tokens : List (List ℕ)) (signs : List Sign) (has : Bool) → signs ≡ map sign_of tokens
    → has ≡ has_exclusive tokens → list_any is_exclusive signs ≡ has
signs_exclusive tokens signs has is e = ap (list_any is_exclusive) is ∙ any_exclusive tokens ∙ sym e

-- as wide as the spines
pub sound_width : (names : List (List ℕ)) (tokens : List (List ℕ))
    → find (breaks (Spines names) tokens) in_order ≡ None → length tokens ≡ length names
sound_width = grind (arith, nat_tests)

plain_heirs : (pair : List ℕ) (j : ℕ) (after_join : Bool) (signs : List Sign) → list_all is_plain signs ≡ true
    → heirs_from pair j after_join signs ≡ same_upto j (length signs)
plain_heirs pair j b [] h = refl
plain_heirs pair j b (s ∷ signs) h = grind (arith, nat_tests, plain_heirs pair (j + 1) false signs)

pub plain_moves : (signs : List Sign) → list_all is_plain signs ≡ true → moves_under signs ≡ same_upto 0 (length signs)
plain_moves signs h = plain_heirs (exchanges 0 signs) 0 false signs h

pub not_exclusive : (s : Sign) → is_plain s ≡ true → is_exclusive s ≡ false
not_exclusive = grind (arith, nat_tests)

plain_at : (tokens : List (List ℕ)) (j : ℕ) → list_all is_plain (map sign_of tokens) ≡ true
    → is_exclusive (sign_of (get_or tokens j [])) ≡ false
plain_at (t ∷ ts) (suc j) h = grind (arith, nat_tests, plain_at ts j)
plain_at tokens j h = grind (arith, nat_tests)

plain_names : (names tokens : List (List ℕ)) (j n : ℕ) → list_all is_plain (map sign_of tokens) ≡ true
    → j + n ≡ length names → map (renamed names tokens) (same_upto j n) ≡ drop j names
plain_names names tokens j zero h e = sym (drop_all j names (omega (arith, e)))
plain_names names tokens j (suc n) h e =
    let first : renamed names tokens (Same j) ≡ get_or names j [] = ap (λ (b : Bool). cond b (get_or tokens j []) (get_or names j [])) (plain_at tokens j h) in
    let rest : map (renamed names tokens) (same_upto (j + 1) n) ≡ drop (suc j) names =
    plain_names names tokens (j + 1) n h (omega (arith, e)) ∙ ap (λ (k : ℕ). drop k names) (add-one j) in
    rw (drop-cons names j [] (omega (arith, e)))
    (ap (λ (x : List ℕ). x ∷ map (renamed names tokens) (same_upto (j + 1) n)) first
    ∙ ap (λ (xs : List (List ℕ)). get_or names j [] ∷ xs) rest)

-- no name changes
pub plain_stays : (names tokens : List (List ℕ)) → list_all is_plain (map sign_of tokens) ≡ true
    → length tokens ≡ length names → names_after (Spines names) tokens ≡ names
plain_stays names tokens h e =
    let size : length (map sign_of tokens) ≡ length names = length-map tokens sign_of ∙ e in
    rw (plain_moves (map sign_of tokens) h, size) (plain_names names tokens 0 (length names) h (omega arith))

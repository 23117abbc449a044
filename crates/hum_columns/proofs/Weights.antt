-- How long the text of tokens is.
use Rattle.std.proofs.lemmas.Grind.{common_steps}
use Rattle.std.proofs.lemmas.Bool.Decides.{nat_tests}
use Rattle.std.proofs.Common.{◌≡◌, ℕ, ◌+◌, ◌≤◌, List, [], ◌∷◌, ◌++◌, length, arith}
use Rattle.hum_record.specs.Building.{spelled}

-- the bytes of tokens, each with one after it
abbrev pub weight : List (List ℕ) → ℕ
weight [] = 0
weight (token ∷ tokens) = length token + 1 + weight tokens

pub weight-append : (xs ys : List (List ℕ)) → weight (xs ++ ys) ≡ weight xs + weight ys
weight-append [] ys = omega arith
weight-append (x ∷ xs) ys = let ih = weight-append xs ys in omega (arith, ih)

pub spelled_weight : (x : List ℕ) (xs : List (List ℕ)) → length (spelled (x ∷ xs)) + 1 ≡ weight (x ∷ xs)
spelled_weight x [] = omega arith
spelled_weight x (y ∷ ys) = grind (arith, common_steps, spelled_weight y ys)

-- tokens of no more weight have no longer text
pub no_longer : (us ts : List (List ℕ)) → weight us ≤ weight ts → length (spelled us) ≤ length (spelled ts)
no_longer [] ts h = omega arith
no_longer (u ∷ us) [] h = absurd (omega arith)
no_longer (u ∷ us) (t ∷ ts) h = grind (arith, nat_tests, spelled_weight)

-- a prefix of tokens that fit fits
pub front_fits : (most : ℕ) (xs : List (List ℕ)) (x : List ℕ) (rest all : List (List ℕ))
    → weight (xs ++ x ∷ rest) ≤ weight all → length (spelled all) ≤ most → length (spelled (xs ++ x ∷ [])) ≤ most
front_fits = grind (arith, nat_tests, weight-append, no_longer)

-- Options that were given, looked up by their letters.
use Rattle.std.proofs.lemmas.Bool.Decides.{nat_tests}
use Rattle.std.proofs.Common.{◌≡◌, ℕ, suc, ◌+◌, ◌<◌, ◌≤◌, ◌==◌, Bool, false, not, List, [], ◌∷◌, Option, None, Some}
use Rattle.std.proofs.Common.{length, get_or, refl, ap, sym, arith, position, is_some}
use Rattle.std.specs.Prelude.{map, ◌||◌, if◌then◌else◌, remove}
use Rattle.std.specs.List.{list_any, prefix_len}
use Rattle.std.proofs.lemmas.Bool.{ltb-false, eqb-true}
use Rattle.hum_score.proofs.Cases.{by_bool}
use Rattle.hum_options.specs.declared.given.GivenOption.{GivenOption}
use Rattle.hum_options.specs.declared.values.Value.{Value}
use Rattle.hum_options.specs.Given.{Given, GivenOf, value_at, AreKept}
use Rattle.hum_options.specs.Options.{markers_meant, both}
use Rattle.hum_options.specs.Seen.{seen, given_of}

-- an option as the code has it
abbrev Entry : Type 0 → Type 0
Entry P = GivenOption (Value P)

-- a test of what was given, seen or not
pub any_given : {P : Type 0} (p : GivenOf P → Bool) (xs : List (Entry P))
    → list_any p (map given_of xs) ≡ list_any (λ x. p (given_of x)) xs
any_given p [] = refl
any_given p (x ∷ xs) = ap (λ b. p (given_of x) || b) (any_given p xs)

module _ {P : Type 0} (b : ℕ) where
  -- how many stand before the first of a letter
  abbrev before : List (Entry P) → ℕ
  before xs = prefix_len (λ x. not (x.letter == b)) xs

  -- its value stands there
  value_there : (d : Entry P) (xs : List (Entry P)) → before xs < length xs
      → value_at b (map given_of xs) ≡ Some (seen (get_or xs (before xs) d).value)
  value_there d [] h = absurd (omega (arith, h))
  value_there d (x ∷ xs) h = grind (arith, nat_tests, value_there d xs)

  -- and without it the options of other letters have theirs
  others_there : (a : ℕ) (xs : List (Entry P)) → before xs < length xs → (b == a) ≡ false
      → value_at a (map given_of (remove xs (before xs))) ≡ value_at a (map given_of xs)
  others_there a [] h other = absurd (omega (arith, h))
  others_there a (x ∷ xs) h other = by_bool (x.letter == b)
      (λ w. let same : x.letter ≡ b = eqb-true x.letter b w in rw (w, same, other) refl)
      (λ w.
      let within : 1 + before xs < suc (length xs) = rw w at h in
      let next : 1 + before xs ≡ suc (before xs) = omega arith in
      rw (w, next) (ap (λ o. if x.letter == a then Some (seen x.value) else o)
      (others_there a xs (omega (arith, within)) other)))

  -- where none is of the letter
  nothing_there : (xs : List (Entry P)) → length xs ≤ before xs → None ≡ value_at b (map given_of xs)
  nothing_there [] h = refl
  nothing_there (x ∷ xs) h = grind (arith, nat_tests, nothing_there xs)

  -- a place that was found
  place_found : {k : ℕ} (xs : List (Entry P)) → Some k ≡ position (λ x. x.letter == b) xs
      → (k ≡ before xs) × (before xs < length xs)
  place_found = grind (arith, nat_tests)

  -- what is taken out of what was given
  pub value_taken : (xs : List (Entry P)) {k : ℕ} {given : Entry P}
      → Some k ≡ position (λ x. x.letter == b) xs → given ≡ get_or xs k given
      → Some (seen given.value) ≡ value_at b (map given_of xs)
  value_taken = grind (arith, nat_tests, place_found, get_or, value_there)

  pub others_kept : (xs ys : List (Entry P)) {k : ℕ} → Some k ≡ position (λ x. x.letter == b) xs → ys ≡ remove xs k
      → AreKept b (map given_of xs) (map given_of ys)
  others_kept xs ys found is = λ a other.
      let p = place_found xs found in rw (is, p.0) (others_there a xs p.1 other)

  pub nothing_taken : (xs : List (Entry P)) → None ≡ position (λ x. x.letter == b) xs
      → None ≡ value_at b (map given_of xs)
  nothing_taken = grind (arith, nat_tests, nothing_there, ltb-false)

  -- whether it was given
  pub is_given : (xs : List (Entry P)) (found : Option ℕ) → found ≡ position (λ x. x.letter == b) xs
      → is_some found ≡ is_some (value_at b (map given_of xs))
  is_given xs None lost = ap is_some (nothing_taken xs lost)
  is_given [] (Some k) found = cc
  is_given (x ∷ xs) (Some k) found = sym (ap is_some (value_there x (x ∷ xs) (place_found (x ∷ xs) found).1))

-- where the option of one letter is taken out, the markers are what they were
pub markers_kept : (old new : List Given) → AreKept 114 old new → markers_meant new ≡ markers_meant old
markers_kept old new kept = rw (kept 108 refl, kept 110 refl, kept 111 refl, kept 101 refl, kept 115 refl) refl

pub both_lack : {A B C : Type 0} (f : A → B → C) (first : Option A) → None ≡ both f first None
both_lack = grind (arith, nat_tests)

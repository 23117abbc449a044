-- The pattern of barlines is a look at the first byte.
use Rattle.std.proofs.Common.{◌≡◌, ◌∙◌, refl, sym, ap, ℕ, zero, suc, ◌+◌, ◌-◌, ◌≤◌, ◌<◌, ◌==◌, ◌&&◌, Bool, true, false}
use Rattle.std.proofs.Common.{List, [], ◌∷◌, length, Option, None, Some, is_some, arith, codes}
use Rattle.std.specs.Prelude.{slice_get, option_map, if◌then◌else◌}
use Rattle.std.proofs.lemmas.Bool.Decides.{nat_tests}
use Rattle.regex.specs.Patterns.{in_ranges}
use Rattle.regex_hir.specs.Text.{is_some_and, has_bytes_at, byte_before}
use Rattle.regex_hir.specs.Re.{Re, accept, attempt, alt, byte_in, cat, empty, literal, look}
use Rattle.regex_hir.specs.Find.{first_from}
use Rattle.regex_hir.specs.Looks.{holds, holds_between}
use Rattle.regex_hir.specs.declared.look.Look.TheVariants.{Start}
use Rattle.hum_pattern.specs.Meaning.{IsExpression, expression, matched, first_end}
use Rattle.hum_pattern.specs.Searching.{begins_with}
use Rattle.hum_pattern.proofs.OnLiterals.{patterns_on_literals}

abbrev barline : Re
barline = alt (cat (look Start) (cat (literal (61 ∷ [])) empty)) (byte_in [])

is_barline : expression (codes "^=") ≡ barline
unfolding patterns_on_literals
is_barline = refl

pub barline_is : IsExpression (codes "^=")
unfolding patterns_on_literals
barline_is = omega arith

there : (hay : List ℕ) (k : ℕ) → k < length hay → is_some (slice_get hay k) ≡ true
there [] k h = absurd (omega (arith, h))
there (x ∷ xs) zero h = refl
there (x ∷ xs) (suc k) h = there xs k (omega (arith, h))

not_start : (hay : List ℕ) (k : ℕ) → k < length hay → holds Start hay (suc k) ≡ false
unfolding holds holds_between byte_before
not_start hay k h =
    let behind : (suc k == 0) ≡ false = grind (arith, nat_tests) in
    let before : suc k - 1 ≡ k = omega arith in
    rw (behind, before, there hay k h) refl

none_in : (o : Option ℕ) → is_some_and o (in_ranges []) ≡ false
unfolding in_ranges
none_in None = refl
none_in (Some b) = refl

-- it has no match behind the beginning
nowhere : (hay : List ℕ) (k : ℕ) → k < length hay → attempt hay barline accept (suc k) ≡ None
unfolding attempt
nowhere hay k h = rw (not_start hay k h, none_in (slice_get hay (suc k))) refl

none_from : (hay : List ℕ) (n k : ℕ) → k + n ≤ length hay
    → is_some (first_from (attempt hay barline accept) n (suc k)) ≡ false
unfolding first_from
none_from hay zero k h = refl
none_from hay (suc n) k h =
    let next : suc k + 1 ≡ suc (suc k) = omega arith in
    rw (nowhere hay k (omega (arith, h)), next) (none_from hay n (suc k) (omega (arith, h)))

is_front : (b : ℕ) (bs : List ℕ) → has_bytes_at (b ∷ bs) 0 (61 ∷ []) ≡ (61 == b)
unfolding has_bytes_at
is_front b bs = by (61 == b)
  where
    by : (x : Bool) → (x && true) ≡ x
    by true = refl
    by false = refl

at_front : (b : ℕ) (bs : List ℕ) (x : Bool) → has_bytes_at (b ∷ bs) 0 (61 ∷ []) ≡ x
    → x ≡ is_some (first_from (attempt (b ∷ bs) barline accept) (suc (length (b ∷ bs))) 0)
unfolding first_from attempt holds holds_between byte_before in_ranges
at_front b bs true e = rw e refl
at_front b bs false e =
    let none = none_from (b ∷ bs) (length (b ∷ bs)) 0 (omega arith) in rw e (sym none)

pub barline_found : (token : List ℕ) → begins_with 61 token ≡ matched (codes "^=") token
unfolding patterns_on_literals
barline_found [] = refl
barline_found (b ∷ bs) =
    let size : length (b ∷ bs) + 1 - 0 ≡ suc (length (b ∷ bs)) = omega arith in
    at_front b bs (61 == b) (is_front b bs)
    ∙ ap (λ (n : ℕ). is_some (first_from (attempt (b ∷ bs) barline accept) n 0)) (sym size)

nothing : {A B : Type 0} (f : A → B) (o : Option A) → is_some o ≡ false → option_map f o ≡ None
nothing f None h = refl
nothing f (Some x) h = cc

front_end : (b : ℕ) (bs : List ℕ) (x : Bool) → has_bytes_at (b ∷ bs) 0 (61 ∷ []) ≡ x
    → (if x then Some 1 else None)
    ≡ option_map (λ m. m.trace.end) (first_from (attempt (b ∷ bs) barline accept) (suc (length (b ∷ bs))) 0)
unfolding first_from attempt holds holds_between byte_before in_ranges
front_end b bs true e = rw e refl
front_end b bs false e =
    let none = none_from (b ∷ bs) (length (b ∷ bs)) 0 (omega arith) in rw e (sym (nothing _ _ none))

-- and it ends behind that byte
pub barline_end : (token : List ℕ) → (if begins_with 61 token then Some 1 else None) ≡ first_end (codes "^=") token
unfolding patterns_on_literals
barline_end [] = refl
barline_end (b ∷ bs) =
    let size : length (b ∷ bs) + 1 - 0 ≡ suc (length (b ∷ bs)) = omega arith in
    front_end b bs (61 == b) (is_front b bs)
    ∙ ap (λ (n : ℕ). option_map (λ m. m.trace.end) (first_from (attempt (b ∷ bs) barline accept) n 0)) (sym size)

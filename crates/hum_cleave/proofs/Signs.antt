-- What the one column's interpretation asks of the spines.
use Rattle.std.proofs.Common.{◌≡◌, refl, ℕ, Bool, true, false, not, List, [], ◌∷◌, map, cond, arith}
use Rattle.std.specs.List.{list_any, list_all}
use Rattle.std.specs.Str.{bytes_eq}
use Rattle.std.proofs.lemmas.Bool.{and_parts, or_parts, or_from, false≢true}
use Rattle.std.proofs.lemmas.Bool.Decides.{nat_tests}
use Rattle.std.proofs.lemmas.Slice.Eq.{bytes_eq-Decides}
use lib.Chars.{codes}
use Rattle.hum_score.specs.declared.spines.Sign.{Sign}
use Rattle.hum_score.specs.declared.spines.Sign.TheVariants.{Split, Join, End, Plain}
use Rattle.hum_score.specs.Sign.{sign_of, is_join, is_exchange, is_exclusive}
use Rattle.hum_score.proofs.Cases.{by_bool}
use Rattle.hum_cleave.specs.Tokens.{is_silent, interpretation_of}
use Rattle.hum_cleave.specs.Cleave.{is_moved, is_end, ends_apart}

-- what none of the tokens asks, the one doesn't
pub one_lacks : (p : Sign → Bool) (ts : List (List ℕ)) → p Plain ≡ false → list_any p (map sign_of ts) ≡ false
    → p (sign_of (interpretation_of ts)) ≡ false
one_lacks p [] o h = o
one_lacks p (t ∷ ts) o h =
    let both = or_parts (p (sign_of t)) (list_any p (map sign_of ts)) h in
    either (is_silent t) both.0 (one_lacks p ts o both.1)
  where
    either : (b : Bool) → p (sign_of t) ≡ false → p (sign_of (interpretation_of ts)) ≡ false → p (sign_of (cond b (interpretation_of ts) t)) ≡ false
    either = grind (arith, nat_tests)

-- it is no split or join
abbrev pub is_inner : Sign → Bool
is_inner Split = true
is_inner Join = true
is_inner _ = false

loud : (t : List ℕ) → is_silent t ≡ false → is_inner (sign_of t) ≡ false
loud = grind (arith, nat_tests)

pub one_outer : (ts : List (List ℕ)) → is_inner (sign_of (interpretation_of ts)) ≡ false
one_outer [] = refl
one_outer (t ∷ ts) = by_bool (is_silent t)
    (λ w. rw w (one_outer ts))
    (λ w. rw w (loud t w))

-- where all end it is an end
end_speaks : (t : List ℕ) → is_end (sign_of t) ≡ true → is_silent t ≡ false
end_speaks = grind (arith, nat_tests, bytes_eq-Decides)

end_at : (s : Sign) → is_end s ≡ true → s ≡ End
end_at = grind (arith, nat_tests)

pub one_ends : (ts : List (List ℕ)) → list_any is_end (map sign_of ts) ≡ true → list_all is_end (map sign_of ts) ≡ true
    → sign_of (interpretation_of ts) ≡ End
one_ends [] some all = absurd (false≢true some)
one_ends (t ∷ ts) some all = grind (arith, nat_tests, and_parts, end_speaks, end_at)

pub all_or_none : (ss : List Sign) → ends_apart ss ≡ false → list_any is_end ss ≡ true → list_all is_end ss ≡ true
all_or_none = grind (arith, nat_tests)

-- not all end where one doesn't
pub some_fails : {X : Type 0} (p : X → Bool) (xs : List X) → list_any (λ x. not (p x)) xs ≡ not (list_all p xs)
some_fails p [] = refl
some_fails p (x ∷ xs) = grind (arith, nat_tests, some_fails p xs)

pub plain_at : (s : Sign) → is_end s ≡ false → is_moved s ≡ false → is_exclusive s ≡ false → is_inner s ≡ false → s ≡ Plain
plain_at = grind (arith, nat_tests)

pub not_moved : (s : Sign) → is_moved s ≡ false → is_exchange s ≡ false
not_moved = grind (arith, nat_tests)

pub none_moved : (ss : List Sign) → list_any is_moved ss ≡ false → list_any is_exchange ss ≡ false
none_moved [] h = refl
none_moved (s ∷ ss) h =
    let both = or_parts (is_moved s) (list_any is_moved ss) h in
    or_from (is_exchange s) (list_any is_exchange ss) (not_moved s both.0) (none_moved ss both.1)

pub not_inner : (s : Sign) → is_inner s ≡ false → is_join s ≡ false
not_inner = grind (arith, nat_tests)

pub not_bare : (t : List ℕ) → is_exclusive (sign_of t) ≡ false → bytes_eq (codes "**") t ≡ false
not_bare = grind (arith, nat_tests, bytes_eq-Decides)

-- How long tokens are.
use Rattle.std.proofs.Common.{◌≡◌, refl, ℕ, zero, suc, ◌+◌, ◌<◌, ◌≤◌, Bool, true, false, List, [], ◌∷◌, ◌++◌, cond}
use Rattle.std.proofs.Common.{length, length-append, take, arith, Some, None}
use Rattle.std.specs.Prelude.{nat_le}
use Rattle.std.specs.Option.{option_map}
use Rattle.std.specs.List.{join_with_byte}
use Rattle.std.proofs.lemmas.Bool.Decides.{nat_tests}
use Rattle.hum_context.specs.Context.{Extent, First, Between, taken, through}
use Rattle.hum_context.specs.Walking.{bytes_of}
use Rattle.hum_context.proofs.Growth.{more_none, with_more}

-- A text of tokens has a byte less than they have with one behind each.
pub joined : (ts : List (List ℕ)) (t : List ℕ)
    → length (join_with_byte 32 (t ∷ ts)) + 1 ≡ bytes_of (t ∷ ts)
joined [] t = omega arith
joined (u ∷ us) t =
    let ih = joined us u in
    let sum = length-append t (32 ∷ join_with_byte 32 (u ∷ us)) in
    omega (arith, ih, sum)

pub text_bytes : (ts : List (List ℕ)) → 0 < length (join_with_byte 32 ts)
    → length (join_with_byte 32 ts) + 1 ≡ bytes_of ts
text_bytes [] h = absurd (omega (arith, h))
text_bytes (t ∷ ts) h = joined ts t

pub bytes_text : (ts : List (List ℕ)) → 0 < bytes_of ts
    → length (join_with_byte 32 ts) + 1 ≡ bytes_of ts
bytes_text [] h = absurd (omega (arith, h))
bytes_text (t ∷ ts) h = joined ts t

-- Those that are taken at last are no shorter than the first of them that aren't enough.
front_bytes : (n : ℕ) (fs more : List (List ℕ)) → length fs ≤ n
    → bytes_of fs ≤ bytes_of (take n (fs ++ more))
front_bytes n [] more h = omega arith
front_bytes zero (f ∷ fs) more h = absurd (omega (arith, h))
front_bytes (suc n) (f ∷ fs) more h =
    let ih = front_bytes n fs more (omega (arith, h)) in omega (arith, ih)

first_longer : (n : ℕ) (fs more ys : List (List ℕ)) (a b : Bool) → nat_le n (length fs) ≡ a
    → cond a (Some (take n fs)) None ≡ None → cond b (Some (take n (fs ++ more))) None ≡ Some ys
    → bytes_of fs ≤ bytes_of ys
first_longer n fs more ys true b w few e = cc
first_longer n fs more ys false true w few e =
    let same : take n (fs ++ more) ≡ ys = cc in
    rw (← same) (front_bytes n fs more (grind (arith, nat_tests, w)))
first_longer n fs more ys false false w few e = cc

through_longer : (ends : List ℕ → Bool) (fs more ys : List (List ℕ)) → through ends fs ≡ None
    → through ends (fs ++ more) ≡ Some ys → bytes_of fs ≤ bytes_of ys
through_longer ends [] more ys few e = omega arith
through_longer ends (f ∷ fs) more ys few e =
    by (ends f) (λ zs few_more w. through_longer ends fs more zs few_more w) few e
  where
    by : (b : Bool) → ((zs : List (List ℕ)) → through ends fs ≡ None
        → through ends (fs ++ more) ≡ Some zs → bytes_of fs ≤ bytes_of zs)
        → cond b (Some (f ∷ [])) (option_map (λ ts. f ∷ ts) (through ends fs)) ≡ None
        → cond b (Some (f ∷ [])) (option_map (λ ts. f ∷ ts) (through ends (fs ++ more))) ≡ Some ys
        → bytes_of (f ∷ fs) ≤ bytes_of ys
    by true shorter k m = cc
    by false shorter k m =
        let w = with_more f (through ends (fs ++ more)) ys m in
        let ih = shorter w.0 (more_none f (through ends fs) k) w.1 in
        rw w.2 (omega (arith, ih))

pub longer_taken : (x : Extent) (fs more ys : List (List ℕ)) → taken x fs ≡ None
    → taken x (fs ++ more) ≡ Some ys → bytes_of fs ≤ bytes_of ys
longer_taken (First n) fs more ys few e =
    first_longer n fs more ys (nat_le n (length fs)) (nat_le n (length (fs ++ more))) refl few e
longer_taken (Between opens ends) fs more ys few e = through_longer ends fs more ys few e

-- Where none are too few, some are taken.
first_some : (n : ℕ) (ts : List (List ℕ)) (b : Bool) → nat_le n (length ts) ≡ b
    → taken (First n) [] ≡ None → cond b (Some (take n ts)) None ≡ Some [] → ⊥
first_some zero ts b w none e = cc
first_some (suc n) [] true w none e = absurd (let none_left : suc n ≤ 0 = grind (arith, nat_tests, w) in
    omega (arith, none_left))
first_some (suc n) [] false w none e = cc
first_some (suc n) (t ∷ ts) true w none e = cc
first_some (suc n) (t ∷ ts) false w none e = cc

through_some : (ends : List ℕ → Bool) (ts : List (List ℕ)) → through ends ts ≡ Some [] → ⊥
through_some ends [] e = cc
through_some ends (t ∷ ts) e = by (ends t) e
  where
    by : (b : Bool) → cond b (Some (t ∷ [])) (option_map (λ more. t ∷ more) (through ends ts)) ≡ Some []
        → ⊥
    by true k = cc
    by false k = let w = with_more t (through ends ts) [] k in let other = w.2 in cc

some_taken : (x : Extent) (ts : List (List ℕ)) → taken x [] ≡ None → taken x ts ≡ Some [] → ⊥
some_taken (First n) ts none e = first_some n ts (nat_le n (length ts)) refl none e
some_taken (Between opens ends) ts none e = through_some ends ts e

pub taken_bytes : (x : Extent) (ts tokens : List (List ℕ)) → taken x [] ≡ None
    → taken x ts ≡ Some tokens → length (join_with_byte 32 tokens) + 1 ≡ bytes_of tokens
taken_bytes x ts [] none e = absurd (some_taken x ts none e)
taken_bytes x ts (t ∷ tokens) none e = joined tokens t

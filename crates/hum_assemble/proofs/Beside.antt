-- An interpretation of one source between null tokens of the others.
use Rattle.std.proofs.lemmas.Grind.{common_steps}
use Rattle.std.proofs.lemmas.Bool.Decides.{nat_tests}
use Rattle.std.proofs.Common.{◌≡◌, ◌∙◌, refl, sym, ap, ℕ, zero, suc, ◌+◌, Bool, true, false}
use Rattle.std.proofs.Common.{◌&&◌, ◌||◌, List, [], ◌∷◌, ◌++◌, length, arith}
use Rattle.std.proofs.Common.{map, replicate}
use Rattle.std.specs.Prelude.{◌==◌, None}
use Rattle.std.specs.List.{list_any, find}
use Rattle.std.proofs.lemmas.List.{length-map}
use lib.Chars.{codes}
use Rattle.hum_score.specs.Spelling.{is_empty}
use Rattle.hum_score.specs.declared.spines.Sign.{Sign}
use Rattle.hum_score.specs.declared.spines.Sign.TheVariants.{Plain}
use Rattle.hum_score.specs.Sign.{sign_of, is_join, is_exclusive, is_path_indicator}
use Rattle.hum_score.specs.Rules.{breaks, in_order, has_unnamed, has_bare}
use Rattle.hum_score.specs.Rules.{names_and_steers, has_lone_join, is_pair_or_none, has_mixed_join}
use Rattle.hum_score.specs.Spines.{Spines, exchanges, names_after}
use Rattle.hum_path.specs.Onward.{beginnings, onward, at_next, put_next, swapped}
use Rattle.hum_path.specs.Onward.{renamed_each}
use Rattle.hum_path.proofs.Obeyed.{obeys}
use Rattle.hum_path.proofs.Onwards.{names_onward, swapped_none, swapped_length}
use Rattle.hum_path.proofs.Onwards.{each_length}
use Rattle.hum_assemble.proofs.Padding.{plains, lone_left, lone_right, exchanges_left, exchanges_right}
use Rattle.hum_assemble.proofs.Padding.{exchanges_plains, mixed_left, any_plains}
use Rattle.hum_assemble.proofs.Shifting.{exchanges_shift, further}

abbrev pub stars : ℕ → List (List ℕ)
stars n = replicate n (codes "*")

-- null tokens ask nothing
stars_plain : (n : ℕ) → map sign_of (stars n) ≡ plains n
stars_plain zero = refl
stars_plain (suc n) = ap (λ (ss : List Sign). Plain ∷ ss) (stars_plain n)

-- An interpretation obeys the rules under some names but for the number of spines, and leads to
-- other names.
pub record Leads (names tokens result : List (List ℕ)) : Type 0 where
  pub wide : length names ≡ length tokens
  pub unnamed : has_unnamed names (map sign_of tokens) ≡ false
  pub bare : has_bare tokens ≡ false
  pub steers : names_and_steers (map sign_of tokens) ≡ false
  pub lone : has_lone_join false (map sign_of tokens) ≡ false
  pub pair : is_pair_or_none (exchanges 0 (map sign_of tokens)) ≡ true
  pub mixed : has_mixed_join names (map sign_of tokens) ≡ false
  pub leads : names_after (Spines names) tokens ≡ result

pub own_leads : (names tokens : List (List ℕ)) → find (breaks (Spines names) tokens) in_order ≡ None
    → Leads names tokens (names_after (Spines names) tokens)
own_leads = grind (arith, nat_tests, obeys)

signs_left : (n : ℕ) (tokens : List (List ℕ))
    → map sign_of (stars n ++ tokens) ≡ plains n ++ map sign_of tokens
signs_left zero tokens = refl
signs_left (suc n) tokens = ap (λ (ss : List Sign). Plain ∷ ss) (signs_left n tokens)

unnamed_left : (others names : List (List ℕ)) (signs : List Sign)
    → list_any is_empty others ≡ false
    → has_unnamed (others ++ names) (plains (length others) ++ signs) ≡ has_unnamed names signs
unnamed_left [] names signs h = refl
unnamed_left (x ∷ others) names signs h = grind (arith, nat_tests, unnamed_left others names signs)

bare_left : (n : ℕ) (tokens : List (List ℕ)) → has_bare (stars n ++ tokens) ≡ has_bare tokens
bare_left zero tokens = refl
bare_left (suc n) tokens = bare_left n tokens

any_left : (test : Sign → Bool) (n : ℕ) (signs : List Sign) → test Plain ≡ false
    → list_any test (plains n ++ signs) ≡ list_any test signs
any_left test zero signs h = refl
any_left test (suc n) signs h = rw h (any_left test n signs h)

each_left : (others names tokens : List (List ℕ))
    → renamed_each (others ++ names) (stars (length others) ++ tokens)
    ≡ others ++ renamed_each names tokens
each_left [] names tokens = refl
each_left (x ∷ others) names tokens = grind (arith, nat_tests, each_left others names tokens)

swapped_left : (others xs : List (List ℕ)) (signs : List Sign)
    → swapped (plains (length others) ++ signs) (others ++ xs) ≡ others ++ swapped signs xs
swapped_left [] xs signs = refl
swapped_left (x ∷ others) xs signs = grind (arith, nat_tests, swapped_left others xs signs)

onward_left : (f : List ℕ → List ℕ) (others xs : List (List ℕ)) (signs : List Sign)
    → onward f (beginnings false (plains (length others) ++ signs))
    (plains (length others) ++ signs) (others ++ xs)
    ≡ others ++ onward f (beginnings false signs) signs xs
onward_left f [] xs signs = refl
onward_left f (x ∷ others) xs signs = grind (arith, nat_tests, onward_left f others xs signs)

pair_by_length : (xs ys : List ℕ) → length xs ≡ length ys
    → is_pair_or_none xs ≡ is_pair_or_none ys
pair_by_length xs ys e = ap (λ (n : ℕ). n == 0 || n == 2) e

pair_left : (n : ℕ) (signs : List Sign)
    → is_pair_or_none (exchanges 0 (plains n ++ signs)) ≡ is_pair_or_none (exchanges 0 signs)
pair_left =
    grind (arith, nat_tests, plains, further, exchanges_left, exchanges_shift, pair_by_length, length-map)

wide_left : (others names tokens : List (List ℕ)) → length names ≡ length tokens
    → length (others ++ names) ≡ length (stars (length others) ++ tokens)
wide_left = grind (arith, common_steps)

pub left_of : (others names tokens result : List (List ℕ)) → list_any is_empty others ≡ false
    → Leads names tokens result
    → Leads (others ++ names) (stars (length others) ++ tokens) (others ++ result)
left_of others names tokens result named o =
    let n = length others in
    let signs = map sign_of tokens in
    let g = signs_left n tokens in
    let wide : length (others ++ names) ≡ length (stars n ++ tokens) = grind (arith, nat_tests, wide_left) in
    let pair : is_pair_or_none (exchanges 0 (map sign_of (stars n ++ tokens))) ≡ true =
    ap (λ (ss : List Sign). is_pair_or_none (exchanges 0 ss)) g ∙ (pair_left n signs ∙ o.pair) in
    record {
      wide = wide;
      unnamed = ap (has_unnamed (others ++ names)) g ∙ (unnamed_left others names signs named ∙ o.unnamed);
      bare = bare_left n tokens ∙ o.bare;
      steers = ap names_and_steers g ∙ rw (any_left is_exclusive n signs refl, any_left is_path_indicator n signs refl) o.steers;
      lone = ap (has_lone_join false) g ∙ (lone_left n signs ∙ o.lone);
      pair = pair;
      mixed = ap (has_mixed_join (others ++ names)) g ∙ (mixed_left others names signs ∙ o.mixed);
      leads =
          names_onward (others ++ names) (stars n ++ tokens) wide pair
          ∙ (ap (λ (ss : List Sign). onward (λ _. []) (beginnings false ss) ss
          (swapped ss (renamed_each (others ++ names) (stars n ++ tokens)))) g
          ∙ (ap (λ (xs : List (List ℕ)). onward (λ _. []) (beginnings false (plains n ++ signs))
          (plains n ++ signs) (swapped (plains n ++ signs) xs)) (each_left others names tokens)
          ∙ (ap (λ (xs : List (List ℕ)). onward (λ _. []) (beginnings false (plains n ++ signs))
          (plains n ++ signs) xs) (swapped_left others (renamed_each names tokens) signs)
          ∙ (onward_left (λ _. []) others (swapped signs (renamed_each names tokens)) signs
          ∙ ap (λ (xs : List (List ℕ)). others ++ xs)
          (sym (names_onward names tokens o.wide o.pair) ∙ o.leads)))));
    }

-- On the right.
signs_right : (n : ℕ) (tokens : List (List ℕ))
    → map sign_of (tokens ++ stars n) ≡ map sign_of tokens ++ plains n
signs_right n [] = stars_plain n
signs_right n (t ∷ tokens) = ap (λ (ss : List Sign). sign_of t ∷ ss) (signs_right n tokens)

plain_unnamed : (others : List (List ℕ)) → list_any is_empty others ≡ false
    → has_unnamed others (plains (length others)) ≡ false
plain_unnamed [] h = refl
plain_unnamed (x ∷ others) h = grind (arith, nat_tests, plain_unnamed others)

unnamed_right : (others names : List (List ℕ)) (signs : List Sign) → length names ≡ length signs
    → list_any is_empty others ≡ false → has_unnamed names signs ≡ false
    → has_unnamed (names ++ others) (signs ++ plains (length others)) ≡ false
unnamed_right others [] [] e h u = plain_unnamed others h
unnamed_right others [] (s ∷ signs) e h u = absurd (omega (arith, e))
unnamed_right others (n ∷ names) [] e h u = absurd (omega (arith, e))
unnamed_right others (n ∷ names) (s ∷ signs) e h u =
    grind (arith, nat_tests, unnamed_right others names signs (omega (arith, e)) h)

bare_stars : (n : ℕ) → has_bare (stars n) ≡ false
bare_stars zero = refl
bare_stars (suc n) = bare_stars n

bare_right : (n : ℕ) (tokens : List (List ℕ)) → has_bare (tokens ++ stars n) ≡ has_bare tokens
bare_right n [] = bare_stars n
bare_right n (t ∷ tokens) = rw (bare_right n tokens) refl

any_right : (test : Sign → Bool) (m : ℕ) (signs : List Sign) → test Plain ≡ false
    → list_any test (signs ++ plains m) ≡ list_any test signs
any_right test m [] h = any_plains test m h
any_right test m (s ∷ signs) h = rw (any_right test m signs h) refl

each_stars : (others : List (List ℕ)) → renamed_each others (stars (length others)) ≡ others
each_stars [] = refl
each_stars (x ∷ others) = ap (λ (xs : List (List ℕ)). x ∷ xs) (each_stars others)

each_right : (others names tokens : List (List ℕ)) → length names ≡ length tokens
    → renamed_each (names ++ others) (tokens ++ stars (length others))
    ≡ renamed_each names tokens ++ others
each_right others [] [] e = each_stars others
each_right others [] (t ∷ tokens) e = absurd (omega (arith, e))
each_right others (n ∷ names) [] e = absurd (omega (arith, e))
each_right others (n ∷ names) (t ∷ tokens) e =
    grind (arith, nat_tests, each_right others names tokens (omega (arith, e)))

next_plain : (other : List ℕ) (m : ℕ) (xs : List (List ℕ)) → at_next other (plains m) xs ≡ other
next_plain other (suc m) (x ∷ xs) = next_plain other m xs
next_plain other m xs = grind (arith, nat_tests)

next_right : (other : List ℕ) (others xs : List (List ℕ)) (m : ℕ) (signs : List Sign)
    → length signs ≡ length xs
    → at_next other (signs ++ plains m) (xs ++ others) ≡ at_next other signs xs
next_right other others [] m [] e = next_plain other m others
next_right other others [] m (s ∷ signs) e = absurd (omega (arith, e))
next_right other others (x ∷ xs) m [] e = absurd (omega (arith, e))
next_right other others (x ∷ xs) m (s ∷ signs) e =
    rw (next_right other others xs m signs (omega (arith, e))) refl

put_plain : (other : List ℕ) (m : ℕ) (xs : List (List ℕ)) → put_next other (plains m) xs ≡ xs
put_plain other (suc m) (x ∷ xs) = ap (λ (ys : List (List ℕ)). x ∷ ys) (put_plain other m xs)
put_plain other m xs = grind (arith, nat_tests)

put_right : (other : List ℕ) (others xs : List (List ℕ)) (m : ℕ) (signs : List Sign)
    → length signs ≡ length xs
    → put_next other (signs ++ plains m) (xs ++ others) ≡ put_next other signs xs ++ others
put_right other others [] m [] e = put_plain other m others
put_right other others [] m (s ∷ signs) e = absurd (omega (arith, e))
put_right other others (x ∷ xs) m [] e = absurd (omega (arith, e))
put_right other others (x ∷ xs) m (s ∷ signs) e =
    grind (arith, nat_tests, put_right other others xs m signs (omega (arith, e)))

swapped_right : (others xs : List (List ℕ)) (m : ℕ) (signs : List Sign) → length signs ≡ length xs
    → swapped (signs ++ plains m) (xs ++ others) ≡ swapped signs xs ++ others
swapped_right others [] m [] e = swapped_none 0 (plains m) others (exchanges_plains 0 m)
swapped_right others [] m (s ∷ signs) e = absurd (omega (arith, e))
swapped_right others (x ∷ xs) m [] e = absurd (omega (arith, e))
swapped_right others (x ∷ xs) m (s ∷ signs) e =
    grind (arith, nat_tests, swapped_right others xs m signs, next_right, put_right)

onward_plain : (f : List ℕ → List ℕ) (b : Bool) (others : List (List ℕ))
    → onward f (beginnings b (plains (length others))) (plains (length others)) others ≡ others
onward_plain f b [] = refl
onward_plain f b (x ∷ others) = ap (λ (xs : List (List ℕ)). x ∷ xs) (onward_plain f false others)

onward_right : (f : List ℕ → List ℕ) (b : Bool) (others xs : List (List ℕ)) (signs : List Sign)
    → length signs ≡ length xs
    → onward f (beginnings b (signs ++ plains (length others))) (signs ++ plains (length others))
    (xs ++ others)
    ≡ onward f (beginnings b signs) signs xs ++ others
onward_right f b others [] [] e = onward_plain f b others
onward_right f b others [] (s ∷ signs) e = absurd (omega (arith, e))
onward_right f b others (x ∷ xs) [] e = absurd (omega (arith, e))
onward_right f b others (x ∷ xs) (s ∷ signs) e =
    grind (arith, nat_tests, onward_right f (is_join s) others xs signs (omega (arith, e)))

and_none : (a b : Bool) → (a && (false && b)) ≡ false
and_none = grind (arith, nat_tests)

mixed_plain : (others : List (List ℕ)) → has_mixed_join others (plains (length others)) ≡ false
mixed_plain (x ∷ y ∷ others) = mixed_plain (y ∷ others)
mixed_plain others = grind (arith, nat_tests)

mixed_first : (n : List ℕ) (s : Sign) (others : List (List ℕ))
    → has_mixed_join (n ∷ others) (s ∷ plains (length others)) ≡ false
mixed_first = grind (arith, nat_tests, and_none, mixed_plain)

mixed_right : (others names : List (List ℕ)) (signs : List Sign) → length names ≡ length signs
    → has_mixed_join (names ++ others) (signs ++ plains (length others)) ≡ has_mixed_join names signs
mixed_right others [] [] e = mixed_plain others
mixed_right others [] (s ∷ signs) e = absurd (omega (arith, e))
mixed_right others (n ∷ names) [] e = absurd (omega (arith, e))
mixed_right others (n ∷ []) (s ∷ []) e = mixed_first n s others
mixed_right others (n ∷ []) (s ∷ r ∷ signs) e = absurd (omega (arith, e))
mixed_right others (n ∷ k ∷ names) (s ∷ []) e = absurd (omega (arith, e))
mixed_right others (n ∷ k ∷ names) (s ∷ r ∷ signs) e =
    grind (arith, nat_tests, mixed_right others (k ∷ names) (r ∷ signs) (omega (arith, e)))

wide_right : (others names tokens : List (List ℕ)) → length names ≡ length tokens
    → length (names ++ others) ≡ length (tokens ++ stars (length others))
wide_right = grind (arith, common_steps)

pub right_of : (others names tokens result : List (List ℕ)) → list_any is_empty others ≡ false
    → Leads names tokens result
    → Leads (names ++ others) (tokens ++ stars (length others)) (result ++ others)
right_of others names tokens result named o =
    let m = length others in
    let signs = map sign_of tokens in
    let g = signs_right m tokens in
    let size : length names ≡ length signs = o.wide ∙ sym (length-map tokens sign_of) in
    let wide : length (names ++ others) ≡ length (tokens ++ stars m) = grind (arith, nat_tests, wide_right) in
    let pair : is_pair_or_none (exchanges 0 (map sign_of (tokens ++ stars m))) ≡ true =
    grind (arith, nat_tests, exchanges_right) in
    let each : length signs ≡ length (renamed_each names tokens) =
    length-map tokens sign_of ∙ sym (each_length names tokens o.wide) in
    let swap : length signs ≡ length (swapped signs (renamed_each names tokens)) =
    each ∙ sym (swapped_length signs (renamed_each names tokens)) in
    record {
      wide = wide;
      unnamed = grind (arith, nat_tests, unnamed_right);
      bare = bare_right m tokens ∙ o.bare;
      steers = ap names_and_steers g ∙ rw (any_right is_exclusive m signs refl, any_right is_path_indicator m signs refl) o.steers;
      lone = ap (has_lone_join false) g ∙ (lone_right false signs m ∙ o.lone);
      pair = pair;
      mixed = ap (has_mixed_join (names ++ others)) g ∙ (mixed_right others names signs size ∙ o.mixed);
      leads =
          names_onward (names ++ others) (tokens ++ stars m) wide pair
          ∙ (ap (λ (ss : List Sign). onward (λ _. []) (beginnings false ss) ss
          (swapped ss (renamed_each (names ++ others) (tokens ++ stars m)))) g
          ∙ (ap (λ (xs : List (List ℕ)). onward (λ _. []) (beginnings false (signs ++ plains m))
          (signs ++ plains m) (swapped (signs ++ plains m) xs)) (each_right others names tokens o.wide)
          ∙ (ap (λ (xs : List (List ℕ)). onward (λ _. []) (beginnings false (signs ++ plains m))
          (signs ++ plains m) xs) (swapped_right others (renamed_each names tokens) m signs each)
          ∙ (onward_right (λ _. []) false others (swapped signs (renamed_each names tokens)) signs swap
          ∙ ap (λ (xs : List (List ℕ)). xs ++ others)
          (sym (names_onward names tokens o.wide o.pair) ∙ o.leads)))));
    }

-- Durations of one or two digits and at most one dot.
use Rattle.std.proofs.lemmas.Grind.{common_steps}
use Rattle.std.proofs.Common.{◌≡◌, ◌∙◌, ℕ, ◌+◌, ◌-◌, ◌*◌, ◌<◌, ◌≤◌, ◌==◌, List, [], ◌∷◌, ◌++◌, append_assoc, length, take, drop, get_or, refl, sym, ap, arith, subst}
use Rattle.std.proofs.Common.{Bool, true, false, Option, None, Some, Ok}
use Rattle.std.specs.Prelude.{IfSome, option_map, if◌then◌else◌, not, nat_lt, ◌&&◌}
use Rattle.std.proofs.lemmas.Bool.{and_parts}
use Rattle.std.proofs.lemmas.Bool.Decides.{nat_tests}
use Rattle.std.proofs.lemmas.List.{length-append}
use Rattle.std.proofs.lemmas.List.Folds.{list_any-append}
use Rattle.std.specs.List.{list_any}
use Rattle.hum_kern.specs.declared.Length.{Length}
use Rattle.hum_kern.specs.declared.runs.Class.TheVariants.{Digit, Dot}
use Rattle.hum_kern.specs.Classes.{is_in, is_divider, is_rest_sign}
use Rattle.hum_kern.specs.Runs.{run, front, behind}
use Rattle.hum_kern.specs.Value.{number, plain_value}
use Rattle.hum_kern.specs.Duration.{spelling, said, duration, is_empty}
use Rattle.hum_kern.specs.Subtokens.{subtokens, ends_plainly}
use Rattle.hum_kern.specs.Usual.{Leading, leading, short_dots, short_length, is_stop, short_rest, text_up_to, IsLastingText}
use Rattle.hum_kern.proofs.Leading.{leading_duration, digits_plain}
use Rattle.hum_kern.proofs.LeadingParts.{undivided, free, no_run, digit_is, value_is, leading_holds, leading_cut}

no_dots : (rest : List ℕ) → ends_plainly rest ≡ true → run (is_in Dot) rest ≡ 0
no_dots = grind (arith, nat_tests)

-- what is known of what stands behind the digits
record IsShortEnd (digits rest : List ℕ) (dots n : ℕ) : Type 0 where
  digitless : run (is_in Digit) rest ≡ 0
  undivided_is : list_any is_divider rest ≡ false
  said_is : plain_value digits ≡ Some (record { top = 1; bottom = n }) → said (spelling [] digits rest) ≡ Ok (short_length n (length digits) dots)

plain_end : (digits rest : List ℕ) (n : ℕ) → ends_plainly rest ≡ true → IsShortEnd digits rest 0 n
plain_end = grind (arith, nat_tests, free, no_run, undivided)

dotted_end : (digits rest : List ℕ) (n : ℕ) → ends_plainly rest ≡ true → IsShortEnd digits (46 ∷ rest) 1 n
dotted_end digits rest n ends = record {
  digitless = refl;
  undivided_is = undivided rest ends;
  said_is = λ is.
      let none = no_dots rest ends in
      let same : 0 + length digits + 0 + 1 ≡ length digits + 1 = omega arith in
      rw (none, is, same) refl;
}

short_end : (digits rest : List ℕ) (dots n : ℕ) → short_dots rest ≡ Some dots → IsShortEnd digits rest dots n
short_end digits [] dots n h = let is : 0 ≡ dots = cc in subst (λ d. IsShortEnd digits [] d n) is (plain_end digits [] n refl)
short_end digits (b ∷ rest) dots n h = go (b == 46) refl (ends_plainly rest) refl (ends_plainly (b ∷ rest)) refl h
  where
    go : (x : Bool) → (b == 46) ≡ x → (y : Bool) → ends_plainly rest ≡ y → (z : Bool) → ends_plainly (b ∷ rest) ≡ z
        → (if x then (if y then Some 1 else None) else if z then Some 0 else None) ≡ Some dots → IsShortEnd digits (b ∷ rest) dots n
    go true e true f z g w = grind (arith, nat_tests, dotted_end digits rest n f)
    go false e y f true g w = grind (arith, nat_tests, plain_end digits (b ∷ rest) n g)
    go x h y k z w e = grind (arith, nat_tests)

-- a token by its digits and by what stands behind
short_read : (token digits rest : List ℕ) (dots n : ℕ) → front (is_in Digit) token ≡ digits → behind (is_in Digit) token ≡ rest
    → is_empty digits ≡ false → plain_value digits ≡ Some (record { top = 1; bottom = n }) → IsShortEnd digits rest dots n
    → Ok (short_length n (length digits) dots) ≡ duration token
short_read = grind (arith, nat_tests, leading_duration)

one_short : (a n : ℕ) (rest : List ℕ) (dots : ℕ) → 48 < a → a ≤ 57 → n ≡ a - 48 → short_dots rest ≡ Some dots
    → Ok (short_length n 1 dots) ≡ duration (a ∷ rest)
one_short a n rest dots above below is ends =
    let same : number (a ∷ []) ≡ n = omega (arith, is) in
    let digit = digit_is a (omega arith) below in
    let end = short_end (a ∷ []) rest dots (number (a ∷ [])) ends in
    let none = end.digitless in
    subst (λ k. Ok (short_length k 1 dots) ≡ duration (a ∷ rest)) same
    (short_read (a ∷ rest) (a ∷ []) rest dots (number (a ∷ [])) (rw (digit, none) refl) (rw (digit, none) refl)
    refl (value_is a [] above (omega (arith, above)) (omega (arith, below))) end)

two_short : (a b n : ℕ) (rest : List ℕ) (dots : ℕ) → 48 < a → a ≤ 57 → 48 ≤ b → b ≤ 57 → n ≡ 10 * (a - 48) + (b - 48) → short_dots rest ≡ Some dots
    → Ok (short_length n 2 dots) ≡ duration (a ∷ b ∷ rest)
two_short a b n rest dots above below least most is ends =
    let same : number (a ∷ b ∷ []) ≡ n = omega (arith, is) in
    let first = digit_is a (omega arith) below in
    let second = digit_is b least most in
    let end = short_end (a ∷ b ∷ []) rest dots (number (a ∷ b ∷ [])) ends in
    let none = end.digitless in
    subst (λ k. Ok (short_length k 2 dots) ≡ duration (a ∷ b ∷ rest)) same
    (short_read (a ∷ b ∷ rest) (a ∷ b ∷ []) rest dots (number (a ∷ b ∷ [])) (rw (first, second, none) refl) (rw (first, second, none) refl)
    refl (value_is a (b ∷ []) above (omega (arith, above)) (omega (arith, below, most))) end)

-- a token by what it begins with
pub leading_short : (token : List ℕ) (found : Leading) (dots : ℕ) → leading token ≡ Some found → short_dots found.rest ≡ Some dots
    → Ok (short_length found.number found.digits dots) ≡ duration token
leading_short token found dots is =
    leading_holds (λ token found. short_dots found.rest ≡ Some dots → Ok (short_length found.number found.digits dots) ≡ duration token)
    (λ a rest above below ends. one_short a (a - 48) rest dots above below refl ends)
    (λ a b rest above below least most ends. two_short a b (10 * (a - 48) + (b - 48)) rest dots above below least most refl ends) token found is

pub leading_alone : (token : List ℕ) (found : Leading) → leading token ≡ Some found → list_any is_divider found.rest ≡ false
    → subtokens token ≡ token ∷ []
leading_alone token found is =
    leading_holds (λ token found. list_any is_divider found.rest ≡ false → subtokens token ≡ token ∷ [])
    (λ a rest above below none. (digits_plain (a ∷ []) rest (digit_is a (omega (arith, above)) below, tt) none).alone)
    (λ a b rest above below least most none.
    (digits_plain (a ∷ b ∷ []) rest (digit_is a (omega (arith, above)) below, (digit_is b least most, tt)) none).alone) token found is

-- what is answered
pub answered_short : (token : List ℕ) (found : Leading) (result : Option Length) → Some found ≡ leading token
    → result ≡ option_map (short_length found.number found.digits) (short_dots found.rest)
    → IfSome result (λ length. Ok length ≡ duration token)
answered_short token found result begins is = go (short_dots found.rest) refl result is
  where
    go : (o : Option ℕ) → short_dots found.rest ≡ o → (result : Option Length) → result ≡ option_map (short_length found.number found.digits) o
        → IfSome result (λ length. Ok length ≡ duration token)
    go = grind (arith, nat_tests, leading_short)

-- ---- a duration as it is written

stopless : (bytes : List ℕ) → list_any is_stop bytes ≡ false → (list_any is_divider bytes ≡ false) × (list_any is_rest_sign bytes ≡ false)
stopless [] none = (refl, refl)
stopless (b ∷ bytes) none = grind (arith, nat_tests, stopless bytes)

-- what is known of what stands behind digits and dots
record IsEnd (rest : List ℕ) (is_rest : Bool) : Type 0 where
  plainly : ends_plainly rest ≡ true
  sign : list_any is_rest_sign rest ≡ is_rest
  alone : is_rest ≡ true → rest ≡ 114 ∷ []

ended : (rest : List ℕ) (is_rest : Bool) → short_rest rest ≡ Some is_rest → IsEnd rest is_rest
ended [] is_rest h = grind (arith, nat_tests)
ended (b ∷ rest) is_rest h = go (is_rest_sign b && is_empty rest) refl (nat_lt 57 b && not (list_any is_stop (b ∷ rest))) refl h
  where
    nothing : (bytes : List ℕ) → is_empty bytes ≡ true → bytes ≡ []
    nothing = grind (arith, nat_tests)

    is_not : (x : Bool) → not x ≡ true → x ≡ false
    is_not = grind (arith, nat_tests)

    go : (t : Bool) → (is_rest_sign b && is_empty rest) ≡ t → (u : Bool) → (nat_lt 57 b && not (list_any is_stop (b ∷ rest))) ≡ u
        → (if t then Some true else if u then Some false else None) ≡ Some is_rest → IsEnd (b ∷ rest) is_rest
    go true w u v e = grind (arith, nat_tests, and_parts, nothing)
    go false w true v e =
        let is : false ≡ is_rest = cc in
        let both = and_parts (nat_lt 57 b) (not (list_any is_stop (b ∷ rest))) v in
        let none = stopless (b ∷ rest) (is_not (list_any is_stop (b ∷ rest)) both.1) in
        subst (IsEnd (b ∷ rest)) is (record { plainly = rw (both.0, none.0) refl; sign = none.1; alone = λ e. cc })
    go false w false v e = cc

-- a token by what stands in front of its end, and its end
lasting : (token : List ℕ) (found : Leading) (front rest : List ℕ) (dots : ℕ) (is_rest : Bool) → leading token ≡ Some found
    → short_dots found.rest ≡ Some dots → list_any is_divider found.rest ≡ false
    → token ≡ front ++ rest → length front ≡ found.digits + dots → list_any is_rest_sign front ≡ false → IsEnd rest is_rest
    → IsLastingText token (text_up_to token (found.digits + dots) is_rest)
lasting token found before rest dots is_rest begins ends none whole size restless end =
    record {
      found = short_length found.number found.digits dots;
      value = _;
      read = sym (leading_short token found dots begins ends);
      valued = refl;
      alone = leading_alone token found begins none;
      text_is = let same : found.digits + dots - 0 ≡ found.digits + dots = omega arith in rw same (go is_rest end.sign end.alone);
    }
  where
    go : (b : Bool) → list_any is_rest_sign rest ≡ b → (b ≡ true → rest ≡ 114 ∷ []) → text_up_to token (found.digits + dots) b
        ≡ take (found.digits + dots) token ++ (if list_any is_rest_sign token then 114 ∷ [] else [])
    go = grind (arith, common_steps)

-- what is answered
texts : (token : List ℕ) (found : Leading) (front rest : List ℕ) (dots : ℕ) (result : Option (List ℕ)) → Some found ≡ leading token
    → (ends_plainly rest ≡ true → (short_dots found.rest ≡ Some dots) × (list_any is_divider found.rest ≡ false))
    → token ≡ front ++ rest → length front ≡ found.digits + dots → list_any is_rest_sign front ≡ false
    → result ≡ option_map (text_up_to token (found.digits + dots)) (short_rest rest) → IfSome result (IsLastingText token)
texts token found before rest dots result begins ends whole size restless is = go (short_rest rest) refl result is
  where
    go : (o : Option Bool) → short_rest rest ≡ o → (result : Option (List ℕ)) → result ≡ option_map (text_up_to token (found.digits + dots)) o
        → IfSome result (IsLastingText token)
    go (Some is_rest) e (Some text) w =
        let same : text_up_to token (found.digits + dots) is_rest ≡ text = cc in
        let end = ended rest is_rest e in
        let both = ends end.plainly in
        subst (IsLastingText token) same (lasting token found before rest dots is_rest (sym begins) both.0 both.1 whole size restless end)
    go o h result k = grind (arith, nat_tests)

unmap : {A B : Type 0} (f : A → B) (r : Option A) (P : B → Type 0) → IfSome (option_map f r) P → IfSome r (λ x. P (f x))
unmap = grind (arith, nat_tests)

pub plain_text : {A : Type 0} (f : A → List ℕ) (token : List ℕ) (found : Leading) (result : Option A) → Some found ≡ leading token
    → option_map f result ≡ option_map (text_up_to token found.digits) (short_rest found.rest) → IfSome result (λ text. IsLastingText token (f text))
plain_text f token found result begins is =
    let cut = leading_cut token found (sym begins) in
    let size = cut.size in
    let none : found.digits + 0 ≡ found.digits = omega arith in
    unmap f result (IsLastingText token)
    (texts token found cut.front found.rest 0 (option_map f result) begins (λ plainly. (dotless found.rest plainly, undivided found.rest plainly))
    cut.whole (omega (arith, size)) cut.restless (rw none is))
  where
    dotless : (rest : List ℕ) → ends_plainly rest ≡ true → short_dots rest ≡ Some 0
    dotless = grind (arith, nat_tests)

pub dotted_text : {A : Type 0} (f : A → List ℕ) (token : List ℕ) (found : Leading) (rest : List ℕ) (result : Option A) → Some found ≡ leading token
    → 1 ≤ length found.rest → get_or found.rest 0 0 ≡ 46 → rest ≡ take (length found.rest - 1) (drop 1 found.rest)
    → option_map f result ≡ option_map (text_up_to token (found.digits + 1)) (short_rest rest) → IfSome result (λ text. IsLastingText token (f text))
dotted_text f token found rest result begins filled dot rest_is is =
    let cut = leading_cut token found (sym begins) in
    let size = cut.size in
    let behind = behind_dot found.rest filled dot rest_is in
    let longer = length-append cut.front (46 ∷ []) in
    unmap f result (IsLastingText token)
    (texts token found (cut.front ++ 46 ∷ []) rest 1 (option_map f result) begins
    (λ plainly. (rw (behind, plainly) refl, rw behind (undivided rest plainly)))
    (cut.whole ∙ ap (λ (xs : List ℕ). cut.front ++ xs) behind ∙ sym (append_assoc cut.front (46 ∷ []) rest)) (omega (arith, size, longer))
    (rw (list_any-append is_rest_sign cut.front (46 ∷ []), cut.restless) refl) is)
  where
    behind_dot : (all : List ℕ) → 1 ≤ length all → get_or all 0 0 ≡ 46 → rest ≡ take (length all - 1) (drop 1 all) → all ≡ 46 ∷ rest
    behind_dot = grind (arith, common_steps)

-- What is put together of what is carried on is what is carried on of what is put together.
use Rattle.std.proofs.lemmas.Grind.{common_steps}
use Rattle.std.proofs.Common.{◌≡◌, refl, ap, suc, ℕ, ◌+◌, ◌≤◌, Bool, true, false, not, ◌&&◌, List, [], ◌∷◌, ◌++◌, length, arith, cond}
use Rattle.std.proofs.lemmas.Bool.Decides.{nat_tests}
use Rattle.std.specs.List.{list_any, list_all}
use Rattle.std.proofs.lemmas.Bool.{or_parts, or_from, and_parts}
use Rattle.hum_score.specs.declared.spines.Sign.{Sign}
use Rattle.hum_score.specs.declared.spines.Sign.TheVariants.{End, Plain}
use Rattle.hum_score.specs.Sign.{sign_of, is_join, is_exchange, is_exclusive}
use Rattle.hum_score.specs.Spines.{exchanges}
use Rattle.hum_path.specs.Onward.{beginnings, onward_one, onward, at_next, put_next, swapped, renamed_each}
use Rattle.hum_score.proofs.Cases.{by_bool}
use Rattle.hum_path.proofs.Onwards.{begins_length}
use Rattle.hum_columns.proofs.ChosenLists.{chosen_length, chosen_fewer, chosen_none, chosen_each}
use Rattle.hum_columns.proofs.ChosenOnward.{others_onward}
use Rattle.hum_score.specs.Row.{chosen}
use Rattle.hum_columns.specs.Chosen.{others}
use Rattle.hum_cleave.specs.Columns.{together}
use Rattle.hum_columns.specs.Chosen.{is_torn}
use Rattle.hum_cleave.specs.Cleave.{is_end}

pub together_fewer : {X : Type 0} (one : X) (fs : List Bool) (xs : List X) → length (together one fs xs) ≤ length xs
together_fewer one (false ∷ fs) (x ∷ xs) = let ih = together_fewer one fs xs in omega (arith, ih)
together_fewer one fs xs = grind (arith, nat_tests, chosen_fewer)

pub together_length : {X Y : Type 0} (one : X) (other : Y) (fs : List Bool) (xs : List X) (ys : List Y) → length xs ≡ length ys
    → length (together one fs xs) ≡ length (together other fs ys)
together_length one other (false ∷ fs) (x ∷ xs) (y ∷ ys) h = ap suc (together_length one other fs xs ys (omega (arith, h)))
together_length one other fs xs ys h = grind (arith, nat_tests, chosen_length)

-- what none of a list is, none of what is put together is
pub together_lacks : {X : Type 0} (test : X → Bool) (one : X) (fs : List Bool) (xs : List X) → test one ≡ false → list_any test xs ≡ false
    → list_any test (together one fs xs) ≡ false
together_lacks test one (false ∷ fs) (x ∷ xs) o h =
    let both = or_parts (test x) (list_any test xs) h in
    or_from (test x) (list_any test (together one fs xs)) both.0 (together_lacks test one fs xs o both.1)
together_lacks test one fs xs h k = grind (arith, nat_tests, or_from, chosen_none, or_parts)

-- Names.
pub together_each : (name one : List ℕ) (fs : List Bool) (ns ts : List (List ℕ)) → length ns ≡ length ts → is_exclusive (sign_of one) ≡ false
    → renamed_each (together name fs ns) (together one fs ts) ≡ together name fs (renamed_each ns ts)
together_each name one (false ∷ fs) (n ∷ ns) (t ∷ ts) h o =
    ap (λ (xs : List (List ℕ)). cond (is_exclusive (sign_of t)) t n ∷ xs) (together_each name one fs ns ts (omega (arith, h)) o)
together_each name one fs ns ts h k = grind (arith, nat_tests, chosen_each)

-- Exchanges: none of them is cleaved.

abbrev pub no_exchange : List Bool → List Sign → Type 0
no_exchange flags signs = list_any is_exchange (chosen flags signs) ≡ false

others_at_next : {X : Type 0} (other : X) (fs : List Bool) (ss : List Sign) (xs : List X) → length ss ≡ length xs → length fs ≡ length ss → no_exchange fs ss
    → at_next other (others fs ss) (others fs xs) ≡ at_next other ss xs
others_at_next other (true ∷ fs) (s ∷ ss) (x ∷ xs) h e none =
    let both = or_parts (is_exchange s) (list_any is_exchange (chosen fs ss)) none in
    rw both.0 (others_at_next other fs ss xs (omega (arith, h)) (omega (arith, e)) both.1)
others_at_next {X} other (false ∷ fs) (s ∷ ss) (x ∷ xs) h e none =
    ap (λ (y : X). cond (is_exchange s) x y) (others_at_next other fs ss xs (omega (arith, h)) (omega (arith, e)) none)
others_at_next other fs ss xs h k w = grind (arith, common_steps)

others_put_next : {X : Type 0} (other : X) (fs : List Bool) (ss : List Sign) (xs : List X) → length ss ≡ length xs → length fs ≡ length ss → no_exchange fs ss
    → put_next other (others fs ss) (others fs xs) ≡ others fs (put_next other ss xs)
others_put_next other (true ∷ fs) (s ∷ ss) (x ∷ xs) h e none =
    let both = or_parts (is_exchange s) (list_any is_exchange (chosen fs ss)) none in
    rw both.0 (others_put_next other fs ss xs (omega (arith, h)) (omega (arith, e)) both.1)
others_put_next {X} other (false ∷ fs) (s ∷ ss) (x ∷ xs) h e none =
    grind (arith, nat_tests, others_put_next other fs ss xs (omega (arith, h)) (omega (arith, e)) none)
others_put_next other fs ss xs h k w = grind (arith, nat_tests)

others_swapped : {X : Type 0} (fs : List Bool) (ss : List Sign) (xs : List X) → length ss ≡ length xs → length fs ≡ length ss → no_exchange fs ss
    → swapped (others fs ss) (others fs xs) ≡ others fs (swapped ss xs)
others_swapped (true ∷ fs) (s ∷ ss) (x ∷ xs) h e none =
    let both = or_parts (is_exchange s) (list_any is_exchange (chosen fs ss)) none in
    rw both.0 (others_swapped fs ss xs (omega (arith, h)) (omega (arith, e)) both.1)
others_swapped {X} (false ∷ fs) (s ∷ ss) (x ∷ xs) h e none = by_bool (is_exchange s)
    (λ w. rw w (rw (
      others_at_next x fs ss xs (omega (arith, h)) (omega (arith, e)) none,
      others_put_next x fs ss xs (omega (arith, h)) (omega (arith, e)) none,
    ) refl))
    (λ w. rw w (ap (λ (ys : List X). x ∷ ys) (others_swapped fs ss xs (omega (arith, h)) (omega (arith, e)) none)))
others_swapped fs ss xs h k w = grind (arith, nat_tests)

module _ {X : Type 0} (sign : Sign) (one : X) (o : is_exchange sign ≡ false) where
  together_at_next : (other : X) (fs : List Bool) (ss : List Sign) (xs : List X) → length ss ≡ length xs → length fs ≡ length ss → no_exchange fs ss
      → at_next other (together sign fs ss) (together one fs xs) ≡ at_next other ss xs
  together_at_next other (f ∷ fs) [] [] h e none = refl
  together_at_next other [] [] xs h e none = refl
  together_at_next other (true ∷ fs) (s ∷ ss) (x ∷ xs) h e none =
      grind (arith, nat_tests, or_parts, others_at_next)
  together_at_next other (false ∷ fs) (s ∷ ss) (x ∷ xs) h e none =
      ap (λ (y : X). cond (is_exchange s) x y) (together_at_next other fs ss xs (omega (arith, h)) (omega (arith, e)) none)
  together_at_next other fs ss xs h k w = grind (arith, nat_tests)

  together_put_next : (other : X) (fs : List Bool) (ss : List Sign) (xs : List X) → length ss ≡ length xs → length fs ≡ length ss → no_exchange fs ss
      → put_next other (together sign fs ss) (together one fs xs) ≡ together one fs (put_next other ss xs)
  together_put_next other (false ∷ fs) (s ∷ ss) (x ∷ xs) h e none =
      grind (arith, nat_tests, together_put_next other fs ss xs (omega (arith, h)) (omega (arith, e)) none)
  together_put_next other fs ss xs h k w = grind (arith, nat_tests, or_parts, others_put_next)

  pub together_swapped : (fs : List Bool) (ss : List Sign) (xs : List X) → length ss ≡ length xs → length fs ≡ length ss → no_exchange fs ss
      → swapped (together sign fs ss) (together one fs xs) ≡ together one fs (swapped ss xs)
  together_swapped (false ∷ fs) (s ∷ ss) (x ∷ xs) h e none = by_bool (is_exchange s)
      (λ w. rw w (rw (
        together_at_next x fs ss xs (omega (arith, h)) (omega (arith, e)) none,
        together_put_next x fs ss xs (omega (arith, h)) (omega (arith, e)) none,
      ) refl))
      (λ w. rw w (ap (λ (ys : List X). x ∷ ys) (together_swapped fs ss xs (omega (arith, h)) (omega (arith, e)) none)))
  together_swapped fs ss xs h k w = grind (arith, nat_tests, or_parts, others_swapped)

-- and so the cleaved columns stay where they are
same_at_next : (fs : List Bool) (ss : List Sign) → length fs ≡ length ss → no_exchange fs ss → at_next false ss fs ≡ false
same_at_next (true ∷ fs) (s ∷ ss) e none =
    let both = or_parts (is_exchange s) (list_any is_exchange (chosen fs ss)) none in
    rw both.0 (same_at_next fs ss (omega (arith, e)) both.1)
same_at_next (false ∷ fs) (s ∷ ss) e none =
    grind (arith, nat_tests, same_at_next fs ss (omega (arith, e)) none)
same_at_next fs ss h k = grind (arith, common_steps)

same_put_next : (fs : List Bool) (ss : List Sign) → length fs ≡ length ss → no_exchange fs ss → put_next false ss fs ≡ fs
same_put_next (true ∷ fs) (s ∷ ss) e none =
    let both = or_parts (is_exchange s) (list_any is_exchange (chosen fs ss)) none in
    rw both.0 (ap (λ (gs : List Bool). true ∷ gs) (same_put_next fs ss (omega (arith, e)) both.1))
same_put_next (false ∷ fs) (s ∷ ss) e none =
    grind (arith, nat_tests, same_put_next fs ss (omega (arith, e)) none)
same_put_next fs ss h k = grind (arith, common_steps)

pub same_swapped : (fs : List Bool) (ss : List Sign) → length fs ≡ length ss → no_exchange fs ss → swapped ss fs ≡ fs
same_swapped (true ∷ fs) (s ∷ ss) e none =
    let both = or_parts (is_exchange s) (list_any is_exchange (chosen fs ss)) none in
    rw both.0 (ap (λ (gs : List Bool). true ∷ gs) (same_swapped fs ss (omega (arith, e)) both.1))
same_swapped (false ∷ fs) (s ∷ ss) e none =
    grind (arith, nat_tests, same_swapped fs ss (omega (arith, e)) none, same_at_next, same_put_next)
same_swapped fs ss h k = grind (arith, common_steps)

-- as many exchanges
others_exchanges : (j k : ℕ) (fs : List Bool) (ss : List Sign) → length fs ≡ length ss → no_exchange fs ss
    → length (exchanges j (others fs ss)) ≡ length (exchanges k ss)
others_exchanges j k (true ∷ fs) (s ∷ ss) e none =
    let both = or_parts (is_exchange s) (list_any is_exchange (chosen fs ss)) none in
    rw both.0 (others_exchanges j (k + 1) fs ss (omega (arith, e)) both.1)
others_exchanges j k (false ∷ fs) (s ∷ ss) e none =
    grind (arith, nat_tests, others_exchanges (j + 1) (k + 1) fs ss (omega (arith, e)) none)
others_exchanges j k fs ss h w = grind (arith, common_steps)

pub together_exchanges : (sign : Sign) (j k : ℕ) (fs : List Bool) (ss : List Sign) → length fs ≡ length ss → is_exchange sign ≡ false
    → no_exchange fs ss → length (exchanges j (together sign fs ss)) ≡ length (exchanges k ss)
together_exchanges sign j k [] [] e o none = refl
together_exchanges sign j k (true ∷ fs) (s ∷ ss) e o none =
    grind (arith, nat_tests, or_parts, others_exchanges)
together_exchanges sign j k (false ∷ fs) (s ∷ ss) e o none =
    grind (arith, nat_tests, together_exchanges sign (j + 1) (k + 1) fs ss (omega (arith, e)) o none)
together_exchanges sign j k fs ss h w e = grind (arith, nat_tests)

-- Splits, joins and ends.

-- the columns that come of all, where the cleaved ones go on
pub together_onward : {X : Type 0} (added : X → X) (one : X) (left : Sign) (fs : List Bool) (ss : List Sign) (xs : List X)
    → length fs ≡ length ss → length ss ≡ length xs → is_torn (false ∷ fs) (left ∷ ss) ≡ false → list_any is_end (chosen fs ss) ≡ false
    → onward added (together false fs (beginnings (is_join left) ss)) (together Plain fs ss) (together one fs xs)
    ≡ together one (onward (λ f. f) (beginnings (is_join left) ss) ss fs) (onward added (beginnings (is_join left) ss) ss xs)
together_onward added one left [] [] xs e b torn ends = refl
together_onward {X} added one left (false ∷ fs) (s ∷ ss) (x ∷ xs) e b torn ends =
    let later = (or_parts (is_join left && (is_join s && false)) (is_torn (false ∷ fs) (s ∷ ss)) torn).1 in
    cell (is_join s && not (is_join left)) s (onward (λ f. f) (beginnings (is_join s) ss) ss fs) (onward added (beginnings (is_join s) ss) ss xs)
    (together_onward added one s fs ss xs (omega (arith, e)) (omega (arith, b)) later ends)
  where
    cell : (g : Bool) (s' : Sign) (gs : List Bool) (ys : List X)
        → onward added (together false fs (beginnings (is_join s) ss)) (together Plain fs ss) (together one fs xs) ≡ together one gs ys
        → onward_one added g s' x ++ onward added (together false fs (beginnings (is_join s) ss)) (together Plain fs ss) (together one fs xs)
        ≡ together one (onward_one (λ f. f) g s' false ++ gs) (onward_one added g s' x ++ ys)
    cell = grind (arith, nat_tests)
together_onward {X} added one left (true ∷ fs) (s ∷ ss) (x ∷ xs) e b torn ends =
    grind (arith, nat_tests, or_parts, begins_length, others_onward)
together_onward added one left fs ss xs h k w e = grind (arith, nat_tests)

-- where they all end, none is left
others_ended : {X : Type 0} (added : X → X) (one : X) (fs begins : List Bool) (ss : List Sign) (xs : List X) → length begins ≡ length ss
    → length ss ≡ length xs → length fs ≡ length ss → list_all is_end (chosen fs ss) ≡ true
    → others (onward (λ f. f) begins ss fs) (onward added begins ss xs) ≡ together one (onward (λ f. f) begins ss fs) (onward added begins ss xs)
others_ended {X} added one (true ∷ fs) (g ∷ bs) (s ∷ ss) (x ∷ xs) a b e all =
    let both = and_parts (is_end s) (list_all is_end (chosen fs ss)) all in
    cell s both.0 (onward (λ f. f) bs ss fs) (onward added bs ss xs)
    (others_ended added one fs bs ss xs (omega (arith, a)) (omega (arith, b)) (omega (arith, e)) both.1)
  where
    cell : (s : Sign) → is_end s ≡ true → (gs : List Bool) (ys : List X) → others gs ys ≡ together one gs ys
        → others (onward_one (λ f. f) g s true ++ gs) (onward_one added g s x ++ ys)
        ≡ together one (onward_one (λ f. f) g s true ++ gs) (onward_one added g s x ++ ys)
    cell = grind (arith, nat_tests)
others_ended {X} added one (false ∷ fs) (g ∷ bs) (s ∷ ss) (x ∷ xs) a b e all =
    cell g s (onward (λ f. f) bs ss fs) (onward added bs ss xs)
    (others_ended added one fs bs ss xs (omega (arith, a)) (omega (arith, b)) (omega (arith, e)) all)
  where
    cell : (g : Bool) (s : Sign) (gs : List Bool) (ys : List X) → others gs ys ≡ together one gs ys
        → others (onward_one (λ f. f) g s false ++ gs) (onward_one added g s x ++ ys)
        ≡ together one (onward_one (λ f. f) g s false ++ gs) (onward_one added g s x ++ ys)
    cell = grind (arith, nat_tests)
others_ended added one fs begins ss xs h k w e = grind (arith, common_steps)

-- An end takes the one column away.
end_onward : {X : Type 0} (added : X → X) (one : X) (fs begins : List Bool) (ss : List Sign) (xs : List X) → length begins ≡ length ss
    → length ss ≡ length xs → length fs ≡ length ss
    → onward added (together false fs begins) (together End fs ss) (together one fs xs)
    ≡ onward added (others fs begins) (others fs ss) (others fs xs)
end_onward {X} added one (false ∷ fs) (g ∷ bs) (s ∷ ss) (x ∷ xs) a b e =
    ap (λ (zs : List X). onward_one added g s x ++ zs) (end_onward added one fs bs ss xs (omega (arith, a)) (omega (arith, b)) (omega (arith, e)))
end_onward added one fs begins ss xs h k w = grind (arith, nat_tests)

pub together_ended : {X : Type 0} (added : X → X) (one : X) (fs begins : List Bool) (ss : List Sign) (xs : List X) → length begins ≡ length ss
    → length ss ≡ length xs → length fs ≡ length ss → list_all is_end (chosen fs ss) ≡ true
    → onward added (together false fs begins) (together End fs ss) (together one fs xs)
    ≡ together one (onward (λ f. f) begins ss fs) (onward added begins ss xs)
together_ended = grind (arith, nat_tests, end_onward, others_onward, others_ended)

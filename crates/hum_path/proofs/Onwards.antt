-- Moves by place, and what they carry on.
use Rattle.std.proofs.lemmas.Grind.{common_steps}
use Rattle.std.proofs.Common.{◌≡◌, ◌∙◌, refl, sym, ap, ℕ, suc, ◌+◌, ◌<◌, ◌≤◌, ◌==◌, Bool, true, false}
use Rattle.std.proofs.Common.{List, [], ◌∷◌, map, length, get_or, cond, arith, ◌||◌}
use Rattle.std.specs.List.{AllByRecursion}
use Rattle.std.proofs.lemmas.Bool.Decides.{nat_tests}
use Rattle.std.proofs.lemmas.List.{length-map}
use Rattle.hum_score.specs.declared.spines.Sign.{Sign}
use Rattle.hum_score.specs.declared.spines.Sign.TheVariants.{Split, Join, Add, End}
use Rattle.hum_score.specs.declared.spines.Move.{Move}
use Rattle.hum_score.specs.Sign.{sign_of, is_join, is_exchange, is_exclusive}
use Rattle.hum_score.specs.Spines.{Spines, exchanges, partner, heirs_from, moves_under, renamed, names_after, source}
use Rattle.hum_score.specs.Rules.{is_pair_or_none}
use Rattle.hum_path.specs.Onward.{beginnings, onward, at_next, put_next, swapped, renamed_each, AgreesAt, Agrees, from_places}
use Rattle.hum_path.proofs.Within.{exchanged_below}
use Rattle.hum_score.proofs.Cases.{by_bool}

-- what a function makes of all moves
pub onward_by_moves : {X : Type 0} (f : Move → X) (added : X → X) (pair : List ℕ) (j : ℕ) (b : Bool) (signs : List Sign) (xs : List X)
    → Agrees f added pair j signs xs → map f (heirs_from pair j b signs) ≡ onward added (beginnings b signs) signs xs
onward_by_moves f added pair j b (Split ∷ ss) (x ∷ xs) h =
    let ih = onward_by_moves f added pair (j + 1) false ss xs h.1 in let a = h.0.0 in let c = h.0.1 in rw (a, c, ih) refl
onward_by_moves f added pair j true (Join ∷ ss) (x ∷ xs) h = onward_by_moves f added pair (j + 1) true ss xs h.1
onward_by_moves f added pair j false (Join ∷ ss) (x ∷ xs) h =
    let ih = onward_by_moves f added pair (j + 1) true ss xs h.1 in rw (h.0 _, ih) refl
onward_by_moves f added pair j b (Add ∷ ss) (x ∷ xs) h =
    let ih = onward_by_moves f added pair (j + 1) false ss xs h.1 in let a = h.0.0 in let c = h.0.1 in rw (a, c, ih) refl
onward_by_moves f added pair j b (End ∷ ss) (x ∷ xs) h = onward_by_moves f added pair (j + 1) false ss xs h.1
onward_by_moves f added pair j b (s ∷ ss) (x ∷ xs) h =
    let ih = onward_by_moves f added pair (j + 1) false ss xs h.1 in rw (h.0, ih) refl
onward_by_moves f added pair j b signs xs h = grind (arith, nat_tests)

pub begins_length : (b : Bool) (ss : List Sign) → length (beginnings b ss) ≡ length ss
begins_length b [] = refl
begins_length b (s ∷ ss) = ap suc (begins_length (is_join s) ss)

-- The xs that stand in a list from place j on.
abbrev pub StandFrom : {X : Type 0} → X → List X → ℕ → List X → Type 0
StandFrom none vs j xs = (k : ℕ) → get_or vs (j + k) none ≡ get_or xs k none

first_at : {X : Type 0} (none : X) (vs : List X) (j : ℕ) (x : X) (xs : List X) → StandFrom none vs j (x ∷ xs) → get_or vs j none ≡ x
first_at none vs j x xs at = ap (λ (k : ℕ). get_or vs k none) (omega arith) ∙ at 0

next_at : {X : Type 0} (none : X) (vs : List X) (j : ℕ) (x : X) (xs : List X) → StandFrom none vs j (x ∷ xs) → StandFrom none vs (j + 1) xs
next_at none vs j x xs at k = ap (λ (n : ℕ). get_or vs n none) (omega arith) ∙ at (suc k)

parts : {i j : ℕ} {is js : List ℕ} → i ∷ is ≡ j ∷ js → (i ≡ j) × (is ≡ js)
parts e = (cc, cc)

filled_is : {X : Type 0} {i : ℕ} {is : List ℕ} → i ∷ is ≡ [] → X
filled_is = grind (arith, nat_tests)

-- By place and by lists: without exchange,
from_own : {X : Type 0} (none : X) (pair : List ℕ) (vs : List X) (j : ℕ) (ss : List Sign) (xs : List X) → length ss ≡ length xs
    → exchanges j ss ≡ [] → StandFrom none vs j xs → from_places none pair vs j ss ≡ xs
from_own none pair vs j (s ∷ ss) (x ∷ xs) len e at =
    by_bool (is_exchange s)
    (λ w. filled_is (rw w at e))
    (λ w.
    let rest = from_own none pair vs (j + 1) ss xs (omega (arith, len)) (rw w at e) (next_at none vs j x xs at) in
    rw (w, first_at none vs j x xs at, rest) refl)
from_own none pair vs j ss xs h k w = grind (arith, common_steps)

-- behind the first one,
from_second : {X : Type 0} (none : X) (a b : ℕ) (vs : List X) (j : ℕ) (ss : List Sign) (xs : List X) → length ss ≡ length xs
    → exchanges j ss ≡ b ∷ [] → a < j → StandFrom none vs j xs
    → from_places none (a ∷ b ∷ []) vs j ss ≡ put_next (get_or vs a none) ss xs
from_second none a b vs j (s ∷ ss) (x ∷ xs) len e less at =
    by_bool (is_exchange s)
    (λ w.
    let last = (parts (rw w at e)).1 in
    let later : (j == a) ≡ false = grind (arith, nat_tests, less) in
    let rest = from_own none (a ∷ b ∷ []) vs (j + 1) ss xs (omega (arith, len)) last (next_at none vs j x xs at) in
    rw (w, later, rest) refl)
    (λ w.
    let more = next_at none vs j x xs at in
    let rest = from_second none a b vs (j + 1) ss xs (omega (arith, len)) (rw w at e) (omega (arith, less)) more in
    rw (w, first_at none vs j x xs at, rest) refl)
from_second none a b vs j ss xs h k w e = grind (arith, nat_tests)

-- the one that the first changes places with,
second_at : {X : Type 0} (none other : X) (b : ℕ) (vs : List X) (j : ℕ) (ss : List Sign) (xs : List X) → length ss ≡ length xs
    → exchanges j ss ≡ b ∷ [] → StandFrom none vs j xs → get_or vs b none ≡ at_next other ss xs
second_at none other b vs j (s ∷ ss) (x ∷ xs) len e at =
    by_bool (is_exchange s)
    (λ w. rw (w, ← (parts (rw w at e)).0) (first_at none vs j x xs at))
    (λ w. rw w (second_at none other b vs (j + 1) ss xs (omega (arith, len)) (rw w at e) (next_at none vs j x xs at)))
second_at none other b vs j ss xs h k w = grind (arith, nat_tests)

-- and with two.
from_both : {X : Type 0} (none : X) (a b : ℕ) (vs : List X) (j : ℕ) (ss : List Sign) (xs : List X) → length ss ≡ length xs
    → exchanges j ss ≡ a ∷ b ∷ [] → StandFrom none vs j xs → from_places none (a ∷ b ∷ []) vs j ss ≡ swapped ss xs
from_both none a b vs j (s ∷ ss) (x ∷ xs) len e at =
    by_bool (is_exchange s)
    (λ w.
    let both = parts (rw w at e) in
    let same = both.0 in
    let more = next_at none vs j x xs at in
    let now : (j == a) ≡ true = grind (arith, nat_tests, same) in
    let other = second_at none x b vs (j + 1) ss xs (omega (arith, len)) both.1 more in
    let rest = from_second none a b vs (j + 1) ss xs (omega (arith, len)) both.1 (omega (arith, same)) more in
    let first : get_or vs a none ≡ x = ap (λ (k : ℕ). get_or vs k none) (sym same) ∙ first_at none vs j x xs at in
    rw (w, now, other, rest, first) refl)
    (λ w.
    let rest = from_both none a b vs (j + 1) ss xs (omega (arith, len)) (rw w at e) (next_at none vs j x xs at) in
    rw (w, first_at none vs j x xs at, rest) refl)
from_both none a b vs j ss xs h k w = grind (arith, nat_tests)

-- nothing changes places
pub swapped_none : {X : Type 0} (j : ℕ) (ss : List Sign) (xs : List X) → exchanges j ss ≡ [] → swapped ss xs ≡ xs
swapped_none {X} j (s ∷ ss) (x ∷ xs) e = grind (arith, nat_tests, swapped_none (j + 1) ss xs)
swapped_none j ss xs h = grind (arith, nat_tests)

put_length : {X : Type 0} (y : X) (ss : List Sign) (xs : List X) → length (put_next y ss xs) ≡ length xs
put_length y (s ∷ ss) (x ∷ xs) = grind (arith, nat_tests, put_length y ss xs)
put_length y ss xs = grind (arith, nat_tests)

pub swapped_length : {X : Type 0} (ss : List Sign) (xs : List X) → length (swapped ss xs) ≡ length xs
swapped_length (s ∷ ss) (x ∷ xs) = grind (arith, nat_tests, swapped_length ss xs, put_length)
swapped_length ss xs = grind (arith, nat_tests)

too_many : (n : ℕ) → ((suc (suc (suc n)) == 0) || (suc (suc (suc n)) == 2)) ≡ true → ⊥
too_many n e = grind (arith, nat_tests, e)

-- By the places of two exchanged ones, or of none, the lists are as swapped.
pub places_swapped : {X : Type 0} (none : X) (ss : List Sign) (xs : List X) → length ss ≡ length xs
    → is_pair_or_none (exchanges 0 ss) ≡ true → from_places none (exchanges 0 ss) xs 0 ss ≡ swapped ss xs
places_swapped {X} none ss xs len two = by_pair (exchanges 0 ss) refl two
  where
    own : StandFrom none xs 0 xs
    own k = ap (λ (n : ℕ). get_or xs n none) (omega arith)

    by_pair : (pair : List ℕ) → exchanges 0 ss ≡ pair → is_pair_or_none pair ≡ true
        → from_places none pair xs 0 ss ≡ swapped ss xs
    by_pair [] e two = from_own none [] xs 0 ss xs len e own ∙ sym (swapped_none 0 ss xs e)
    by_pair (a ∷ []) e two = cc
    by_pair (a ∷ b ∷ []) e two = from_both none a b xs 0 ss xs len e own
    by_pair (a ∷ b ∷ c ∷ more) e two = absurd (too_many (length more) two)

-- an exclusive interpretation's own token, or the name that was
abbrev pub name_at : List (List ℕ) → List (List ℕ) → ℕ → List ℕ
name_at names tokens j = cond (is_exclusive (sign_of (get_or tokens j []))) (get_or tokens j []) (get_or names j [])

get_renamed : (names tokens : List (List ℕ)) (k : ℕ) → length names ≡ length tokens
    → get_or (renamed_each names tokens) k [] ≡ name_at names tokens k
get_renamed (n ∷ ns) (t ∷ ts) (suc k) len = get_renamed ns ts k (omega (arith, len))
get_renamed names tokens k h = grind (arith, common_steps)

names_agree : (pair : List ℕ) (names tokens : List (List ℕ)) (j : ℕ) (s : Sign) (vs : List (List ℕ)) → sign_of (get_or tokens j []) ≡ s
    → get_or vs j [] ≡ name_at names tokens j → get_or vs (partner pair j) [] ≡ name_at names tokens (partner pair j)
    → AgreesAt (renamed names tokens) (λ _. []) pair j s (get_or vs (cond (is_exchange s) (partner pair j) j) [])
names_agree = grind (arith, nat_tests)

all_names_agree : (pair : List ℕ) (names tokens : List (List ℕ)) (j : ℕ) (ts : List (List ℕ)) → length names ≡ length tokens
    → StandFrom [] tokens j ts
    → Agrees (renamed names tokens) (λ _. []) pair j (map sign_of ts) (from_places [] pair (renamed_each names tokens) j (map sign_of ts))
all_names_agree pair names tokens j [] len at = tt
all_names_agree pair names tokens j (t ∷ ts) len at =
    let here = get_renamed names tokens j len in
    let there = get_renamed names tokens (partner pair j) len in
    let sign : sign_of (get_or tokens j []) ≡ sign_of t = ap sign_of (first_at [] tokens j t ts at) in (
      names_agree pair names tokens j (sign_of t) (renamed_each names tokens) sign here there,
      all_names_agree pair names tokens (j + 1) ts len (next_at [] tokens j t ts at),
    )

pub each_length : (names tokens : List (List ℕ)) → length names ≡ length tokens → length (renamed_each names tokens) ≡ length tokens
each_length (n ∷ ns) (t ∷ ts) len = ap suc (each_length ns ts (omega (arith, len)))
each_length names tokens h = grind (arith, nat_tests)

-- the exclusive interpretations after a record, by its signs and each column's own
pub names_onward : (names tokens : List (List ℕ)) → length names ≡ length tokens → is_pair_or_none (exchanges 0 (map sign_of tokens)) ≡ true
    → names_after (Spines names) tokens
    ≡ onward (λ _. []) (beginnings false (map sign_of tokens)) (map sign_of tokens)
    (swapped (map sign_of tokens) (renamed_each names tokens))
names_onward names tokens len two =
    let signs = map sign_of tokens in
    let size : length signs ≡ length (renamed_each names tokens) = length-map tokens sign_of ∙ sym (each_length names tokens len) in
    let agree = all_names_agree (exchanges 0 signs) names tokens 0 tokens len (λ k. ap (λ (n : ℕ). get_or tokens n []) (omega arith)) in
    onward_by_moves (renamed names tokens) (λ _. []) (exchanges 0 signs) 0 false signs _ agree
    ∙ ap (λ (xs : List (List ℕ)). onward (λ _. []) (beginnings false signs) signs xs)
    (places_swapped [] signs (renamed_each names tokens) size two)

all_agree : {X : Type 0} (none : X) (f : Move → X) (pair : List ℕ) (xs : List X) (j : ℕ) (ss : List Sign)
    → ((m : Move) → source m < length xs → f m ≡ get_or xs (source m) none)
    → AllByRecursion (λ p. p < length xs) pair → j + length ss ≤ length xs → Agrees f (λ x. x) pair j ss (from_places none pair xs j ss)
all_agree none f pair xs j [] at below within = tt
all_agree none f pair xs j (s ∷ ss) at below within =
    grind (arith, nat_tests, all_agree none f pair xs (j + 1) ss)

-- what stands at each move's source, carried on
pub sources_onward : {X : Type 0} (none : X) (f : Move → X) (xs : List X) (ss : List Sign)
    → ((m : Move) → source m < length xs → f m ≡ get_or xs (source m) none)
    → length ss ≡ length xs → is_pair_or_none (exchanges 0 ss) ≡ true
    → map f (moves_under ss) ≡ onward (λ x. x) (beginnings false ss) ss (swapped ss xs)
sources_onward {X} none f xs ss at len two =
    let below = exchanged_below (length xs) 0 ss (omega (arith, len)) in
    let agree = all_agree none f (exchanges 0 ss) xs 0 ss at below (omega (arith, len)) in
    onward_by_moves f (λ x. x) (exchanges 0 ss) 0 false ss _ agree
    ∙ ap (λ (ys : List X). onward (λ x. x) (beginnings false ss) ss ys) (places_swapped none ss xs len two)

-- Plain data, found by the bits of a block.
use Rattle.std.proofs.lemmas.Bool.Decides.{nat_tests}
use Rattle.std.proofs.Common.{◌≡◌, ◌∙◌, refl, sym, ap, ℕ, suc, ◌+◌, ◌*◌, ◌-◌, ◌≤◌, ◌<◌, ◌^◌, Bool, true, false, not, ◌||◌, ◌&&◌}
use Rattle.std.proofs.Common.{rules, List, [], ◌∷◌, ◌++◌, map, length, drop, get_or, cond, Ok, arith}
use Rattle.std.specs.Prelude.{◌==◌, ◌≢◌, min}
use Rattle.std.specs.Int.{bit_at}
use Rattle.std.specs.Int.Bits.{bit_and}
use Rattle.std.specs.List.{list_any, onto_first}
use Rattle.std.specs.Simd.Lanes.{mask_l}
use Rattle.std.proofs.lemmas.Simd.{bit_mask_l}
use Rattle.std.proofs.lemmas.Nat.Bits.{bit_at_and, bit_at-zero}
use Rattle.hum_score.specs.declared.records.SpinedKind.TheVariants.{Values}
use Rattle.hum_score.specs.Spelling.{is_empty, same_kind, kind_of_token, kind_of_first, kind_of_tokens, parts}
use Rattle.hum_record.specs.Cutting.{bits_of}
use mir.Val.{bool_byte}
use Rattle.std.proofs.lemmas.Bool.{eqb-true}
use lib.Pow.{pow_mono}
use Rattle.hum_record.proofs.Places.{bits_below}
use Rattle.hum_record.specs.Plain.{is_mark, has_mark, head_after}

-- One text behind another.
pub mark_append : (head : Bool) (xs ys : List ℕ) → has_mark head (xs ++ ys) ≡ (has_mark head xs || has_mark (head_after head xs) ys)
mark_append head [] ys = refl
mark_append head (x ∷ xs) ys = grind (arith, nat_tests, mark_append (x == 9) xs ys)

pub head_append : (head : Bool) (xs ys : List ℕ) → head_after head (xs ++ ys) ≡ head_after (head_after head xs) ys
head_append head [] ys = refl
head_append head (x ∷ xs) ys = head_append (x == 9) xs ys

-- two numbers without a bit in common
both_set : (xs ys : List Bool) (i : ℕ) → bit_and (mask_l xs) (mask_l ys) ≡ 0 → get_or xs i false ≡ true → get_or ys i false ≡ true → ⊥
both_set xs ys i none a b =
    let zero_bit : bit_at (bit_and (mask_l xs) (mask_l ys)) i ≡ 0 = ap (λ (n : ℕ). bit_at n i) none ∙ bit_at-zero i in
    let one_a : bit_at (mask_l xs) i ≡ 1 = bit_mask_l xs i ∙ ap (λ t. cond t 1 0) a in
    let one_b : bit_at (mask_l ys) i ≡ 1 = bit_mask_l ys i ∙ ap (λ t. cond t 1 0) b in
    let one : min (bit_at (mask_l xs) i) (bit_at (mask_l ys) i) ≡ 0 = sym (bit_at_and (mask_l xs) (mask_l ys) i) ∙ zero_bit in
    let two : min 1 1 ≡ 0 = rw (one_a, one_b) at one in
    omega (arith, two)

-- No token with a mark begins where no bit of a head is that of a mark.
map_or : (p q : ℕ → Bool) (xs : List ℕ) (i : ℕ) → get_or (map (λ x. p x || q x) xs) i false ≡ (get_or (map p xs) i false || get_or (map q xs) i false)
map_or p q (x ∷ xs) (suc i) = map_or p q xs i
map_or p q xs i = grind (arith, nat_tests)

free_heads : (head : Bool) (xs : List ℕ) → ((i : ℕ) → get_or (head ∷ map (λ x. x == 9) xs) i false ≡ true →
    get_or (map is_mark xs) i false ≡ false) → has_mark head xs ≡ false
free_heads head [] free = refl
free_heads head (x ∷ xs) free = first head (is_mark x) (has_mark (x == 9) xs) (free 0) (free_heads (x == 9) xs (λ i. free (suc i)))
  where
    first : (h m b : Bool) → (h ≡ true → m ≡ false) → b ≡ false → ((h && m) || b) ≡ false
    first = grind (arith, nat_tests)

not_true : (b : Bool) → (b ≡ true → ⊥) → b ≡ false
not_true = grind (arith, nat_tests)

pub no_marks : (head : Bool) (xs : List ℕ) → bit_and (mask_l (head ∷ map (λ x. x == 9) xs)) (bits_of 9 xs) ≡ 0 →
    bit_and (mask_l (head ∷ map (λ x. x == 9) xs)) (bits_of 33 xs) ≡ 0
    → bit_and (mask_l (head ∷ map (λ x. x == 9) xs)) (bits_of 42 xs) ≡ 0 → has_mark head xs ≡ false
no_marks head xs tabs bangs stars = free_heads head xs (λ i at.
    let heads = head ∷ map (λ x. x == 9) xs in
    let tab : get_or (map (λ x. x == 9) xs) i false ≡ false = not_true _ (λ yes. both_set heads (map (λ x. x == 9) xs) i tabs at yes) in
    let bang : get_or (map (λ x. x == 33) xs) i false ≡ false = not_true _ (λ yes. both_set heads (map (λ x. x == 33) xs) i bangs at yes) in
    let star : get_or (map (λ x. x == 42) xs) i false ≡ false = not_true _ (λ yes. both_set heads (map (λ x. x == 42) xs) i stars at yes) in
    map_or (λ x. x == 9) (λ x. x == 33 || x == 42) xs i
    ∙ rw (tab, map_or (λ x. x == 33) (λ x. x == 42) xs i, bang, star) refl)

-- a token that is none of data
abbrev pub is_odd : List ℕ → Bool
is_odd [] = true
is_odd (x ∷ t) = not (same_kind (kind_of_token (x ∷ t)) Values)

behind : (x : ℕ) (ts : List (List ℕ)) → ts ≢ [] → drop 1 (onto_first x ts) ≡ drop 1 ts
behind = grind (arith, nat_tests)

-- The tokens of a text are those that begin in it, the first where one begins with the text.
abbrev Begin : List ℕ → Type 0
Begin xs = (list_any is_odd (parts xs) ≡ (has_mark true xs || head_after true xs))
    × (list_any is_odd (drop 1 (parts xs)) ≡ (has_mark false xs || head_after false xs))

one_more : (x : ℕ) (xs : List ℕ) → Begin xs → (b : Bool) → (x == 9) ≡ b → Begin (x ∷ xs)
one_more = grind (arith, nat_tests)

odd_tokens : (xs : List ℕ) → Begin xs
odd_tokens [] = (refl, refl)
odd_tokens (x ∷ xs) = one_more x xs (odd_tokens xs) (x == 9) refl

-- Without a mark all tokens are data.
filled : (x : ℕ) (t : List ℕ) → is_empty (x ∷ t) ≡ false
filled x t = search rules

pub or_left : (a b : Bool) → (a || b) ≡ false → a ≡ false
or_left = grind (arith, nat_tests)

pub or_right : (a b : Bool) → (a || b) ≡ false → b ≡ false
or_right = grind (arith, nat_tests)

none_empty : (ts : List (List ℕ)) → list_any is_odd ts ≡ false → list_any is_empty ts ≡ false
none_empty ((x ∷ t) ∷ ts) h = rw (filled x t, none_empty ts (or_right (is_odd (x ∷ t)) (list_any is_odd ts) h)) refl
none_empty ts h = grind (arith, nat_tests)

none_other : (ts : List (List ℕ)) → list_any is_odd ts ≡ false → list_any (λ token. not (same_kind (kind_of_token token) Values)) ts ≡ false
none_other ((x ∷ t) ∷ ts) h =
    rw (or_left (is_odd (x ∷ t)) (list_any is_odd ts) h, none_other ts (or_right (is_odd (x ∷ t)) (list_any is_odd ts) h)) refl
none_other ts h = grind (arith, nat_tests)

first_data : (ts : List (List ℕ)) → list_any is_odd ts ≡ false → kind_of_first ts ≡ Values
first_data = grind (arith, nat_tests)

all_data : (ts : List (List ℕ)) → list_any is_odd ts ≡ false → kind_of_tokens ts ≡ Ok Values
all_data ts plain = grind (arith, nat_tests, first_data ts plain, none_other ts plain, none_empty ts plain)

pub plain_data : (text : List ℕ) → has_mark true text ≡ false → head_after true text ≡ false → kind_of_tokens (parts text) ≡ Ok Values
plain_data text marks end = all_data (parts text) ((odd_tokens text).0 ∙ rw (marks, end) refl)

-- What was found of marks in the blocks so far: where there is none in them and in the rest, there is none.
pub record Marked (text rest : List ℕ) (has : Bool) (head : Bool) : Type 0 where
  pub none : has ≡ false → has_mark head rest ≡ false → has_mark true text ≡ false
  pub ends : head_after head rest ≡ head_after true text

pub unmarked : (text : List ℕ) → Marked text text false true
unmarked text = record { none = λ _ h. h; ends = refl }

-- a token begins behind a text that ends in a tab
head_last : (head : Bool) (x : ℕ) (xs : List ℕ) → head_after head (x ∷ xs) ≡ (get_or (x ∷ xs) (length xs) 0 == 9)
head_last head x [] = refl
head_last head x (y ∷ ys) = head_last (x == 9) y ys

pub next_marks : (text rest block tail : List ℕ) (has may head next : Bool) → Marked text rest has head →
    rest ≡ block ++ tail → (may ≡ false → has_mark head block ≡ false)
    → next ≡ head_after head block → Marked text tail (has || may) next
next_marks = grind (arith, nat_tests, or_left, mark_append, or_right, head_append)

-- The bits of a block and one more fit a word.
pub bits_few : (byte : ℕ) (xs : List ℕ) → length xs ≤ 32 → bits_of byte xs < 4294967296
bits_few byte xs few =
    let bound = bits_below byte xs in
    let size : 2 ^ length xs ≤ 2 ^ 32 = pow_mono few in
    omega (arith, bound, size)

bit_of : (b : Bool) → bool_byte b ≡ cond b 1 0
bit_of = grind (arith, nat_tests)

not_false : (b : Bool) → not b ≡ false → b ≡ true
not_false = grind (arith, nat_tests)

pub none_set : (n : ℕ) → not (n == 0) ≡ false → n ≡ 0
none_set n h = eqb-true n 0 (not_false (n == 0) h)

pub byte_few : (b : Bool) → bool_byte b ≤ 1
byte_few = grind (arith, nat_tests)

pub none_found : (head : Bool) (heads tabs bangs stars : ℕ) (xs : List ℕ) → heads ≡ bool_byte head + 2 * tabs →
    tabs ≡ bits_of 9 xs → bangs ≡ bits_of 33 xs → stars ≡ bits_of 42 xs
    → ((not (bit_and heads tabs == 0) || not (bit_and heads bangs == 0)) || not (bit_and heads stars == 0)) ≡ false → has_mark head xs ≡ false
none_found = grind (arith, nat_tests, bit_of, or_left, no_marks, none_set, or_right)

-- whether a block ends in a tab
pub head_end : (head : Bool) (xs : List ℕ) → 0 < length xs → (get_or xs (length xs - 1) 0 == 9) ≡ head_after head xs
head_end head [] some = absurd (omega (arith, some))
head_end head (x ∷ xs) some = ap (λ n. get_or (x ∷ xs) n 0 == 9) (omega arith) ∙ sym (head_last head x xs)

-- all of a text was searched
pub plain_text : (text rest : List ℕ) (has head : Bool) → Marked text rest has head → rest ≡ [] → has ≡ false →
    head ≡ false → kind_of_tokens (parts text) ≡ Ok Values
plain_text = grind (arith, nat_tests, plain_data)

pub some_bytes : (xs : List ℕ) → (length xs == 0) ≡ false → 0 < length xs
some_bytes = grind (arith, nat_tests)

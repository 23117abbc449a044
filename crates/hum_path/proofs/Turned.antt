-- Cells above and cells below.
use Rattle.std.proofs.lemmas.Grind.{common_steps}
use Rattle.std.proofs.Common.{◌≡◌, ◌∙◌, refl, sym, ap, ℕ, zero, suc, ◌+◌, ◌<◌, ◌≤◌, ◌⊎◌, inl, inr, arith}
use Rattle.std.proofs.Common.{◌==◌, Bool, true, false, ◌&&◌, List, [], ◌∷◌, ◌++◌, map, length, cond}
use Rattle.std.proofs.Common.{get_or, reverse, Option, Some, None}
use Rattle.std.specs.Prelude.{nat_le, nat_lt, slice_get, slice_index_or}
use Rattle.std.proofs.lemmas.Bool.{and_parts}
use Rattle.std.proofs.lemmas.Bool.Decides.{nat_tests}
use Rattle.std.proofs.lemmas.List.{get_or-map}
use Rattle.std.proofs.lemmas.List.Sums.{position_or_len_is, passes_at_first}
use Rattle.std.proofs.lemmas.Option.{slice_get_within, get_or_from_slice_get, slice_get-get_or}
use Rattle.hum_score.specs.declared.records.SpinedKind.TheVariants.{Interpretation}
use Rattle.hum_score.specs.Row.{Row, Comment, Spined}
use Rattle.hum_score.specs.declared.spines.Sign.{Sign}
use Rattle.hum_score.specs.declared.spines.Sign.TheVariants.{Split, Join, Exchange, Add, End, Exclusive, Plain}
use Rattle.hum_score.specs.declared.spines.Move.{Move}
use Rattle.hum_score.specs.declared.spines.Move.TheVariants.{Same, Left, Right, Join as Joined, Added}
use Rattle.hum_score.specs.Spines.{Path, exchanges, partner, joins_at_front, heirs_from, same_upto, moves_at, moves_under}
use Rattle.hum_score.specs.Rules.{fault_of, is_pair_or_none}
use Rattle.hum_score.specs.Score.{IsOpen, path_after, passed}
use Rattle.hum_path.specs.Chains.{chain_of, columns, longer, history, goes_on, future}
use Rattle.hum_path.specs.Turned.{above_of, place_above, place_below, IsJoinedFromRight, StepsTurn, ColumnsTurn}
use Rattle.hum_score.proofs.Cases.{by_bool}
use Rattle.hum_path.proofs.Obeyed.{obeys}
use Rattle.hum_path.proofs.Widths.{text_width, moves_width, columns_width}

-- the move at a place; behind the last none goes on
abbrev at : List Move → ℕ → Move
at found i = get_or found i (Added 0)

-- at most one of them goes on from place j
abbrev None_goes : ℕ → List Move → Type 0
None_goes j found = (i : ℕ) → goes_on j (at found i) ≡ true → ⊥

abbrev One_goes : ℕ → List Move → Type 0
One_goes j found = (i k : ℕ) → goes_on j (at found i) ≡ true → goes_on j (at found k) ≡ true → i ≡ k

skip : (j : ℕ) (m : Move) (found : List Move) → (goes_on j m ≡ true → ⊥) → One_goes j found → One_goes j (m ∷ found)
skip = grind (arith, nat_tests)

alone : (j : ℕ) (m : Move) (found : List Move) → None_goes j found → One_goes j (m ∷ found)
alone = grind (arith, nat_tests)

either : (j : ℕ) (m : Move) (found : List Move) → (goes_on j m ≡ true → None_goes j found) → One_goes j found → One_goes j (m ∷ found)
either j m found h one = by_bool (goes_on j m) (λ w. alone j m found (h w)) (λ w. skip j m found (λ e. cc) one)

same_place : (p j : ℕ) → (p == j) ≡ true → p ≡ j
same_place p j h = grind (arith, nat_tests, h)

within : (p j n : ℕ) → (nat_le p j && nat_le j n) ≡ true → (p ≤ j) × (j ≤ n)
within p j n h = let a = and_parts (nat_le p j) (nat_le j n) h in (grind (arith, nat_tests, a.0), grind (arith, nat_tests, a.1))

-- Where exchanged places have changed, each place has its turn.
module _ (turn : ℕ → ℕ) (pair : List ℕ) where
  abbrev FitsOne : ℕ → Sign → Type 0
  FitsOne p Exchange = turn (partner pair p) ≡ p
  FitsOne p Split = turn p ≡ p
  FitsOne p Join = turn p ≡ p
  FitsOne p Add = turn p ≡ p
  FitsOne p End = turn p ≡ p
  FitsOne p Exclusive = turn p ≡ p
  FitsOne p Plain = turn p ≡ p

  abbrev Fits : ℕ → List Sign → Type 0
  Fits p [] = Unit {0}
  Fits p (s ∷ ss) = FitsOne p s × Fits (p + 1) ss

  -- a place among joins in a row has its own turn
  joined_turn : (p k : ℕ) (signs : List Sign) → Fits p signs → p ≤ k → k < p + joins_at_front signs → turn k ≡ k
  joined_turn p k (Join ∷ ss) f h l = grind (arith, nat_tests, joined_turn (p + 1) k ss f.1)
  joined_turn p k signs h w e = grind (arith, nat_tests)

  module _ (j : ℕ) where
    -- the turn of place j comes at p or later, and not within joins that go on
    record Later (p : ℕ) (after_join : Bool) (signs : List Sign) : Type 0 where
      from : p ≤ turn j
      out : after_join ≡ true → p ≤ j → j < p + joins_at_front signs → ⊥

    own : (p : ℕ) (after_join : Bool) (signs : List Sign) → turn j ≡ p → joins_at_front signs ≡ 0 → Later p after_join signs
    own p b signs t n = record { from = omega (arith, t); out = λ e h l. omega (arith, h, l, n) }

    beyond : (p : ℕ) (b : Bool) (after_join : Bool) (signs rest : List Sign) → Later (p + 1) b rest → joins_at_front signs ≡ 0
        → Later p after_join signs
    beyond p b after_join signs rest later n = record { from = let f = later.from in omega (arith, f); out = λ e h l. omega (arith, h, l, n) }

    turn_of : (p : ℕ) → turn p ≡ p → (p == j) ≡ true → turn j ≡ p
    turn_of p f h = let e : p ≡ j = same_place p j h in rw (sym e) f

    turn_of_other : (p : ℕ) → turn (partner pair p) ≡ p → (partner pair p == j) ≡ true → turn j ≡ p
    turn_of_other p f h = let e : partner pair p ≡ j = same_place (partner pair p) j h in rw (sym e) f

    later_on : (p : ℕ) (after_join : Bool) (signs : List Sign) → Fits p signs
        → (i : ℕ) → goes_on j (at (heirs_from pair p after_join signs) i) ≡ true → Later p after_join signs
    later_on p b [] f i h = cc
    later_on p b (Split ∷ ss) f zero h = own p b (Split ∷ ss) (turn_of p f.0 h) refl
    later_on p b (Split ∷ ss) f (suc zero) h = cc
    later_on p b (Split ∷ ss) f (suc (suc i)) h = beyond p false b (Split ∷ ss) ss (later_on (p + 1) false ss f.1 i h) refl
    later_on p b (Add ∷ ss) f zero h = own p b (Add ∷ ss) (turn_of p f.0 h) refl
    later_on p b (Add ∷ ss) f (suc zero) h = cc
    later_on p b (Add ∷ ss) f (suc (suc i)) h = beyond p false b (Add ∷ ss) ss (later_on (p + 1) false ss f.1 i h) refl
    later_on p b (Exchange ∷ ss) f zero h = own p b (Exchange ∷ ss) (turn_of_other p f.0 h) refl
    later_on p b (Exchange ∷ ss) f (suc i) h = beyond p false b (Exchange ∷ ss) ss (later_on (p + 1) false ss f.1 i h) refl
    later_on p b (End ∷ ss) f i h = beyond p false b (End ∷ ss) ss (later_on (p + 1) false ss f.1 i h) refl
    later_on p true (Join ∷ ss) f i h = grind (arith, nat_tests, later_on (p + 1) true ss f.1 i h)
    later_on p false (Join ∷ ss) f zero h = grind (arith, nat_tests, within, joined_turn)
    later_on p false (Join ∷ ss) f (suc i) h = grind (arith, nat_tests, later_on (p + 1) true ss f.1 i h)
    later_on p b (s ∷ ss) f zero h = own p b (s ∷ ss) (turn_of p f.0 h) refl
    later_on p b (s ∷ ss) f (suc i) h = beyond p false b (s ∷ ss) ss (later_on (p + 1) false ss f.1 i h) refl

    -- of those that come after place p's turn, none goes on from it
    no_more : (p : ℕ) (b : Bool) (ss : List Sign) → Fits (p + 1) ss → turn j ≡ p → None_goes j (heirs_from pair (p + 1) b ss)
    no_more p b ss f t i h = let later = later_on (p + 1) b ss f i h in let far = later.from in omega (arith, far, t)

    one_on : (p : ℕ) (after_join : Bool) (signs : List Sign) → Fits p signs → One_goes j (heirs_from pair p after_join signs)
    one_on p b [] f = λ i k x y. cc
    one_on p b (Split ∷ ss) f =
        grind (arith, nat_tests, one_on (p + 1) false ss f.1, no_more, either, turn_of, skip)
    one_on p b (Add ∷ ss) f =
        grind (arith, nat_tests, one_on (p + 1) false ss f.1, no_more, either, turn_of, skip)
    one_on p b (Exchange ∷ ss) f =
        either j (Same (partner pair p)) (heirs_from pair (p + 1) false ss) (λ w. no_more p false ss f.1 (turn_of_other p f.0 w)) (one_on (p + 1) false ss f.1)
    one_on p b (End ∷ ss) f = one_on (p + 1) false ss f.1
    one_on p true (Join ∷ ss) f = one_on (p + 1) true ss f.1
    one_on p false (Join ∷ ss) f =
        either j (Joined p (p + joins_at_front ss)) (heirs_from pair (p + 1) true ss) none (one_on (p + 1) true ss f.1)
      where
        none : (nat_le p j && nat_le j (p + joins_at_front ss)) ≡ true → None_goes j (heirs_from pair (p + 1) true ss)
        none = grind (arith, nat_tests, within, later_on, turn_of)
    one_on p b (s ∷ ss) f =
        either j (Same p) (heirs_from pair (p + 1) false ss) (λ w. no_more p false ss f.1 (turn_of p f.0 w)) (one_on (p + 1) false ss f.1)

-- a list of exchanged places ascends
lower : (p a : ℕ) (signs : List Sign) (rest : List ℕ) → exchanges p signs ≡ a ∷ rest → p ≤ a
lower p a [] rest e = cc
lower p a (Exchange ∷ ss) rest e = grind (arith, nat_tests)
lower p a (s ∷ ss) rest e = let w = lower (p + 1) a ss rest e in omega (arith, w)

-- where none changes places
fits_none : (p : ℕ) (signs : List Sign) → Fits (λ k. k) [] p signs
fits_none p [] = tt
fits_none p (Split ∷ ss) = (refl, fits_none (p + 1) ss)
fits_none p (s ∷ ss) = (refl, fits_none (p + 1) ss)

-- where two do
module _ (a b : ℕ) (apart : a < b) where
  abbrev turn : ℕ → ℕ
  turn k = cond (k == a) b (cond (k == b) a k)

  still : (p : ℕ) → (p ≡ a → ⊥) → (p ≡ b → ⊥) → turn p ≡ p
  still = grind (arith, nat_tests)

  -- how many of the two are still to come
  abbrev ToCome : ℕ → List ℕ → Type 0
  ToCome p [] = b < p
  ToCome p (c ∷ []) = (c ≡ b) × (a < p) × (p ≤ b)
  ToCome p (c ∷ d ∷ []) = (c ≡ a) × (d ≡ b) × (p ≤ a)
  ToCome p (c ∷ d ∷ e ∷ more) = ⊥

  -- a place that isn't the next of them
  passed_by : (p : ℕ) (ps : List ℕ) → ToCome p ps → ((c : ℕ) (more : List ℕ) → ps ≡ c ∷ more → p + 1 ≤ c)
      → (turn p ≡ p) × ToCome (p + 1) ps
  passed_by = grind (arith, nat_tests)

  -- the next of them
  met : (p : ℕ) (ps : List ℕ) → ToCome p (p ∷ ps) → (turn (partner (a ∷ b ∷ []) p) ≡ p) × ToCome (p + 1) ps
  met = grind (arith, nat_tests)

  fits_two : (p : ℕ) (signs : List Sign) → ToCome p (exchanges p signs) → Fits turn (a ∷ b ∷ []) p signs
  fits_two p [] h = tt
  fits_two p (Exchange ∷ ss) h = let w = met p (exchanges (p + 1) ss) h in (w.0, fits_two (p + 1) ss w.1)
  fits_two p (s ∷ ss) h = let w = passed_by p (exchanges (p + 1) ss) h (λ c more e. lower (p + 1) c ss more e) in (w.0, fits_two (p + 1) ss w.1)

-- the second of two is beyond the first
second : (p a b : ℕ) (signs : List Sign) (rest : List ℕ) → exchanges p signs ≡ a ∷ b ∷ rest → a < b
second p a b [] rest e = cc
second p a b (Exchange ∷ ss) rest e = grind (arith, nat_tests, lower)
second p a b (s ∷ ss) rest e = second (p + 1) a b ss rest e

-- of spines under signs, one at most goes on from a place
one_under : (j : ℕ) (signs : List Sign) → is_pair_or_none (exchanges 0 signs) ≡ true → One_goes j (moves_under signs)
one_under j signs h = by_pair (exchanges 0 signs) refl h
  where
    by_pair : (pair : List ℕ) → exchanges 0 signs ≡ pair → is_pair_or_none pair ≡ true → One_goes j (heirs_from (exchanges 0 signs) 0 false signs)
    by_pair [] e h = rw e (one_on (λ k. k) [] j 0 false signs (fits_none 0 signs))
    by_pair (a ∷ []) e h = cc
    by_pair (a ∷ b ∷ []) e h =
        let apart = second 0 a b signs [] e in
        rw e (one_on (turn a b apart) (a ∷ b ∷ []) j 0 false signs (fits_two a b apart 0 signs (rw e (refl, refl, omega arith))))
    by_pair (a ∷ b ∷ c ∷ more) e h = grind (arith, nat_tests)

-- the same at the opening
none_before : (j p n : ℕ) → j < p → None_goes j (same_upto p n)
none_before j p zero h i e = cc
none_before j p (suc n) h zero e = let w = same_place p j e in omega (arith, w, h)
none_before j p (suc n) h (suc i) e = none_before j (p + 1) n (omega (arith, h)) i e

one_same : (j p n : ℕ) → One_goes j (same_upto p n)
one_same j p zero = λ i k x y. cc
one_same j p (suc n) = grind (arith, nat_tests, one_same j (p + 1) n, either, same_place, none_before)

one_at : (j : ℕ) (path : Path) (tokens : List (List ℕ)) → fault_of path (Spined Interpretation tokens) ≡ None → One_goes j (moves_at path tokens)
one_at = grind (arith, nat_tests, one_same, one_under, obeys)

-- the last of joined spines isn't before the first
abbrev IsOrdered : Move → Type 0
IsOrdered (Joined first last) = first ≤ last
IsOrdered (Same j) = Unit {0}
IsOrdered (Left j) = Unit {0}
IsOrdered (Right j) = Unit {0}
IsOrdered (Added j) = Unit {0}

ordered_on : (pair : List ℕ) (p : ℕ) (b : Bool) (signs : List Sign) (i : ℕ) → IsOrdered (at (heirs_from pair p b signs) i)
ordered_on pair p b [] i = tt
ordered_on pair p b (Split ∷ ss) (suc zero) = tt
ordered_on pair p b (Split ∷ ss) (suc (suc i)) = ordered_on pair (p + 1) false ss i
ordered_on pair p b (Add ∷ ss) (suc zero) = tt
ordered_on pair p b (Add ∷ ss) (suc (suc i)) = ordered_on pair (p + 1) false ss i
ordered_on pair p b (End ∷ ss) i = ordered_on pair (p + 1) false ss i
ordered_on pair p true (Join ∷ ss) i = ordered_on pair (p + 1) true ss i
ordered_on pair p false (Join ∷ ss) zero = omega arith
ordered_on pair p false (Join ∷ ss) (suc i) = ordered_on pair (p + 1) true ss i
ordered_on pair p b (s ∷ ss) zero = tt
ordered_on pair p b (s ∷ ss) (suc i) = ordered_on pair (p + 1) false ss i

ordered_same : (p n i : ℕ) → IsOrdered (at (same_upto p n) i)
ordered_same p (suc n) (suc i) = ordered_same (p + 1) n i
ordered_same p n i = grind (arith, nat_tests)

ordered_at : (path : Path) (tokens : List (List ℕ)) (i : ℕ) → IsOrdered (at (moves_at path tokens) i)
ordered_at = grind (arith, nat_tests, ordered_same, ordered_on)

-- the only one that goes on from place j is the first
found_at : (j : ℕ) (found : List Move) (i : ℕ) → One_goes j found → i < length found → goes_on j (at found i) ≡ true
    → place_below found j ≡ Some i
found_at j found i one within h =
    let first = position_or_len_is (goes_on j) found i (Added 0) (omega (arith, within))
    (λ k less. by_bool (goes_on j (at found k)) (λ w. let e = one k i w h in absurd (omega (arith, e, less))) (λ w. w)) (λ _. h) in
    let test : nat_lt i (length found) ≡ true = grind (arith, nat_tests, within) in
    rw (first, test) refl

some_is : {x y : ℕ} → Some x ≡ Some y → x ≡ y
some_is e = cc

up_of : (found : List Move) → ((j : ℕ) → One_goes j found) → ((i : ℕ) → IsOrdered (at found i)) → (i j : ℕ) → place_above found i ≡ Some j
    → (place_below found j ≡ Some i) ⊎ (slice_get found i ≡ Some (Right j))
up_of found one ordered i j h = by_move (slice_get found i) refl h
  where
    goes : (m : Move) → slice_get found i ≡ Some m → goes_on j m ≡ true → (place_below found j ≡ Some i) ⊎ (slice_get found i ≡ Some (Right j))
    goes m e g = inl (found_at j found i (one j) (slice_get_within found i m e) (rw (get_or_from_slice_get found i m (Added 0) e) g))

    same : (k : ℕ) → k ≡ j → (k == j) ≡ true
    same k e = grind (arith, nat_tests, e)

    by_move : (o : Option Move) → slice_get found i ≡ o → above_of o ≡ Some j
        → (place_below found j ≡ Some i) ⊎ (slice_get found i ≡ Some (Right j))
    by_move (Some (Same k)) e h = goes (Same k) e (same k (some_is h))
    by_move (Some (Left k)) e h = goes (Left k) e (same k (some_is h))
    by_move (Some (Right k)) e h = inr (e ∙ ap (λ (x : ℕ). Some (Right x)) (some_is h))
    by_move (Some (Joined first last)) e h =
        let f = some_is h in
        let up : first ≤ last = rw (get_or_from_slice_get found i (Joined first last) (Added 0) e) at (ordered i) in
        let x : nat_le first j ≡ true = grind (arith, nat_tests, f) in
        let y : nat_le j last ≡ true = grind (arith, nat_tests, f, up) in
        goes (Joined first last) e (rw (x, y) refl)
    by_move o h k = grind (arith, nat_tests)

-- where a test finds one
found_where : (j : ℕ) (found : List Move) (i : ℕ) → place_below found j ≡ Some i → (i < length found) × (goes_on j (at found i) ≡ true)
found_where = grind (arith, nat_tests, some_is, passes_at_first)

down_of : (found : List Move) (j i : ℕ) → place_below found j ≡ Some i → (place_above found i ≡ Some j) ⊎ IsJoinedFromRight found j i
down_of found j i h =
    let w = found_where j found i h in
    by_move (at found i) (slice_get-get_or found i (Added 0) w.0) w.1
  where
    by_move : (m : Move) → slice_get found i ≡ Some m → goes_on j m ≡ true → (place_above found i ≡ Some j) ⊎ IsJoinedFromRight found j i
    by_move = grind (arith, nat_tests)

pub step_turns : (path : Path) (tokens : List (List ℕ)) → StepsTurn path tokens
step_turns path tokens h = record {
  up = up_of (moves_at path tokens) (λ j. one_at j path tokens h) (ordered_at path tokens);
  down = down_of (moves_at path tokens);
}

open_back : (past rows : List Row) → IsOpen (passed past rows) → IsOpen past
open_back past [] h = h
open_back past (row ∷ rows) h = (open_back (row ∷ past) rows h).0

-- one cell more in front of those above it
one_longer : (tokens : List (List ℕ)) (above : List (List (List ℕ))) (j : ℕ) → j < length tokens → length tokens ≡ length above
    → slice_index_or (longer tokens above) j [] ≡ slice_index_or tokens j [] ∷ slice_index_or above j []
one_longer (t ∷ ts) (chain ∷ above) (suc j) h e = one_longer ts above j (omega (arith, h)) (omega (arith, e))
one_longer tokens above j h k = grind (arith, nat_tests)

-- the cells above a spine that comes by a move
cells_above : (tokens : List (List ℕ)) (above : List (List (List ℕ))) (found : List Move) (k j : ℕ) → place_above found k ≡ Some j
    → slice_index_or (map (chain_of tokens above) found) k [] ≡ slice_index_or tokens j [] ∷ slice_index_or above j []
cells_above tokens above found k j h = by_move (slice_get found k) refl h
  where
    at_move : (m : Move) → slice_get found k ≡ Some m → slice_index_or (map (chain_of tokens above) found) k [] ≡ chain_of tokens above m
    at_move m e =
        get_or-map (chain_of tokens above) found k (Added 0) [] (slice_get_within found k m e)
        ∙ ap (chain_of tokens above) (get_or_from_slice_get found k m (Added 0) e)

    by_move : (o : Option Move) → slice_get found k ≡ o → above_of o ≡ Some j
        → slice_index_or (map (chain_of tokens above) found) k [] ≡ slice_index_or tokens j [] ∷ slice_index_or above j []
    by_move (Some (Same i)) e h = at_move (Same i) e ∙ ap (λ x. slice_index_or tokens x [] ∷ slice_index_or above x []) (some_is h)
    by_move (Some (Left i)) e h = at_move (Left i) e ∙ ap (λ x. slice_index_or tokens x [] ∷ slice_index_or above x []) (some_is h)
    by_move (Some (Right i)) e h = at_move (Right i) e ∙ ap (λ x. slice_index_or tokens x [] ∷ slice_index_or above x []) (some_is h)
    by_move (Some (Joined first last)) e h = at_move (Joined first last) e ∙ ap (λ x. slice_index_or tokens x [] ∷ slice_index_or above x []) (some_is h)
    by_move o h k = grind (arith, nat_tests)

place_within : (found : List Move) (k j : ℕ) → place_above found k ≡ Some j → k < length found
place_within = grind (arith, nat_tests, slice_get_within)

-- one cell turned round, and those behind it
turned_more : (x : List ℕ) (below above all : List (List ℕ)) → all ≡ reverse below ++ (x ∷ above) → all ≡ reverse (x ∷ below) ++ above
turned_more = grind (arith, common_steps)

pub columns_turn : (past rows : List Row) → ColumnsTurn past rows
columns_turn past [] j i score less leads = ap (history past) (sym leads)
columns_turn past (Comment text ∷ rows) j i score less leads = columns_turn (Comment text ∷ past) rows j i score less leads
columns_turn past (Spined Interpretation tokens ∷ rows) j i score less leads =
    let found = moves_at (path_after past) tokens in
    let k = leads.0 in
    let wide = moves_width (path_after past) tokens in
    let inside = place_within found k j leads.2 in
    let above = cells_above tokens (columns past) found k j leads.2 in
    rw leads.1 (turned_more (slice_index_or tokens j []) (future (path_after (Spined Interpretation tokens ∷ past)) rows k) (history past j)
    (history (passed past (Spined Interpretation tokens ∷ rows)) i)
    (rw (sym above) (columns_turn (Spined Interpretation tokens ∷ past) rows k i score (omega (arith, inside, wide)) leads.3)))
columns_turn past (Spined kind tokens ∷ rows) j i score less leads =
    let front = open_back (Spined kind tokens ∷ past) rows score in
    let wide = text_width (path_after past) tokens front.1 in
    let longer = one_longer tokens (columns past) j (omega (arith, less, wide)) (wide ∙ sym (columns_width past front.0)) in
    turned_more (slice_index_or tokens j []) (future (path_after past) rows j) (history past j) (history (passed past (Spined kind tokens ∷ rows)) i)
    (rw (sym longer) (columns_turn (Spined kind tokens ∷ past) rows j i score less leads))

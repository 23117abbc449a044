-- The pieces of a front, and those of what it goes on to.
use Rattle.std.proofs.lemmas.Grind.{common_steps}
use Rattle.std.proofs.lemmas.Bool.Decides.{nat_tests}
use Rattle.std.proofs.Common.{◌≡◌, ◌∙◌, refl, sym, ap, subst, ℕ, zero, suc, ◌+◌, ◌<◌, ◌≤◌, List, [], ◌∷◌, ◌++◌, length}
use Rattle.std.proofs.Common.{arith, inl, inr, length-append, append_assoc, append-nil}
use Rattle.std.proofs.lemmas.Bool.{cases_eq, ne_eqb}
use Rattle.hum_text.specs.Text.{pieces, IsAtStart}
use Rattle.hum_text.proofs.PieceLemmas.{NoLf, pieces-some, pieces-append, pieces-open, pieces-whole, pieces-none}
use Rattle.hum_turns.specs.Flow.{Begins}
use Rattle.hum_nodes.specs.Settled.{onto_first, whole_pieces}

-- A front that ends where a line begins has whole pieces alone.

pub whole_at_start : (before q : List ℕ) → IsAtStart before
    → whole_pieces (before ++ q) ≡ pieces before ++ whole_pieces q
unfolding whole_pieces pieces IsAtStart
whole_at_start (b ∷ c ∷ bs) q s =
    grind (arith, nat_tests, whole_at_start (c ∷ bs) q s, pieces-some c bs, cases_eq b 10)
whole_at_start before q h = grind (arith, nat_tests)

free_tail : (b : ℕ) (q : List ℕ) → NoLf (b ∷ q) → NoLf q
free_tail b q free k l is = free (suc k) (omega arith) is

pub none_whole : (q : List ℕ) → NoLf q → whole_pieces q ≡ []
unfolding whole_pieces
none_whole [] free = refl
none_whole (b ∷ q) free =
    rw (ne_eqb b 10 (free 0 (omega arith))) (ap (onto_first b) (none_whole q (free_tail b q free)))

pub start_whole : (before : List ℕ) → IsAtStart before → whole_pieces before ≡ pieces before
start_whole before s =
    ap whole_pieces (sym (append-nil before)) ∙ whole_at_start before [] s
    ∙ ap (λ ps. pieces before ++ ps) (none_whole [] (λ k l. absurd (omega arith))) ∙ append-nil (pieces before)

-- Bytes are lines that LF ends, and then one that it doesn't end.
record Cut (p : List ℕ) : Type 0 where
  before : List ℕ
  tail : List ℕ
  split : p ≡ before ++ tail
  start : IsAtStart before
  free : NoLf tail

pub free_cons : (b : ℕ) (q : List ℕ) → (b ≡ 10 → ⊥) → NoLf q → NoLf (b ∷ q)
free_cons = grind (arith, nat_tests)

pub free_append : (a b : List ℕ) → NoLf a → NoLf b → NoLf (a ++ b)
free_append [] b f g k i is = g k i is
free_append (x ∷ a) b f g zero i is = f 0 (omega arith) is
free_append (x ∷ a) b f g (suc k) i is =
    free_append a b (λ j low e. f (suc j) (omega arith) e) g k (omega arith) is

cut_on : (b : ℕ) (p x y : List ℕ) → p ≡ x ++ y → IsAtStart x → NoLf y → Cut (b ∷ p)
unfolding IsAtStart
cut_on b p (c ∷ x) y e s f =
    record { before = b ∷ c ∷ x; tail = y; split = ap (λ z. b ∷ z) e; start = s; free = f }
cut_on b p [] y e s f = elim (cases_eq b 10) [
  | inl is ↦ record { before = b ∷ []; tail = y; split = ap (λ z. b ∷ z) e; start = is; free = f }
  | inr other ↦ grind (arith, nat_tests, free_cons)
]

cut : (p : List ℕ) → Cut p
unfolding IsAtStart
cut [] = record { before = []; tail = []; split = refl; start = tt; free = λ k l. absurd (omega arith) }
cut (b ∷ p) = let c = cut p in cut_on b p c.before c.tail c.split c.start c.free

-- So its whole pieces stay, and what follows them goes on with that line.

whole_cut : (p : List ℕ) (c : Cut p) → whole_pieces p ≡ pieces c.before
whole_cut = grind (arith, nat_tests, whole_at_start, none_whole, append-nil)

whole_on : (p q : List ℕ) (c : Cut p) → whole_pieces (p ++ q) ≡ whole_pieces p ++ whole_pieces (c.tail ++ q)
whole_on = grind (arith, nat_tests, append_assoc, whole_at_start, whole_cut)

pieces_on : (p q : List ℕ) (c : Cut p) → pieces (p ++ q) ≡ whole_pieces p ++ pieces (c.tail ++ q)
pieces_on = grind (arith, nat_tests, append_assoc, pieces-append, whole_cut)

pub whole_begins : (p q : List ℕ) → Begins (whole_pieces p) (whole_pieces (p ++ q))
whole_begins p q = let c = cut p in (whole_pieces (c.tail ++ q), sym (whole_on p q c))

pub whole_front : (p q : List ℕ) → Begins (whole_pieces p) (pieces (p ++ q))
whole_front p q = let c = cut p in (pieces (c.tail ++ q), sym (pieces_on p q c))

pub none_free : (q : List ℕ) → whole_pieces q ≡ [] → NoLf q
none_free q none = let c = cut q in by c.before c.tail c.split (sym (whole_cut q c) ∙ none) c.free
  where
    by : (x y : List ℕ) → q ≡ x ++ y → pieces x ≡ [] → NoLf y → NoLf q
    by [] y e n free = subst NoLf (sym e) free
    by (b ∷ x) y e n free = let some = pieces-some b x in cc

-- How many pieces there are.

some_pieces : (q : List ℕ) → 0 < length q → 0 < length (pieces q)
some_pieces [] some = absurd (omega arith)
some_pieces (b ∷ q) some = omega (arith, ap length (pieces-some b q).2)

free_one : (q : List ℕ) → NoLf q → length (pieces q) ≤ 1
free_one [] free = omega (arith, ap length pieces-none)
free_one (b ∷ q) free = omega (arith, ap length (pieces-open b q free))

count_on : (p q : List ℕ) (c : Cut p)
    → length (pieces (p ++ q)) ≡ length (whole_pieces p) + length (pieces (c.tail ++ q))
count_on p q c = ap length (pieces_on p q c) ∙ length-append (whole_pieces p) (pieces (c.tail ++ q))

count : (p : List ℕ) (c : Cut p) → length (pieces p) ≡ length (whole_pieces p) + length (pieces c.tail)
count p c = ap (λ z. length (pieces z)) (sym (append-nil p)) ∙ count_on p [] c ∙ rw append-nil refl

-- All pieces but the last are whole,
pub but_last : (p : List ℕ) → length (pieces p) ≤ length (whole_pieces p) + 1
but_last p = let c = cut p in omega (arith, count p c, free_one c.tail c.free)

-- and the last isn't where no line begins behind it,
pub open_end : (p : List ℕ) → (IsAtStart p → ⊥) → length (whole_pieces p) + 1 ≤ length (pieces p)
open_end p other =
    let c = cut p in
    omega (arith, count p c, some_pieces c.tail (by c.before c.tail c.split c.start))
  where
    by : (x y : List ℕ) → p ≡ x ++ y → IsAtStart x → 0 < length y
    by = grind (arith, common_steps)

-- with bytes more there is a piece behind those of the front,
pub some_more : (p q : List ℕ) → 0 < length q → length (whole_pieces p) + 1 ≤ length (pieces (p ++ q))
some_more p q some =
    let c = cut p in
    omega (arith, count_on p q c, some_pieces (c.tail ++ q) (omega (arith, length-append c.tail q)))

-- but one at most.
pub one_piece : (p : List ℕ) (b : ℕ) → length (pieces (p ++ b ∷ [])) ≤ length (pieces p) + 1
one_piece p b =
    let c = cut p in
    omega (arith, count p c, count_on p (b ∷ []) c, one c.tail c.free)
  where
    one : (q : List ℕ) → NoLf q → length (pieces (q ++ b ∷ [])) ≤ 1
    one = grind (arith, nat_tests, cases_eq, pieces-whole, free_cons, free_one, free_append)

-- More bytes make no fewer pieces.
pub pieces_grow : (p q : List ℕ) → length (pieces p) ≤ length (pieces (p ++ q))
pieces_grow p [] = omega (arith, ap (λ z. length (pieces z)) (append-nil p))
pieces_grow p (b ∷ q) = omega (arith, but_last p, some_more p (b ∷ q) (omega arith))

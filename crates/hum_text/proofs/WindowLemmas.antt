-- Windows of a buffer.
use Rattle.std.proofs.lemmas.Grind.{common_steps}
use Rattle.std.proofs.lemmas.Bool.Decides.{nat_tests}
use Rattle.std.proofs.Common.{◌≡◌, ℕ, ◌+◌, ◌-◌, ◌<◌, ◌≤◌, List, ◌++◌, length, get_or, take, drop, max, refl, ap}
use Rattle.std.proofs.Common.{sym, ◌∙◌, arith, length-take, length-drop, slice_range, Some, inl, inr}
use Rattle.std.proofs.lemmas.List.{get_or-take, get_or-drop, drop-take, drop-drop}
use Rattle.std.proofs.Math.Seq.{take-add}
use Rattle.std.proofs.lemmas.Bool.{eqb-true, eq-eqb, cases_lt}
use Rattle.std.specs.List.{copy_within}
use Rattle.memchr.specs.Find.{IsFirstByte, is_byte, Passes, Nowhere}
use Rattle.hum_text.specs.Window.{IsWindow}

pub get-window : (xs : List ℕ) (s e k : ℕ) → k < e - s → get_or (slice_range xs s e) k 0 ≡ get_or xs (s + k) 0
get-window xs s e k h = get_or-take (e - s) (drop s xs) k 0 h ∙ get_or-drop s xs k 0

pub length-window : (xs : List ℕ) (s e : ℕ) → e ≤ length xs → length (slice_range xs s e) ≡ e - s
length-window xs s e h = simp (length-take, length-drop) (omega arith)

-- a place of the window passes as that of the buffer
pub passes-from : (xs : List ℕ) (s e k j : ℕ) → k < e - s → j ≡ s + k → Passes (is_byte 10) (slice_range xs s e) k
    → get_or xs j 0 ≡ 10
passes-from = grind (arith, nat_tests, get_or, get-window, eqb-true)

pub passes-to : (xs : List ℕ) (s e k j : ℕ) → k < e - s → j ≡ s + k → get_or xs j 0 ≡ 10
    → Passes (is_byte 10) (slice_range xs s e) k
passes-to xs s e k j h at is = eq-eqb _ 10 (get-window xs s e k h ∙ ap (λ (n : ℕ). get_or xs n 0) (sym at) ∙ is)

-- a search that found none in the next k bytes
pub IsWindow-searched : (xs : List ℕ) (s m e k n : ℕ) → IsWindow xs s m e → m + k ≤ e → n ≡ m + k
    → Nowhere (Passes (is_byte 10) (slice_range xs m e)) 0 k → IsWindow xs s n e
IsWindow-searched xs s m e k n w fits is none = record {
  low = omega (arith, w.low);
  middle = omega arith;
  high = w.high;
  searched = λ i low high ten. elim (cases_lt i m) [
    | inl below ↦ w.searched i low below ten
    | inr from ↦ none (i - m) (omega arith) (omega arith) (passes-to xs m e (i - m) i (omega arith) (omega arith) ten)
  ];
}

-- what is searched has no LF
pub none-searched : (xs : List ℕ) (s m e k : ℕ) → IsWindow xs s m e → k < m - s
    → Passes (is_byte 10) (slice_range xs s e) k → ⊥
none-searched xs s m e k w h passes =
    grind (arith, nat_tests, passes-from xs s e k (s + k) (omega (arith, w.low, w.middle)) refl passes)

-- a window over bytes that are the same up to its end
pub IsWindow-kept : (xs ys : List ℕ) (s m e f : ℕ) → slice_range ys f (f + (e - s)) ≡ slice_range xs s e
    → f + (e - s) ≤ length ys → IsWindow xs s m e → IsWindow ys f (f + (m - s)) (f + (e - s))
IsWindow-kept xs ys s m e f same fits w = record {
  low = omega arith;
  middle = omega (arith, w.low, w.middle);
  high = fits;
  searched = λ k low high ten. w.searched (s + (k - f)) (omega arith) (omega (arith, w.low)) (
      sym (get-window xs s e (k - f) (omega (arith, w.low, w.middle)))
      ∙ ap (λ (zs : List ℕ). get_or zs (k - f) 0) (sym same)
      ∙ get-window ys f (f + (e - s)) (k - f) (omega (arith, w.low, w.middle))
      ∙ ap (λ (n : ℕ). get_or ys n 0) (back k low)
      ∙ ten);
} where
  back : (k : ℕ) → f ≤ k → f + (k - f) ≡ k
  back k low = omega arith

-- none in the rest, none in all
pub none-window : (xs : List ℕ) (s m e n : ℕ) → IsWindow xs s m e → n ≤ e - m
    → Nowhere (Passes (is_byte 10) (slice_range xs m e)) 0 n
    → Nowhere (Passes (is_byte 10) (slice_range xs s e)) 0 (m - s + n)
none-window xs s m e n w fits none k low high passes = elim (cases_lt k (m - s)) [
  | inl below ↦ none-searched xs s m e k w below passes
  | inr from ↦ none (k - (m - s)) (omega arith) (omega arith) (
      passes-to xs m e (k - (m - s)) (s + k) (omega (arith, w.low, w.middle)) (omega (arith, w.low)) (
      passes-from xs s e k (s + k) (omega (arith, w.low, w.middle)) refl passes))
]

pub all-none : (xs : List ℕ) (s m e : ℕ) → IsWindow xs s m e
    → Nowhere (Passes (is_byte 10) (slice_range xs m e)) 0 (length (slice_range xs m e))
    → Nowhere (Passes (is_byte 10) (slice_range xs s e)) 0 (length (slice_range xs s e))
all-none xs s m e w none k low high =
    none-window xs s m e (length (slice_range xs m e)) w (omega (arith, length-window xs m e w.high)) none k low
    (omega (arith, length-window xs m e w.high, length-window xs s e w.high, w.low, w.middle))

pub none-IsWindow : (xs : List ℕ) (s m e : ℕ) → IsWindow xs s m e
    → Nowhere (Passes (is_byte 10) (slice_range xs m e)) 0 (length (slice_range xs m e)) → IsWindow xs s e e
none-IsWindow xs s m e w none =
    let count = length-window xs m e w.high in
    IsWindow-searched xs s m e (length (slice_range xs m e)) e w (omega (arith, count, w.middle))
    (omega (arith, count, w.middle)) none

pub first-window : (xs : List ℕ) (s m e k : ℕ) → IsWindow xs s m e
    → IsFirstByte (is_byte 10) (slice_range xs m e) (Some k)
    → IsFirstByte (is_byte 10) (slice_range xs s e) (Some (m - s + k))
first-window xs s m e k w found =
    let high : k < e - m = omega (arith, found.0.high, length-window xs m e w.high) in (
      record {
        low = omega arith;
        high = omega (arith, length-window xs s e w.high, w.low, w.middle);
        before = none-window xs s m e k w (omega arith) found.0.before;
      },
      passes-to xs s e (m - s + k) (m + k) (omega (arith, w.low, w.middle)) (omega (arith, w.low))
          (passes-from xs m e k (m + k) high refl found.1),
    )

pub drop-window : (xs : List ℕ) (s e n : ℕ) → n ≤ e - s → drop n (slice_range xs s e) ≡ slice_range xs (s + n) e
drop-window xs s e n h =
    ap (λ (k : ℕ). drop n (take k (drop s xs))) (all n h) ∙ drop-take n (e - s - n) (drop s xs)
    ∙ ap (λ (zs : List ℕ). take (e - s - n) zs) (drop-drop n s xs)
    ∙ ap (λ (k : ℕ). take k (drop (s + n) xs)) (left n) where
      all : (n : ℕ) → n ≤ e - s → e - s ≡ n + (e - s - n)
      all n h = omega arith

      left : (n : ℕ) → e - s - n ≡ e - (s + n)
      left n = omega arith

-- a window of bytes that are the same up to its end
pub window-front : (xs ys : List ℕ) (s e : ℕ) → s ≤ e → take e ys ≡ take e xs
    → slice_range ys s e ≡ slice_range xs s e
window-front xs ys s e h same = sym (part ys) ∙ ap (λ (zs : List ℕ). drop s zs) same ∙ part xs where
  part : (zs : List ℕ) → drop s (take e zs) ≡ slice_range zs s e
  part zs = ap (λ (k : ℕ). drop s (take k zs)) at ∙ drop-take s (e - s) zs where
    at : e ≡ s + (e - s)
    at = omega arith

pub grow-window : (xs : List ℕ) (s e j : ℕ) → s ≤ e → e ≤ j
    → slice_range xs s j ≡ slice_range xs s e ++ slice_range xs e j
grow-window xs s e j low high =
    ap (λ (k : ℕ). take k (drop s xs)) sum ∙ take-add (e - s) (j - e) (drop s xs)
    ∙ ap (λ (zs : List ℕ). slice_range xs s e ++ take (j - e) zs) (drop-drop (e - s) s xs
    ∙ ap (λ (k : ℕ). drop k xs) at) where
      sum : j - s ≡ (e - s) + (j - e)
      sum = omega arith

      at : s + (e - s) ≡ e
      at = omega arith

-- a window that grows at its end
pub IsWindow-grown : (xs : List ℕ) (s m e j : ℕ) → IsWindow xs s m e → e ≤ j → j ≤ length xs → IsWindow xs s m j
IsWindow-grown = grind (arith, nat_tests)

-- the same where what was searched is told from a place that may stand before the window
pub moved_on : (xs : List ℕ) (s m e n : ℕ) → IsWindow xs s (max m s) e → s + n ≤ e → IsWindow xs (s + n) (max m (s + n)) e
moved_on = grind (arith, nat_tests)

pub max_behind : (f x : ℕ) → max (f + x) f ≡ f + x
max_behind f x = omega arith

-- the first bytes of a window
pub front-window : (xs : List ℕ) (s e n : ℕ) → n ≤ e - s → slice_range xs s (s + n) ≡ take n (slice_range xs s e)
front-window = grind (arith, common_steps)

-- nothing was read
pub end-nothing : (xs bs : List ℕ) → length bs ≡ 0 → xs ++ bs ≡ xs
end-nothing = grind (arith, common_steps)

-- what stands in front of what is written
pub front-stays : (at n : ℕ) (old rest behind : List ℕ) → at ≤ n → at ≤ length old
    → take at (take n ((take at old ++ rest) ++ behind)) ≡ take at old
front-stays = grind (arith, common_steps)

-- a window that was moved to the front
pub moved-window : (xs : List ℕ) (s e : ℕ) → e ≤ length xs → slice_range (copy_within xs s e 0) 0 (0 + (e - s)) ≡ slice_range xs s e
moved-window = grind (arith, common_steps)

-- a window of a buffer that grew
pub wider-window : (xs more : List ℕ) (s e n : ℕ) → s ≤ e → e ≤ length xs → length xs ≤ n
    → slice_range (take n xs ++ more) s (s + (e - s)) ≡ slice_range xs s e
wider-window = grind (arith, common_steps)

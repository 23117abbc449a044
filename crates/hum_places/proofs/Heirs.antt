-- The spines behind an interpretation, place by place.
use Rattle.std.proofs.lemmas.Grind.{common_steps}
use Rattle.std.proofs.Common.{◌≡◌, ◌≢◌, ◌∙◌, refl, sym, ap, ℕ, zero, suc, ◌+◌, ◌-◌, ◌<◌, ◌⊎◌, inl, inr, arith}
use Rattle.std.proofs.Common.{◌==◌, Bool, true, false, ◌&&◌, ◌||◌, List, [], ◌∷◌, ◌++◌, map, length, cond, drop, nat_eq}
use Rattle.std.proofs.Common.{Option, Some, slice_get}
use Rattle.std.specs.Str.{bytes_eq}
use lib.Chars.{codes}
use Rattle.std.proofs.lemmas.Bool.Decides.{nat_tests}
use Rattle.std.proofs.lemmas.List.{length-append}
use Rattle.std.proofs.lemmas.Slice.Eq.{bytes_eq-Decides}
use Rattle.hum_score.specs.declared.spines.Sign.{Sign}
use Rattle.hum_score.specs.declared.spines.Sign.TheVariants.{Split, Join, Exchange, Add, End, Exclusive, Plain}
use Rattle.hum_score.specs.declared.spines.Move.{Move}
use Rattle.hum_score.specs.declared.spines.Move.TheVariants.{Same, Left, Right, Join as Joined, Added}
use Rattle.hum_score.specs.Sign.{sign_of, is_join}
use Rattle.hum_path.specs.Places.{token_at, IsJoin, IsExchange}
use Rattle.hum_score.specs.Spines.{Spines, exchanges, partner, joins_at_front, heirs, heirs_from, moves_at}
use Rattle.hum_score.specs.Rules.{is_pair_or_none}
use Rattle.hum_score.proofs.Cases.{by_bool}
use Rattle.hum_path.proofs.Obeyed.{obeys}
use Rattle.hum_places.specs.Heirs.{place_below, width_below, IsRun, IsQuiet, StepsByPlace}

-- what a token is
pub data Asks (t : List ℕ) : Type 0 where
  splits : t ≡ codes "*^" → Asks t
  joins : t ≡ codes "*v" → Asks t
  changes : t ≡ codes "*x" → Asks t
  adds : t ≡ codes "*+" → Asks t
  ends : t ≡ codes "*-" → Asks t
  nothing : IsQuiet t → Asks t

pub is_text : (t text : List ℕ) → bytes_eq t text ≡ true → t ≡ text
is_text t text w = (bytes_eq-Decides t text).0 w

pub no_text : (t text : List ℕ) → t ≢ text → bytes_eq t text ≡ false
no_text t text h = by_bool (bytes_eq t text) (λ w. absurd (h (is_text t text w))) (λ w. w)

pub other_text : (t text : List ℕ) → bytes_eq t text ≡ false → t ≢ text
other_text t text w e = let v = (bytes_eq-Decides t text).1 e in cc

pub asks : (t : List ℕ) → Asks t
asks t =
    by_bool (bytes_eq t (codes "*^")) (λ w. splits (is_text t (codes "*^") w))
    (λ a. by_bool (bytes_eq t (codes "*v")) (λ w. joins (is_text t (codes "*v") w))
    (λ b. by_bool (bytes_eq t (codes "*x")) (λ w. changes (is_text t (codes "*x") w))
    (λ c. by_bool (bytes_eq t (codes "*+")) (λ w. adds (is_text t (codes "*+") w))
    (λ d. by_bool (bytes_eq t (codes "*-")) (λ w. ends (is_text t (codes "*-") w))
    (λ e. nothing (record {
      split = other_text t (codes "*^") a;
      join = other_text t (codes "*v") b;
      exchange = other_text t (codes "*x") c;
      add = other_text t (codes "*+") d;
      end = other_text t (codes "*-") e;
    }))))))

pub quiet_sign : (t : List ℕ) → IsQuiet t → (sign_of t ≡ Exclusive) ⊎ (sign_of t ≡ Plain)
quiet_sign = grind (arith, nat_tests, no_text, nat_eq)

pub exchange_sign : (t : List ℕ) → sign_of t ≡ Exchange → t ≡ codes "*x"
exchange_sign t h = by_what (asks t)
  where
    by_what : Asks t → t ≡ codes "*x"
    by_what = grind (arith, common_steps)

-- how many spines come of a cell, by its sign and whether a join stands directly to its left
abbrev pub own : Bool → Sign → ℕ
own after_join Split = 2
own after_join Join = cond after_join 0 1
own after_join Exchange = 1
own after_join Add = 2
own after_join End = 0
own after_join Exclusive = 1
own after_join Plain = 1

-- how many come of so many cells
abbrev seat : Bool → List (List ℕ) → ℕ → ℕ
seat after ts zero = 0
seat after [] (suc q) = suc q
seat after (t ∷ ts) (suc q) = own after (sign_of t) + seat (is_join (sign_of t)) ts q

-- whether a join stands directly to the left of a place
abbrev pub after_at : Bool → List (List ℕ) → ℕ → Bool
after_at after ts zero = after
after_at after ts (suc q) = is_join (sign_of (token_at ts q))

seat_more : (after : Bool) (ts : List (List ℕ)) (q : ℕ)
    → seat after ts (suc q) ≡ seat after ts q + own (after_at after ts q) (sign_of (token_at ts q))
seat_more after [] zero = refl
seat_more after [] (suc q) = omega arith
seat_more after (t ∷ ts) zero = omega arith
seat_more after (t ∷ ts) (suc zero) = let h = seat_more (is_join (sign_of t)) ts zero in omega (arith, h)
seat_more after (t ∷ ts) (suc (suc q)) = let h = seat_more (is_join (sign_of t)) ts (suc q) in omega (arith, h)

pub joins_is : (t : List ℕ) → is_join (sign_of t) ≡ bytes_eq t (codes "*v")
joins_is = grind (arith, nat_tests)

-- the count by texts
abbrev width_by : Bool → List ℕ → ℕ
width_by after t =
    cond (bytes_eq t (codes "*^") || bytes_eq t (codes "*+")) 2
    (cond (bytes_eq t (codes "*-") || (after && bytes_eq t (codes "*v"))) 0 1)

width_own : (after : Bool) (t : List ℕ) → width_by after t ≡ own after (sign_of t)
width_own = grind (arith, nat_tests, asks, no_text, quiet_sign)

pub width_is : (ts : List (List ℕ)) (q : ℕ) → width_below ts q ≡ own (after_at false ts q) (sign_of (token_at ts q))
width_is ts zero = width_own false (token_at ts zero)
width_is ts (suc q) = simp (joins_is, width_own)

place_is : (ts : List (List ℕ)) (q : ℕ) → place_below ts q ≡ seat false ts q
place_is ts zero = refl
place_is ts (suc q) = grind (arith, nat_tests, place_is ts q, width_is, seat_more)

-- what comes of the cell at a place
abbrev heirs_at : List ℕ → ℕ → Bool → List (List ℕ) → ℕ → List Move
heirs_at pair p after [] q = []
heirs_at pair p after (t ∷ ts) zero = heirs pair p after (sign_of t) (map sign_of ts)
heirs_at pair p after (t ∷ ts) (suc q) = heirs_at pair (p + 1) (is_join (sign_of t)) ts q

heirs_at_is : (pair : List ℕ) (p : ℕ) (after : Bool) (ts : List (List ℕ)) (q : ℕ) → q < length ts
    → heirs_at pair p after ts q ≡ heirs pair (p + q) (after_at after ts q) (sign_of (token_at ts q)) (map sign_of (drop (suc q) ts))
heirs_at_is pair p after [] q h = absurd (omega (arith, h))
heirs_at_is pair p after (t ∷ ts) zero h = grind (arith, nat_tests)
heirs_at_is pair p after (t ∷ ts) (suc zero) h =
    grind (arith, nat_tests, heirs_at_is pair (p + 1) (is_join (sign_of t)) ts zero (omega (arith, h)))
heirs_at_is pair p after (t ∷ ts) (suc (suc q)) h =
    heirs_at_is pair (p + 1) (is_join (sign_of t)) ts (suc q) (omega (arith, h))
    ∙ ap (λ (n : ℕ). heirs pair n (is_join (sign_of (token_at ts q))) (sign_of (token_at ts (suc q))) (map sign_of (drop (suc (suc q)) ts)))
    (omega arith)

pub heirs_length : (pair : List ℕ) (p : ℕ) (after : Bool) (s : Sign) (ss : List Sign) → length (heirs pair p after s ss) ≡ own after s
heirs_length = grind (arith, nat_tests)

in_front : {X : Type 0} (xs ys : List X) (i : ℕ) → i < length xs → slice_get (xs ++ ys) i ≡ slice_get xs i
in_front [] ys i h = absurd (omega (arith, h))
in_front (x ∷ xs) ys zero h = refl
in_front (x ∷ xs) ys (suc i) h = in_front xs ys i (omega (arith, h))

behind : {X : Type 0} (xs ys : List X) (i n : ℕ) → n ≡ length xs + i → slice_get (xs ++ ys) n ≡ slice_get ys i
behind [] ys i n h = let e : n ≡ i = omega (arith, h) in rw e refl
behind (x ∷ xs) ys i zero h = absurd (omega (arith, h))
behind (x ∷ xs) ys i (suc n) h = behind xs ys i n (omega (arith, h))

-- It stands behind what comes of the cells to its left.
stands : (pair : List ℕ) (p : ℕ) (after : Bool) (ts : List (List ℕ)) (q i : ℕ) → i < length (heirs_at pair p after ts q)
    → slice_get (heirs_from pair p after (map sign_of ts)) (seat after ts q + i) ≡ slice_get (heirs_at pair p after ts q) i
stands pair p after [] q i h = absurd (omega (arith, h))
stands pair p after (t ∷ ts) zero i h =
    let own = heirs pair p after (sign_of t) (map sign_of ts) in
    let rest = heirs_from pair (p + 1) (is_join (sign_of t)) (map sign_of ts) in
    ap (slice_get (own ++ rest)) (omega arith) ∙ in_front own rest i h
stands pair p after (t ∷ ts) (suc q) i h =
    grind (arith, nat_tests, stands pair (p + 1) (is_join (sign_of t)) ts q i h, heirs_length, behind)

counted : (pair : List ℕ) (p : ℕ) (after : Bool) (ts : List (List ℕ))
    → length (heirs_from pair p after (map sign_of ts)) ≡ seat after ts (length ts)
counted pair p after [] = refl
counted pair p after (t ∷ ts) =
    grind (arith, nat_tests, counted pair (p + 1) (is_join (sign_of t)) ts, heirs_length, length-append)

-- a run of joins
joins_run : (ts : List (List ℕ)) (n : ℕ) → ((i : ℕ) → i < n → IsJoin ts i) → ¬ IsJoin ts n → joins_at_front (map sign_of ts) ≡ n
joins_run [] zero all none = refl
joins_run [] (suc n) all none = let e : [] ≡ codes "*v" = all 0 (omega arith) in cc
joins_run (t ∷ ts) zero all none = grind (arith, nat_tests, joins_is, no_text)
joins_run (t ∷ ts) (suc n) all none =
    let e : t ≡ codes "*v" = all 0 (omega arith) in
    let w : is_join (sign_of t) ≡ true = ap (λ (u : List ℕ). is_join (sign_of u)) e in
    let more = joins_run ts n (λ i h. all (suc i) (omega (arith, h))) none in
    rw w (omega (arith, more))

dropped : (ts : List (List ℕ)) (j i : ℕ) → token_at (drop j ts) i ≡ token_at ts (j + i)
dropped = grind (arith, common_steps)

pub present : (ts : List (List ℕ)) (j : ℕ) (text : List ℕ) → text ≢ [] → token_at ts j ≡ text → j < length ts
present = grind (arith, common_steps)

-- the other exchanged place
abbrev Among : ℕ → List ℕ → Type 0
Among x [] = ⊥
Among x (y ∷ ys) = (x ≡ y) ⊎ Among x ys

among : (p : ℕ) (ts : List (List ℕ)) (j : ℕ) → IsExchange ts j → Among (p + j) (exchanges p (map sign_of ts))
among p [] zero e = let w : [] ≡ codes "*x" = e in cc
among p [] (suc j) e = let w : [] ≡ codes "*x" = e in cc
among p (t ∷ ts) zero e = grind (arith, nat_tests)
among p (t ∷ ts) (suc j) e = grind (arith, nat_tests, among (p + 1) ts j e)

pair_or_none : (n : ℕ) → (n == 0 || n == 2) ≡ true → (n ≡ 0) ⊎ (n ≡ 2)
pair_or_none n h = by_bool (n == 0) (λ w. inl (grind (arith, nat_tests, w))) (λ w. inr (grind (arith, nat_tests, w, h)))

partner_is : (pair : List ℕ) (j k : ℕ) → is_pair_or_none pair ≡ true → Among j pair → Among k pair → j ≢ k → partner pair j ≡ k
partner_is pair j k h = by_length pair (pair_or_none (length pair) h)
  where
    by_length : (pair : List ℕ) → (length pair ≡ 0) ⊎ (length pair ≡ 2) → Among j pair → Among k pair → j ≢ k → partner pair j ≡ k
    by_length = grind (arith, common_steps)

module _ (names tokens : List (List ℕ)) where
  abbrev found : List Move
  found = moves_at (Spines names) tokens

  abbrev pub pair : List ℕ
  pair = exchanges 0 (map sign_of tokens)

  -- what stands at a cell's place, and one further
  pub at_place : (j i : ℕ) (s : Sign) → j < length tokens → sign_of (token_at tokens j) ≡ s
      → i < length (heirs pair j (after_at false tokens j) s (map sign_of (drop (suc j) tokens)))
      → slice_get found (place_below tokens j + i)
      ≡ slice_get (heirs pair j (after_at false tokens j) s (map sign_of (drop (suc j) tokens))) i
  at_place j i s within e h =
      let is : heirs_at pair 0 false tokens j ≡ heirs pair j (after_at false tokens j) s (map sign_of (drop (suc j) tokens)) =
      heirs_at_is pair 0 false tokens j within
      ∙ ap (λ (n : ℕ). heirs pair n (after_at false tokens j) (sign_of (token_at tokens j)) (map sign_of (drop (suc j) tokens))) (omega arith)
      ∙ ap (λ (u : Sign). heirs pair j (after_at false tokens j) u (map sign_of (drop (suc j) tokens))) e in
      ap (λ (n : ℕ). slice_get found (n + i)) (place_is tokens j)
      ∙ stands pair 0 false tokens j i (rw is h)
      ∙ ap (λ (ms : List Move). slice_get ms i) is

  here : (j : ℕ) (o : Option Move) → slice_get found (place_below tokens j + 0) ≡ o → slice_get found (place_below tokens j) ≡ o
  here j o h = ap (slice_get found) (omega arith) ∙ h

  -- no join stands directly to the left of a run
  free : (j : ℕ) → ((i : ℕ) → i + 1 ≡ j → ¬ IsJoin tokens i) → after_at false tokens j ≡ false
  free = grind (arith, nat_tests, joins_is, no_text)

  run_is : (j k : ℕ) → IsRun tokens j k → j + joins_at_front (map sign_of (drop (suc j) tokens)) ≡ k
  run_is j k run =
      let order = run.order in
      let n : (n : ℕ) × (j + n ≡ k) = (k - j, omega (arith, order)) in
      let sum = n.1 in
      let size = joins_run (drop (suc j) tokens) n.0
      (λ i h. dropped tokens (suc j) i ∙ run.within (suc j + i) (omega arith) (omega (arith, h, sum)))
      (λ e. run.right (ap (token_at tokens) (omega (arith, sum)) ∙ sym (dropped tokens (suc j) n.0) ∙ e)) in
      omega (arith, size, sum)

  joined : (j k : ℕ) → IsRun tokens j k → slice_get found (place_below tokens j) ≡ Some (Joined j k)
  joined j k run =
      let e = run.within j (omega arith) run.order in
      let f = free j run.left in
      let size = run_is j k run in
      here j (Some (Joined j k))
      (at_place j 0 Join (present tokens j (codes "*v") (λ w. cc) e) (ap sign_of e) (rw f (omega arith))
      ∙ rw (f, size) refl)

  module _ (sound : is_pair_or_none (exchanges 0 (map sign_of tokens)) ≡ true) where
    among_all : (j : ℕ) → IsExchange tokens j → Among j pair
    among_all j e = let z : 0 + j ≡ j = omega arith in rw z at (among 0 tokens j e)

    exchanged : (j k : ℕ) → IsExchange tokens j → IsExchange tokens k → j ≢ k
        → slice_get found (place_below tokens j) ≡ Some (Same k)
    exchanged j k e f apart =
        here j (Some (Same k))
        (at_place j 0 Exchange (present tokens j (codes "*x") (λ w. cc) e) (ap sign_of e) (omega arith)
        ∙ ap (λ (n : ℕ). Some (Same n)) (partner_is pair j k sound (among_all j e) (among_all k f) apart))

  quiet : (j : ℕ) → j < length tokens → IsQuiet (token_at tokens j) → slice_get found (place_below tokens j) ≡ Some (Same j)
  quiet j within q = elim (quiet_sign (token_at tokens j) q) [
    | inl e ↦ here j (Some (Same j)) (at_place j 0 Exclusive within e (omega arith))
    | inr e ↦ here j (Some (Same j)) (at_place j 0 Plain within e (omega arith))
  ]

  count : length found ≡ place_below tokens (length tokens)
  count = counted pair 0 false tokens ∙ sym (place_is tokens (length tokens))

  split : (j : ℕ) → token_at tokens j ≡ codes "*^"
      → (slice_get found (place_below tokens j) ≡ Some (Left j)) × (slice_get found (place_below tokens j + 1) ≡ Some (Right j))
  split j e =
      let within = present tokens j (codes "*^") (λ w. cc) e in (
        here j (Some (Left j)) (at_place j 0 Split within (ap sign_of e) (omega arith)),
        at_place j 1 Split within (ap sign_of e) (omega arith),
      )

  added : (j : ℕ) → token_at tokens j ≡ codes "*+"
      → (slice_get found (place_below tokens j) ≡ Some (Same j)) × (slice_get found (place_below tokens j + 1) ≡ Some (Added j))
  added j e =
      let within = present tokens j (codes "*+") (λ w. cc) e in (
        here j (Some (Same j)) (at_place j 0 Add within (ap sign_of e) (omega arith)),
        at_place j 1 Add within (ap sign_of e) (omega arith),
      )

pub by_place : (names tokens : List (List ℕ)) → StepsByPlace names tokens
by_place names tokens h = record {
  split = split names tokens;
  join = joined names tokens;
  exchange = exchanged names tokens (obeys names tokens h).pair;
  add = added names tokens;
  quiet = quiet names tokens;
  count = count names tokens;
}

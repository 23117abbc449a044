-- What is held is at most the greatest lag and one more.
use Rattle.std.proofs.Common.{◌≡◌, ◌∙◌, refl, sym, ap, ℕ, zero, suc, ◌+◌, ◌-◌, ◌<◌}
use Rattle.std.proofs.Common.{◌≤◌, ◌⊎◌}
use Rattle.std.proofs.Common.{inl, inr, arith, Bool, true, false, not, cond, List, [], ◌∷◌, ◌++◌}
use Rattle.std.proofs.Common.{take, drop, length, get_or, append_assoc, append-nil, length-append}
use Rattle.std.proofs.Common.{subst}
use Rattle.std.specs.Prelude.{nat_le, Option, Some, None, Result, Ok, Err}
use Rattle.std.specs.List.{prefix_len, range_with_len}
use Rattle.std.proofs.lemmas.Bool.{cases_Bool}
use Rattle.std.proofs.lemmas.Bool.Decides.{nat_tests}
use Rattle.std.proofs.lemmas.List.{take-append-le, take_all, length-take-le, take-append-drop}
use Rattle.std.proofs.lemmas.List.Sums.{prefix_len_is, prefix_len-le-length, prefix_len_passes}
use Rattle.std.proofs.lemmas.List.FromFn.{length-range_with_len, get_or-range_with_len}
use Rattle.hum_score.specs.Row.{Row}
use Rattle.hum_score.specs.Score.{IsOpen, passed}
use Rattle.hum_stage.specs.declared.faults.Rule.{Rule}
use Rattle.hum_stage.specs.declared.faults.Rule.TheVariants.{L2}
use Rattle.hum_stage.specs.Outcome.{AllDecided, Outcome, Becomes, Refused, Undecided, settled, waiting, held_of}
use Rattle.hum_score.specs.InOrder.{IsScore}
use Rattle.hum_stage.specs.Meaning.{Goes}
use Rattle.hum_stage.specs.Order.{open_passed, passed-push}
use Rattle.hum_stage.specs.Decided.{Decision, decisions, limit}
use Rattle.hum_stage.specs.Laws.{decisions_each, decisions_decided}
use Rattle.hum_stage.specs.Look.{Look, outcome_of, outcome_at, outcomes_from, IsSteady}
use Rattle.hum_stage.specs.LookLaws.{looks_each, outcome_stays}
use Rattle.hum_stage.specs.Lag.{is_decided, decided_at, decided_with, lag, LagsAtMost, ArePutAtWants, HoldsByLag}
use Rattle.hum_stage.specs.declared.TheConstants.{MOST_RECORDS}

waiting_few : (ended : Bool) (os : List Outcome) → waiting ended os ≤ length os
waiting_few ended [] = omega arith
waiting_few ended (Becomes rows ∷ os) = let w = waiting_few ended os in omega (arith, w)
waiting_few ended (Refused rule ∷ os) = omega arith
waiting_few true (Undecided ∷ os) = omega arith
waiting_few false (Undecided ∷ os) = let w = waiting_few false os in omega (arith, w)

held_few : (g : ℕ) (ended : Bool) (os : List Outcome) → held_of g ended os ≤ length os
held_few g ended [] = omega arith
held_few g ended (Becomes rows ∷ os) = first (held_few (g - length rows) ended os) (nat_le (length rows) g)
  where
    first : held_of (g - length rows) ended os ≤ length os → (b : Bool)
        → cond b (held_of (g - length rows) ended os) (waiting ended os + 1) ≤ suc (length os)
    first w true = omega (arith, w)
    first w false = let w = waiting_few ended os in omega (arith, w)
held_few g ended (Refused rule ∷ os) = omega arith
held_few g true (Undecided ∷ os) = omega arith
held_few g false (Undecided ∷ os) = let w = waiting_few false os in omega (arith, w)

-- how many records there are from the first that waits for a later one on
abbrev behind : List Outcome → ℕ
behind [] = 0
behind (Becomes rows ∷ os) = behind os
behind (Refused rule ∷ os) = 0
behind (Undecided ∷ os) = length os + 1

-- with one record more
held_behind : (g : ℕ) (ended : Bool) (olds news : List Outcome) → Goes olds news → length news ≡ length olds + 1
    → length (settled olds) ≤ g → held_of g ended news ≤ behind olds + 1
held_behind g ended [] news h e l = let w = held_few g ended news in omega (arith, w, e)
held_behind g ended (Becomes rows ∷ os) [] h e l = absurd h
held_behind g ended (Becomes rows ∷ os) (n ∷ ns) h e l =
    let sum = length-append rows (settled os) in
    let fits : nat_le (length rows) g ≡ true = grind (arith, nat_tests, l, sum) in
    rw (h.0, fits) (held_behind (g - length rows) ended os ns h.1 (omega (arith, e)) (omega (arith, l, sum)))
held_behind g ended (Refused rule ∷ os) [] h e l = absurd h
held_behind g ended (Refused rule ∷ os) (n ∷ ns) h e l = rw h (omega arith)
held_behind g ended (Undecided ∷ os) news h e l = let w = held_few g ended news in omega (arith, w, e)

-- the last of a list
record HasLast (p : List Row) : Type 0 where
  front : List Row
  last : Row
  whole : p ≡ front ++ last ∷ []

last_of : (r : Row) (p : List Row) → HasLast (r ∷ p)
last_of r [] = record { front = []; last = r; whole = refl }
last_of r (q ∷ p) =
    let w = last_of q p in
    record {
      front = r ∷ w.front;
      last = w.last;
      whole = ap (λ (xs : List Row). r ∷ xs) w.whole;
    }

-- Those that wait behind one are told by some record's lag.
abbrev LagsTell : (List Row → List Outcome) → Type 0
LagsTell outcomes =
    (q : List Row) (r : Row) → IsScore (q ++ r ∷ [])
    → (behind (outcomes q) ≡ 0)
    ⊎ ((i : ℕ) × (i < length (q ++ r ∷ [])) × (behind (outcomes q) ≤ lag outcomes (q ++ r ∷ []) i))

holds_last : (outcomes : List Row → List Outcome) → ((p : List Row) → length (outcomes p) ≡ length p)
    → ((p : List Row) (r : Row) → IsScore (p ++ r ∷ []) → Goes (outcomes p) (outcomes (p ++ r ∷ [])))
    → LagsTell outcomes → (q : List Row) (r : Row) (g n : ℕ) (ended : Bool) → IsScore (q ++ r ∷ [])
    → ArePutAtWants outcomes (q ++ r ∷ []) g → LagsAtMost outcomes n (q ++ r ∷ [])
    → held_of g ended (outcomes (q ++ r ∷ [])) ≤ n + 1
holds_last outcomes each grows tell q r g n ended score wants most =
    let old = each q in
    let new = each (q ++ r ∷ []) in
    let sum : length (q ++ r ∷ []) ≡ length q + 1 = length-append q (r ∷ []) in
    let front : take (length q) (q ++ r ∷ []) ≡ q =
    take-append-le (length q) q (r ∷ []) (omega arith) ∙ take_all (length q) q (omega arith) in
    let given : length (settled (outcomes q)) ≤ g = rw front at (wants (length q) (omega (arith, sum))) in
    bound (held_behind g ended (outcomes q) (outcomes (q ++ r ∷ [])) (grows q r score)
    (omega (arith, old, new, sum)) given) (tell q r score)
  where
    bound : held_of g ended (outcomes (q ++ r ∷ [])) ≤ behind (outcomes q) + 1
        → (behind (outcomes q) ≡ 0)
        ⊎ ((i : ℕ) × (i < length (q ++ r ∷ []))
        × (behind (outcomes q) ≤ lag outcomes (q ++ r ∷ []) i))
        → held_of g ended (outcomes (q ++ r ∷ [])) ≤ n + 1
    bound held (inl none) = omega (arith, held, none)
    bound held (inr w) = let a = w.2 in let b = most w.0 w.1 in omega (arith, held, a, b)

holds_by_lag : (outcomes : List Row → List Outcome) → ((p : List Row) → length (outcomes p) ≡ length p)
    → ((p : List Row) (r : Row) → IsScore (p ++ r ∷ []) → Goes (outcomes p) (outcomes (p ++ r ∷ [])))
    → LagsTell outcomes → HoldsByLag outcomes
holds_by_lag outcomes each grows tell [] g n ended score wants lags =
    let w = held_few g ended (outcomes []) in let e = each [] in omega (arith, w, e)
holds_by_lag outcomes each grows tell (x ∷ p) g n ended score wants lags =
    let w = last_of x p in
    subst (λ y. IsScore y → ArePutAtWants outcomes y g → LagsAtMost outcomes n y
    → held_of g ended (outcomes y) ≤ n + 1) (sym w.whole)
    (holds_last outcomes each grows tell w.front w.last g n ended) score wants lags

-- commands that decide at once

behind_decided : (n : ℕ) (os : List Outcome) → AllDecided os → behind (limit n os) ≡ 0
behind_decided n [] h = refl
behind_decided n (Becomes rows ∷ os) h =
    first (behind_decided (n - length rows) os h) (nat_le (length rows) n)
  where
    first : behind (limit (n - length rows) os) ≡ 0 → (b : Bool)
        → behind (cond b (Becomes rows ∷ limit (n - length rows) os) (Refused L2 ∷ os)) ≡ 0
    first rest true = rest
    first rest false = refl
behind_decided n (Refused rule ∷ os) h = refl
behind_decided n (Undecided ∷ os) h = absurd h

all_decided_at : (i : ℕ) (os : List Outcome) → AllDecided os → i < length os → decided_at i os ≡ true
all_decided_at i [] h l = absurd (omega (arith, l))
all_decided_at zero (Becomes rows ∷ os) h l = refl
all_decided_at zero (Refused rule ∷ os) h l = refl
all_decided_at (suc i) (Becomes rows ∷ os) h l = all_decided_at i os h (omega (arith, l))
all_decided_at (suc i) (Refused rule ∷ os) h l = all_decided_at i os h (omega (arith, l))
all_decided_at i (Undecided ∷ os) h l = absurd h

limit_decided_at : (n i : ℕ) (os : List Outcome) → AllDecided os → i < length os
    → decided_at i (limit n os) ≡ true
limit_decided_at n i [] h l = absurd (omega (arith, l))
limit_decided_at n zero (Becomes rows ∷ os) h l = first (nat_le (length rows) n)
  where
    first : (b : Bool)
        → decided_at zero (cond b (Becomes rows ∷ limit (n - length rows) os) (Refused L2 ∷ os))
        ≡ true
    first true = refl
    first false = refl
limit_decided_at n (suc i) (Becomes rows ∷ os) h l =
    first (limit_decided_at (n - length rows) i os h (omega (arith, l))) (nat_le (length rows) n)
  where
    first : decided_at i (limit (n - length rows) os) ≡ true → (b : Bool)
        → decided_at (suc i) (cond b (Becomes rows ∷ limit (n - length rows) os) (Refused L2 ∷ os))
        ≡ true
    first rest true = rest
    first rest false = all_decided_at i os h (omega (arith, l))
limit_decided_at n zero (Refused rule ∷ os) h l = refl
limit_decided_at n (suc i) (Refused rule ∷ os) h l = all_decided_at i os h (omega (arith, l))
limit_decided_at n i (Undecided ∷ os) h l = absurd h

-- a lag is at most a number with which the record is decided
lag_most : (outcomes : List Row → List Outcome) (p : List Row) (i n : ℕ)
    → (n < length p - (i + 1) → decided_with outcomes p i n ≡ true)
    → lag outcomes p i ≤ n
lag_most outcomes p i n h =
    let test = λ (k : ℕ). not (decided_with outcomes p i k) in
    let all = range_with_len 0 (length p - (i + 1)) in
    let size = length-range_with_len 0 (length p - (i + 1)) in
    let most = prefix_len-le-length test all in
    elim (cases_Bool (nat_le (prefix_len test all) n)) as (λ _. prefix_len test all ≤ n) [
      | inl w ↦ grind (arith, nat_tests, w)
      | inr w ↦
          let more : n < prefix_len test all = grind (arith, nat_tests, w) in
          let within : n < length p - (i + 1) = omega (arith, more, most, size) in
          let passes = prefix_len_passes test all n 0 more in
          let is : get_or all n 0 ≡ n = get_or-range_with_len 0 (length p - (i + 1)) n 0 within ∙ omega arith in
          let no : not (decided_with outcomes p i n) ≡ true = rw is at passes in
          let yes = h within in
          absurd (clash (decided_with outcomes p i n) yes no)
    ]
  where
    clash : (b : Bool) → b ≡ true → not b ≡ true → ⊥
    clash true x y = cc
    clash false x y = cc

pub at_once_lags : (decide : Decision) (p : List Row)
    → LagsAtMost (λ p. limit MOST_RECORDS (decisions decide [] p)) 0 p
at_once_lags decide p i less =
    lag_most (λ p. limit MOST_RECORDS (decisions decide [] p)) p i 0 (λ _.
    let few : i + 1 + 0 ≤ length p = omega (arith, less) in
    let size = length-take-le (i + 1 + 0) p few in
    let each = decisions_each decide [] (take (i + 1 + 0) p) in
    limit_decided_at MOST_RECORDS i (decisions decide [] (take (i + 1 + 0) p))
    (decisions_decided decide [] (take (i + 1 + 0) p)) (omega (arith, size, each)))

pub at_once_holds : (decide : Decision)
    → ((p : List Row) → length (limit MOST_RECORDS (decisions decide [] p)) ≡ length p)
    → ((p : List Row) (r : Row) → IsScore (p ++ r ∷ [])
    → Goes (limit MOST_RECORDS (decisions decide [] p)) (limit MOST_RECORDS (decisions decide [] (p ++ r ∷ []))))
    → HoldsByLag (λ p. limit MOST_RECORDS (decisions decide [] p))
at_once_holds decide each grows =
    holds_by_lag (λ p. limit MOST_RECORDS (decisions decide [] p)) each grows
    (λ q r score. inl (behind_decided MOST_RECORDS (decisions decide [] q) (decisions_decided decide [] q)))

-- commands that look ahead

open_back : (past rows : List Row) → IsOpen (passed past rows) → IsOpen past
open_back past [] h = h
open_back past (row ∷ rows) h = (open_back (row ∷ past) rows h).0

passed-append : (past a b : List Row) → passed past (a ++ b) ≡ passed (passed past a) b
passed-append past [] b = refl
passed-append past (x ∷ a) b = passed-append (x ∷ past) a b

-- What is undecided with some records behind it was with fewer.
still_waits : (room : ℕ) (look : Look) (past : List Row) (row : Row) (rows more : List Row)
    → IsSteady look
    → IsOpen (passed (row ∷ past) (rows ++ more)) → outcome_at room look past row (rows ++ more) ≡ Undecided
    → outcome_at room look past row rows ≡ Undecided
still_waits room look past row rows [] steady score h = rw append-nil at h
still_waits room look past row rows (next ∷ more) steady score h =
    let along : rows ++ next ∷ more ≡ (rows ++ next ∷ []) ++ more = sym (append_assoc rows (next ∷ []) more) in
    let all : IsOpen (passed (row ∷ past) ((rows ++ next ∷ []) ++ more)) = rw along at score in
    let ih = still_waits room look past row (rows ++ next ∷ []) more steady all (rw along at h) in
    let before = rw (passed-append (row ∷ past) (rows ++ next ∷ []) more) at all in
    let one : IsOpen (passed (row ∷ past) (rows ++ next ∷ [])) =
    open_back (passed (row ∷ past) (rows ++ next ∷ [])) more before in
    let pushed : IsOpen (next ∷ passed (row ∷ past) rows) = rw (passed-push (row ∷ past) rows next) at one in
    by_outcome (outcome_at room look past row rows) refl ih pushed
  where
    by_outcome : (o : Outcome) → outcome_at room look past row rows ≡ o
        → outcome_at room look past row (rows ++ next ∷ []) ≡ Undecided
        → IsOpen (next ∷ passed (row ∷ past) rows) → outcome_at room look past row rows ≡ Undecided
    by_outcome Undecided e ih score = e
    by_outcome (Becomes new) e ih score =
        let stays = outcome_stays room look past row rows next steady score (λ u. cc) in
        absurd (apart (sym e ∙ (sym stays ∙ ih)))
      where
        apart : Becomes new ≡ Undecided → ⊥
        apart e = cc
    by_outcome (Refused rule) e ih score =
        let stays = outcome_stays room look past row rows next steady score (λ u. cc) in
        absurd (apart (sym e ∙ (sym stays ∙ ih)))
      where
        apart : Refused rule ≡ Undecided → ⊥
        apart e = cc

-- the first that waits
record FirstWaits (room : ℕ) (look : Look) (past q : List Row) : Type 0 where
  front : List Row
  row : Row
  rows : List Row
  whole : q ≡ front ++ row ∷ rows
  count : behind (outcomes_from room look past q) ≡ length rows + 1
  waits : outcome_at room look (passed past front) row rows ≡ Undecided

first_waits : (room : ℕ) (look : Look) (past q : List Row)
    → (behind (outcomes_from room look past q) ≡ 0) ⊎ FirstWaits room look past q
first_waits room look past [] = inl refl
first_waits room look past (row ∷ q) =
    by_outcome (outcome_at room look past row q) refl (first_waits room look (row ∷ past) q)
  where
    by_outcome : (o : Outcome) → outcome_at room look past row q ≡ o
        → (behind (outcomes_from room look (row ∷ past) q) ≡ 0) ⊎ FirstWaits room look (row ∷ past) q
        → (behind (outcome_at room look past row q ∷ outcomes_from room look (row ∷ past) q) ≡ 0)
        ⊎ FirstWaits room look past (row ∷ q)
    by_outcome (Becomes new) e (inl none) = inl (rw e none)
    by_outcome (Becomes new) e (inr w) = inr (record {
      front = row ∷ w.front;
      row = w.row;
      rows = w.rows;
      whole = ap (λ (xs : List Row). row ∷ xs) w.whole;
      count = rw e w.count;
      waits = w.waits;
    })
    by_outcome (Refused rule) e rest = inl (rw e refl)
    by_outcome Undecided e rest = inr (record {
      front = [];
      row = row;
      rows = q;
      whole = refl;
      count = rw e (ap (λ n. n + 1) (looks_each room look (row ∷ past) q));
      waits = e;
    })

decided_here : (room : ℕ) (look : Look) (past front : List Row) (row : Row) (rows : List Row)
    → decided_at (length front) (outcomes_from room look past (front ++ row ∷ rows))
    ≡ is_decided (outcome_at room look (passed past front) row rows)
decided_here room look past [] row rows = refl
decided_here room look past (x ∷ front) row rows = decided_here room look (x ∷ past) front row rows

take_behind : (front : List Row) (row : Row) (rows : List Row) (k : ℕ)
    → take (length front + 1 + k) (front ++ row ∷ rows) ≡ front ++ row ∷ take k rows
take_behind [] row rows k = let e : 0 + 1 + k ≡ suc k = omega arith in rw e refl
take_behind (x ∷ front) row rows k =
    let e : suc (length front) + 1 + k ≡ suc (length front + 1 + k) = omega arith in
    rw e (ap (λ (xs : List Row). x ∷ xs) (take_behind front row rows k))

-- how a record is decided with so many behind it
decided_behind : (room : ℕ) (look : Look) (front : List Row) (row : Row) (rows : List Row) (k : ℕ)
    → decided_with (λ p. outcomes_from room look [] p) (front ++ row ∷ rows) (length front) k
    ≡ is_decided (outcome_at room look (passed [] front) row (take k rows))
decided_behind room look front row rows k =
    rw (take_behind front row rows k) (decided_here room look [] front row (take k rows))

looking_tell : (room : ℕ) (look : Look) → IsSteady look → LagsTell (λ p. outcomes_from room look [] p)
looking_tell room look steady q r score = by_first (first_waits room look [] q)
  where
    by_first : (behind (outcomes_from room look [] q) ≡ 0) ⊎ FirstWaits room look [] q
        → (behind (outcomes_from room look [] q) ≡ 0)
        ⊎ ((i : ℕ) × (i < length (q ++ r ∷ []))
        × (behind (outcomes_from room look [] q)
        ≤ lag (λ p. outcomes_from room look [] p) (q ++ r ∷ []) i))
    by_first (inl none) = inl none
    by_first (inr w) = inr (length w.front, within, rw (w.count, same) at_least)
      where
        same : q ++ r ∷ [] ≡ w.front ++ w.row ∷ (w.rows ++ r ∷ [])
        same = rw w.whole (append_assoc w.front (w.row ∷ w.rows) (r ∷ []))

        size : length (w.front ++ w.row ∷ (w.rows ++ r ∷ [])) ≡ length w.front + (length w.rows + 2)
        size =
            let a = length-append w.front (w.row ∷ (w.rows ++ r ∷ [])) in
            let b : length (w.rows ++ r ∷ []) ≡ length w.rows + 1 = length-append w.rows (r ∷ []) in
            omega (arith, a, b)

        within : length w.front < length (q ++ r ∷ [])
        within = rw same (omega (arith, size))

        open_all : IsOpen (passed [] (w.front ++ w.row ∷ (w.rows ++ r ∷ [])))
        open_all = rw same at (open_passed [] (q ++ r ∷ []) tt score)

        open_rows : (k : ℕ) → IsOpen (passed (w.row ∷ passed [] w.front) w.rows)
        open_rows k =
            let a = rw (passed-append [] w.front (w.row ∷ (w.rows ++ r ∷ []))) at open_all in
            let b = rw (passed-append (w.row ∷ passed [] w.front) w.rows (r ∷ [])) at a in
            open_back (passed (w.row ∷ passed [] w.front) w.rows) (r ∷ []) b

        waits_with : (k : ℕ) → k < length w.rows + 1
            → decided_with (λ p. outcomes_from room look [] p)
            (w.front ++ w.row ∷ (w.rows ++ r ∷ [])) (length w.front) k ≡ false
        waits_with k less =
            let parts : take k w.rows ++ drop k w.rows ≡ w.rows = take-append-drop k w.rows in
            let now =
            still_waits room look (passed [] w.front) w.row (take k w.rows) (drop k w.rows) steady
            (rw parts (open_rows k)) (rw parts w.waits) in
            decided_behind room look w.front w.row (w.rows ++ r ∷ []) k
            ∙ rw (take-append-le k w.rows (r ∷ []) (omega (arith, less)), now) refl

        at_least : length w.rows + 1
            ≤ lag (λ p. outcomes_from room look [] p) (w.front ++ w.row ∷ (w.rows ++ r ∷ []))
            (length w.front)
        at_least =
            let n : length (w.front ++ w.row ∷ (w.rows ++ r ∷ [])) - (length w.front + 1)
            ≡ length w.rows + 1 = omega (arith, size) in
            let test = λ (k : ℕ). not (decided_with (λ p. outcomes_from room look [] p)
            (w.front ++ w.row ∷ (w.rows ++ r ∷ [])) (length w.front) k) in
            let range = range_with_len 0 (length w.rows + 1) in
            let count = length-range_with_len 0 (length w.rows + 1) in
            let is : prefix_len test range ≡ length w.rows + 1 =
            prefix_len_is test range (length w.rows + 1) 0 (omega (arith, count))
            (λ k less.
            let e : get_or range k 0 ≡ k =
            get_or-range_with_len 0 (length w.rows + 1) k 0 less ∙ omega arith in
            rw (e, waits_with k less) refl)
            (λ less. absurd (omega (arith, less, count))) in
            rw n (omega (arith, is))

pub looking_holds : (room : ℕ) (look : Look) → IsSteady look
    → ((p : List Row) (r : Row) → IsScore (p ++ r ∷ [])
    → Goes (outcomes_from room look [] p) (outcomes_from room look [] (p ++ r ∷ [])))
    → HoldsByLag (λ p. outcomes_from room look [] p)
looking_holds room look steady grows =
    holds_by_lag (λ p. outcomes_from room look [] p) (looks_each room look []) grows (looking_tell room look steady)

-- the record at a place of a list
record At (p : List Row) (i : ℕ) : Type 0 where
  front : List Row
  row : Row
  rows : List Row
  whole : p ≡ front ++ row ∷ rows
  place : length front ≡ i

at_place : (p : List Row) (i : ℕ) → i < length p → At p i
at_place [] i h = absurd (omega (arith, h))
at_place (x ∷ p) zero h = record { front = []; row = x; rows = p; whole = refl; place = refl }
at_place (x ∷ p) (suc i) h =
    let w = at_place p i (omega (arith, h)) in
    record {
      front = x ∷ w.front;
      row = w.row;
      rows = w.rows;
      whole = ap (λ (xs : List Row). x ∷ xs) w.whole;
      place = ap suc w.place;
    }

-- with as many behind it as there is room for each record is decided
decided_in_room : (room n : ℕ) (d : Option (Result (List Row) Rule)) → n ≡ room
    → is_decided (outcome_of room n d) ≡ true
decided_in_room room n (Some (Ok rows)) e = refl
decided_in_room room n (Some (Err rule)) e = refl
decided_in_room room n None e = let full : nat_le room n ≡ true = grind (arith, nat_tests, e) in rw full refl

pub looking_lags : (room : ℕ) (look : Look) (p : List Row)
    → LagsAtMost (λ p. outcomes_from room look [] p) room p
looking_lags room look p i less = by_place (at_place p i less)
  where
    by_place : At p i → lag (λ p. outcomes_from room look [] p) p i ≤ room
    by_place w = lag_most (λ p. outcomes_from room look [] p) p i room (λ more.
        let size = ap length w.whole ∙ length-append w.front (w.row ∷ w.rows) in
        let place = w.place in
        let enough : room ≤ length w.rows = omega (arith, more, size, place) in
        rw (w.whole, sym w.place) (decided_behind room look w.front w.row w.rows room
        ∙ decided_in_room room (length (take room w.rows))
        (look (passed [] w.front) w.row (take room (take room w.rows)))
        (length-take-le room w.rows enough)))

-- The records of the spread rule, one after another.
use Rattle.std.proofs.Common.{◌≡◌, ◌∙◌, refl, sym, ap, ℕ, zero, suc, ◌+◌, ◌<◌, ◌≤◌, arith}
use Rattle.std.proofs.Common.{◌==◌, Bool, true, false, not, ◌&&◌, ◌||◌, List, [], ◌∷◌, map, length, cond}
use Rattle.std.specs.Prelude.{nat_le, slice_index_or}
use Rattle.std.proofs.lemmas.Bool.Decides.{nat_tests}
use lib.Chars.{codes}
use Rattle.hum_score.proofs.Cases.{by_bool}
use Rattle.hum_columns.specs.Spread.{JoinedToken, goes_on, tokens_in, joins_in}
use Rattle.hum_columns.specs.Spread.{join_alone, first_alone, join_done, first_done, one_by_one}
use Rattle.hum_places.proofs.Spreading.{one, shown, row}

none : (a b : Bool) → (a && (b && false)) ≡ false
none = grind (arith, nat_tests)

not_below : (n : ℕ) → 1 ≤ n → nat_le n 0 ≡ false
not_below n h = grind (arith, nat_tests, h)

-- a token that goes on begins no join
on_not_begins : (p : JoinedToken) → goes_on p ≡ true → p.begins ≡ false
on_not_begins = grind (arith, nat_tests)

-- one that doesn't go on is read as behind no join
not_on : (t : ℕ) (last : Bool) (b : ℕ) (p : JoinedToken) (ps : List JoinedToken) → goes_on p ≡ false
    → row t last b true (p ∷ ps) ≡ row t last b false (p ∷ ps)
not_on t last b p ps h = rw h refl

-- one number further
later : (t : ℕ) (last : Bool) (b : ℕ) (inside : Bool) (ps : List JoinedToken) → row t last b inside ps ≡ row (suc t) last (suc b) inside ps
later t last b inside [] = refl
later t last b inside (p ∷ ps) =
    let j = p.begins || (inside && goes_on p) in
    let n = b + one p.begins in
    let same : suc b + one p.begins ≡ suc n = omega arith in
    let less : nat_le (suc n) (suc t) ≡ nat_le n t = by_bool (nat_le n t)
    (λ w. let v : nat_le (suc n) (suc t) ≡ true = grind (arith, nat_tests, w) in v ∙ sym w)
    (λ w. let v : nat_le (suc n) (suc t) ≡ false = grind (arith, nat_tests, w) in v ∙ sym w) in
    let own : (suc n == suc t + 1) ≡ (n == t + 1) = by_bool (n == t + 1)
    (λ w. let v : (suc n == suc t + 1) ≡ true = grind (arith, nat_tests, w) in v ∙ sym w)
    (λ w. let v : (suc n == suc t + 1) ≡ false = grind (arith, nat_tests, w) in v ∙ sym w) in
    let show = shown_later t last n j p.token own in
    rw (same, less, show, ← later t last n j ps) refl
  where
    shown_later : (t : ℕ) (last : Bool) (n : ℕ) (j : Bool) (token : List ℕ) → (suc n == suc t + 1) ≡ (n == t + 1)
        → shown (suc t) last (suc n) j token ≡ shown t last n j token
    shown_later = grind (arith, nat_tests)

-- The record of the first join.
quiet : (b : ℕ) (inside : Bool) (ps : List JoinedToken) → 1 ≤ b → (inside ≡ true → 2 ≤ b) → row 0 false b inside ps ≡ map (λ _. codes "*") ps
quiet b inside [] some more = refl
quiet b inside (p ∷ ps) some more =
    let n = b + one p.begins in
    let j = p.begins || (inside && goes_on p) in
    let low = not_below n (omega (arith, some)) in
    let two = beyond p.begins inside (goes_on p) more in
    let rest = quiet n j ps (omega (arith, some)) two in
    rw (low, none j (not p.begins), shown_null n j two, rest) refl
  where
    beyond : (begins inside on : Bool) → (inside ≡ true → 2 ≤ b) → (begins || (inside && on)) ≡ true → 2 ≤ b + one begins
    beyond = grind (arith, nat_tests)

    shown_null : (n : ℕ) (j : Bool) → (j ≡ true → 2 ≤ n) → shown 0 false n j p.token ≡ codes "*"
    shown_null = grind (arith, nat_tests)

alone_behind : (ps : List JoinedToken) → join_alone ps ≡ row 0 false 1 true ps
alone_behind [] = refl
alone_behind (p ∷ ps) = by_bool (goes_on p)
    (λ w. rw (w, on_not_begins p w, alone_behind ps) refl)
    (λ w.
    let nulls : join_alone (p ∷ ps) ≡ map (λ _. codes "*") (p ∷ ps) = rw w refl in
    nulls ∙ sym (quiet 1 false (p ∷ ps) (omega arith) (λ e. cc)) ∙ sym (not_on 0 false 1 p ps w))

first_row : (ps : List JoinedToken) → first_alone ps ≡ row 0 false 0 false ps
first_row [] = refl
first_row (p ∷ ps) = grind (arith, nat_tests, first_row ps, alone_behind)

-- What is left behind it has the later records.
skip : (t : ℕ) (last : Bool) (ps : List JoinedToken) → row t last 0 false (join_done ps) ≡ row (suc t) last 1 true ps
skip t last [] = refl
skip t last (p ∷ ps) = by_bool (goes_on p)
    (λ w.
    let past : nat_le 1 (suc t) ≡ true = grind (arith, nat_tests) in
    rw (w, on_not_begins p w, past) (skip t last ps))
    (λ w.
    let left : join_done (p ∷ ps) ≡ p ∷ ps = rw w refl in
    ap (row t last 0 false) left ∙ later t last 0 false (p ∷ ps) ∙ sym (not_on (suc t) last 1 p ps w))

rest_rows : (t : ℕ) (last : Bool) (ps : List JoinedToken) → row t last 0 false (first_done ps) ≡ row (suc t) last 0 false ps
rest_rows t last [] = refl
rest_rows t last (p ∷ ps) = grind (arith, nat_tests, rest_rows t last ps, skip)

-- The last record, where one join is left.
last_row : (b : ℕ) (inside : Bool) (ps : List JoinedToken) → b + joins_in ps ≤ 1 → (inside ≡ true → 1 ≤ b) → tokens_in ps ≡ row 0 true b inside ps
last_row b inside [] few some = refl
last_row b inside (p ∷ ps) few some =
    let n = b + one p.begins in
    let j = p.begins || (inside && goes_on p) in
    let left : n + joins_in ps ≤ 1 = counted p.begins few in
    let begun = beyond p.begins inside (goes_on p) some in
    rw (kept n j (not p.begins) begun, shown_own n j (omega (arith, left)) begun, ← last_row n j ps left begun) refl
  where
    counted : (begins : Bool) → b + cond begins (joins_in ps + 1) (joins_in ps) ≤ 1 → b + one begins + joins_in ps ≤ 1
    counted = grind (arith, nat_tests)

    beyond : (begins inside on : Bool) → (inside ≡ true → 1 ≤ b) → (begins || (inside && on)) ≡ true → 1 ≤ b + one begins
    beyond = grind (arith, nat_tests)

    kept : (n : ℕ) (j c : Bool) → (j ≡ true → 1 ≤ n) → (j && (c && nat_le n 0)) ≡ false
    kept = grind (arith, nat_tests)

    shown_own : (n : ℕ) (j : Bool) → n ≤ 1 → (j ≡ true → 1 ≤ n) → shown 0 true n j p.token ≡ p.token
    shown_own = grind (arith, nat_tests)

-- one join less is left
joins_done : (ps : List JoinedToken) → joins_in (join_done ps) ≡ joins_in ps
joins_done [] = refl
joins_done (p ∷ ps) = by_bool (goes_on p) (λ w. rw (w, on_not_begins p w) (joins_done ps)) (λ w. rw w refl)

first_less : (ps : List JoinedToken) → 1 ≤ joins_in ps → joins_in (first_done ps) + 1 ≡ joins_in ps
first_less [] h = absurd (omega (arith, h))
first_less (p ∷ ps) h = by_bool p.begins
    (λ w. let e = joins_done ps in rw w (omega (arith, e)))
    (λ w. let more : 1 ≤ joins_in ps = rw w at h in let e = first_less ps more in rw w e)

-- Of so many records each is its own.
pub each : (m : ℕ) (ps : List JoinedToken) → joins_in ps ≡ suc m → (t : ℕ) → t < suc m
    → slice_index_or (one_by_one m ps) t [] ≡ row t (t == m) 0 false ps
each zero ps count zero h = last_row 0 false ps (omega (arith, count)) (λ e. cc)
each zero ps count (suc t) h = absurd (omega (arith, h))
each (suc m) ps count zero h = let other : (0 == suc m) ≡ false = grind (arith, nat_tests) in rw other (first_row ps)
each (suc m) ps count (suc t) h =
    let less = first_less ps (omega (arith, count)) in
    let same : (suc t == suc m) ≡ (t == m) = by_bool (t == m)
    (λ w. let v : (suc t == suc m) ≡ true = grind (arith, nat_tests, w) in v ∙ sym w)
    (λ w. let v : (suc t == suc m) ≡ false = grind (arith, nat_tests, w) in v ∙ sym w) in
    rw same (each m (first_done ps) (omega (arith, less, count)) t (omega (arith, h)) ∙ rest_rows t (t == m) ps)

pub so_many : (m : ℕ) (ps : List JoinedToken) → length (one_by_one m ps) ≡ suc m
so_many zero ps = refl
so_many (suc m) ps = ap suc (so_many m (first_done ps))

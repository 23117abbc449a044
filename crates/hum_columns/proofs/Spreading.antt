-- Joins that are written one after another do what they did together.
use Rattle.std.proofs.lemmas.Grind.{common_steps}
use Rattle.std.proofs.lemmas.Bool.Decides.{nat_tests}
use Rattle.std.proofs.Common.{◌≡◌, ◌∙◌, refl, sym, ap, ℕ, suc, ◌+◌, Bool, true, false, not}
use Rattle.std.proofs.Common.{List, [], ◌∷◌, length, map, cond, arith}
use Rattle.std.specs.Prelude.{if◌then◌else◌}
use Rattle.std.proofs.lemmas.Bool.{and_parts, false≢true}
use lib.Chars.{codes}
use Rattle.hum_score.specs.declared.spines.Sign.{Sign}
use Rattle.hum_score.specs.declared.spines.Sign.TheVariants.{Join}
use Rattle.hum_score.specs.Sign.{sign_of, is_join, is_exchange}
use Rattle.hum_path.specs.Onward.{beginnings, onward, at_next, put_next, swapped}
use Rattle.hum_score.proofs.Cases.{by_bool}
use Rattle.hum_columns.specs.Spread.{JoinedToken, piece, joins, goes_on, tokens_in, join_alone, first_alone, join_done, first_done, joins_in}

abbrev pub marks : List JoinedToken → List Bool
marks = map (λ p. p.begins)

abbrev pub signs_in : List JoinedToken → List Sign
signs_in pieces = map sign_of (tokens_in pieces)

abbrev pub next_goes_on : List JoinedToken → Bool
next_goes_on [] = false
next_goes_on (p ∷ pieces) = goes_on p

-- Each join begins with a join and goes on with one; what goes on stands beside a join under the
-- same exclusive interpretation. What stands to the left is told.
abbrev pub Formed : Bool → List ℕ → List JoinedToken → List (List ℕ) → Type 0
Formed after_join before (p ∷ pieces) (name ∷ names) =
    (p.begins ≡ true → (joins p ≡ true) × (next_goes_on pieces ≡ true))
    × ((goes_on p ≡ true → (after_join ≡ true) × (before ≡ name))
    × Formed (joins p) name pieces names)
Formed after_join before [] [] = Unit {0}
Formed after_join before _ _ = ⊥

pub formed_length : (b : Bool) (m : List ℕ) (ps : List JoinedToken) (ns : List (List ℕ)) → Formed b m ps ns → length ps ≡ length ns
formed_length b m (p ∷ ps) (n ∷ ns) h = ap suc (formed_length (joins p) n ps ns h.1.1)
formed_length b m ps ns h = grind (arith, nat_tests)

-- what is left when the first join is done: of each join's the first
abbrev pub rest_merged : {X : Type 0} → List JoinedToken → List X → List X
rest_merged [] xs = xs
rest_merged (p ∷ pieces) [] = []
rest_merged (p ∷ pieces) (x ∷ xs) = if goes_on p then rest_merged pieces xs else x ∷ xs

abbrev pub merged : {X : Type 0} → List JoinedToken → List X → List X
merged [] xs = xs
merged (p ∷ pieces) [] = []
merged (p ∷ pieces) (x ∷ xs) = if p.begins then x ∷ rest_merged pieces xs else x ∷ merged pieces xs

pub is_join_at : (s : Sign) → is_join s ≡ true → s ≡ Join
is_join_at = grind (arith, nat_tests)

-- null tokens carry everything on
stars_onward : {X : Type 0} (added : X → X) (b : Bool) (ps : List JoinedToken) (xs : List X) → length ps ≡ length xs
    → onward added (beginnings b (map sign_of (map (λ _. codes "*") ps))) (map sign_of (map (λ _. codes "*") ps)) xs ≡ xs
stars_onward {X} added b (p ∷ ps) (x ∷ xs) h = ap (λ (zs : List X). x ∷ zs) (stars_onward added false ps xs (omega (arith, h)))
stars_onward added b ps xs h = grind (arith, common_steps)

-- the record with the first join alone merges it
rest_onward : {X : Type 0} (added : X → X) (ps : List JoinedToken) (xs : List X) → length ps ≡ length xs
    → onward added (beginnings true (map sign_of (join_alone ps))) (map sign_of (join_alone ps)) xs ≡ rest_merged ps xs
rest_onward added (p ∷ ps) (x ∷ xs) h =
    by_bool (goes_on p)
    (λ w.
    let join = is_join_at (sign_of p.token) (and_parts (joins p) (not p.begins) w).0 in
    rw (w, join) (rest_onward added ps xs (omega (arith, h))))
    (λ w. rw w (stars_onward added true (p ∷ ps) (x ∷ xs) h))
rest_onward added ps xs h = grind (arith, common_steps)

pub first_onward : {X : Type 0} (added : X → X) (b : Bool) (m : List ℕ) (ps : List JoinedToken) (ns : List (List ℕ)) (xs : List X)
    → Formed b m ps ns → length ps ≡ length xs
    → onward added (beginnings false (map sign_of (first_alone ps))) (map sign_of (first_alone ps)) xs ≡ merged ps xs
first_onward {X} added b m (p ∷ ps) (n ∷ ns) (x ∷ xs) f h =
    by_bool p.begins
    (λ w.
    let join = is_join_at (sign_of p.token) (f.0 w).0 in
    rw (w, join) (ap (λ (zs : List X). x ∷ zs) (rest_onward added ps xs (omega (arith, h)))))
    (λ w. rw w (ap (λ (zs : List X). x ∷ zs) (first_onward added (joins p) n ps ns xs f.1.1 (omega (arith, h)))))
first_onward added b m ps ns xs h k = grind (arith, common_steps)

-- the first join, and then what is left
rest_done_onward : {X : Type 0} (added : X → X) (ps : List JoinedToken) (xs : List X)
    → onward added (marks (join_done ps)) (signs_in (join_done ps)) (rest_merged ps xs) ≡ onward added (marks ps) (signs_in ps) xs
rest_done_onward added [] xs = refl
rest_done_onward added (p ∷ ps) [] = cases_empty (join_done (p ∷ ps))
  where
    cases_empty : (qs : List JoinedToken) → onward added (marks qs) (signs_in qs) [] ≡ []
    cases_empty [] = refl
    cases_empty (q ∷ qs) = refl
rest_done_onward {X} added (p ∷ ps) (x ∷ xs) =
    by_bool (goes_on p)
    (λ w.
    let both = and_parts (joins p) (not p.begins) w in
    let join = is_join_at (sign_of p.token) both.0 in
    let later : p.begins ≡ false = unmarked p.begins both.1 in
    rw (w, join, later) (rest_done_onward added ps xs))
    (λ w. rw w refl)
  where
    unmarked : (b : Bool) → not b ≡ true → b ≡ false
    unmarked = grind (arith, nat_tests)

pub done_onward : {X : Type 0} (added : X → X) (b : Bool) (m : List ℕ) (ps : List JoinedToken) (ns : List (List ℕ)) (xs : List X)
    → Formed b m ps ns
    → onward added (marks (first_done ps)) (signs_in (first_done ps)) (merged ps xs) ≡ onward added (marks ps) (signs_in ps) xs
done_onward {X} added b m (p ∷ ps) (n ∷ ns) (x ∷ xs) f =
    grind (arith, nat_tests, done_onward added (joins p) n ps ns xs f.1.1, is_join_at, rest_done_onward)
done_onward added b m ps ns xs h = grind (arith, nat_tests)

-- what is left is formed
rest_formed : (b c : Bool) (m o : List ℕ) (ps : List JoinedToken) (ns : List (List ℕ)) → Formed b m ps ns
    → Formed c o (join_done ps) (rest_merged ps ns)
rest_formed b c m o (p ∷ ps) (n ∷ ns) f = by_test (goes_on p) refl (rest_formed (joins p) c n o ps ns f.1.1)
  where
    by_test : (t : Bool) → goes_on p ≡ t → Formed c o (join_done ps) (rest_merged ps ns)
        → Formed c o (cond t (join_done ps) (p ∷ ps)) (cond t (rest_merged ps ns) (n ∷ ns))
    by_test = grind (arith, nat_tests)
rest_formed b c m o ps ns h = grind (arith, nat_tests)

pub done_formed : (b : Bool) (m : List ℕ) (ps : List JoinedToken) (ns : List (List ℕ)) → Formed b m ps ns
    → Formed b m (first_done ps) (merged ps ns)
done_formed b m (p ∷ ps) (n ∷ ns) f =
    by_test p.begins refl (rest_formed (joins p) false n n ps ns f.1.1) (done_formed (joins p) n ps ns f.1.1)
  where
    by_test : (t : Bool) → p.begins ≡ t → Formed false n (join_done ps) (rest_merged ps ns)
        → Formed (joins p) n (first_done ps) (merged ps ns)
        → Formed b m (cond t (piece false (codes "*") ∷ join_done ps) (p ∷ first_done ps))
        (cond t (n ∷ rest_merged ps ns) (n ∷ merged ps ns))
    by_test true w rest more = (λ e. absurd (false≢true e), (λ e. absurd (false≢true e), rest))
    by_test false w rest more = (λ e. absurd (false≢true (sym w ∙ e)), (f.1.0, more))
done_formed b m ps ns h = grind (arith, nat_tests)

-- one join fewer
pub done_joins : (ps : List JoinedToken) (n : ℕ) → joins_in ps ≡ suc n → joins_in (first_done ps) ≡ n
done_joins [] n h = absurd (omega (arith, h))
done_joins (p ∷ ps) n h = by_test p.begins refl h (λ h. done_joins ps n h)
  where
    rest : (qs : List JoinedToken) → joins_in (join_done qs) ≡ joins_in qs
    rest [] = refl
    rest (q ∷ qs) = by_bool (goes_on q)
        (λ w.
        let later : q.begins ≡ false = unmarked q.begins (and_parts (joins q) (not q.begins) w).1 in
        rw (w, later) (rest qs))
        (λ w. rw w refl)
      where
        unmarked : (b : Bool) → not b ≡ true → b ≡ false
        unmarked = grind (arith, nat_tests)

    by_test : (t : Bool) → p.begins ≡ t → cond t (joins_in ps + 1) (joins_in ps) ≡ suc n
        → (joins_in ps ≡ suc n → joins_in (first_done ps) ≡ n)
        → joins_in (cond t (piece false (codes "*") ∷ join_done ps) (p ∷ first_done ps)) ≡ n
    by_test = grind (arith, nat_tests, rest)

-- Exchanges stand apart from joins.
join_stays : (s : Sign) → is_join s ≡ true → is_exchange s ≡ false
join_stays s h = rw (is_join_at s h) refl

rest_at_next : {X : Type 0} (other : X) (ps : List JoinedToken) (xs : List X)
    → at_next other (signs_in (join_done ps)) (rest_merged ps xs) ≡ at_next other (signs_in ps) xs
rest_at_next other [] xs = refl
rest_at_next {X} other (p ∷ ps) [] = none (join_done (p ∷ ps))
  where
    none : (qs : List JoinedToken) → at_next other (signs_in qs) [] ≡ other
    none [] = refl
    none (q ∷ qs) = refl
rest_at_next other (p ∷ ps) (x ∷ xs) =
    by_bool (goes_on p)
    (λ w. rw (w, join_stays (sign_of p.token) (and_parts (joins p) (not p.begins) w).0) (rest_at_next other ps xs))
    (λ w. rw w refl)

rest_put_next : {X : Type 0} (other : X) (ps : List JoinedToken) (xs : List X)
    → put_next other (signs_in (join_done ps)) (rest_merged ps xs) ≡ rest_merged ps (put_next other (signs_in ps) xs)
rest_put_next other [] xs = refl
rest_put_next {X} other (p ∷ ps) [] = none (join_done (p ∷ ps))
  where
    none : (qs : List JoinedToken) → put_next other (signs_in qs) [] ≡ []
    none [] = refl
    none (q ∷ qs) = refl
rest_put_next other (p ∷ ps) (x ∷ xs) =
    by_bool (goes_on p)
    (λ w. rw (w, join_stays (sign_of p.token) (and_parts (joins p) (not p.begins) w).0) (rw w (rest_put_next other ps xs)))
    (λ w.
    by_bool (is_exchange (sign_of p.token))
    (λ v. rw (w, v) (rw w refl))
    (λ v. rw (w, v) (rw w refl)))

rest_swapped : {X : Type 0} (ps : List JoinedToken) (xs : List X)
    → swapped (signs_in (join_done ps)) (rest_merged ps xs) ≡ rest_merged ps (swapped (signs_in ps) xs)
rest_swapped [] xs = refl
rest_swapped (p ∷ ps) [] = none (join_done (p ∷ ps))
  where
    none : {X : Type 0} (qs : List JoinedToken) → swapped {X = X} (signs_in qs) [] ≡ []
    none [] = refl
    none (q ∷ qs) = refl
rest_swapped (p ∷ ps) (x ∷ xs) =
    by_bool (goes_on p)
    (λ w. rw (w, join_stays (sign_of p.token) (and_parts (joins p) (not p.begins) w).0) (rw w (rest_swapped ps xs)))
    (λ w.
    by_bool (is_exchange (sign_of p.token))
    (λ v. rw (w, v) (rw w refl))
    (λ v. rw (w, v) (rw w refl)))

-- a piece that begins a join
begin_stays : (b : Bool) (m : List ℕ) (p : JoinedToken) (ps : List JoinedToken) (n : List ℕ) (ns : List (List ℕ)) → Formed b m (p ∷ ps) (n ∷ ns)
    → p.begins ≡ true → is_exchange (sign_of p.token) ≡ false
begin_stays b m p ps n ns f w = join_stays (sign_of p.token) (f.0 w).0

done_at_next : {X : Type 0} (other : X) (b : Bool) (m : List ℕ) (ps : List JoinedToken) (ns : List (List ℕ)) (xs : List X) → Formed b m ps ns
    → at_next other (signs_in (first_done ps)) (merged ps xs) ≡ at_next other (signs_in ps) xs
done_at_next {X} other b m (p ∷ ps) (n ∷ ns) (x ∷ xs) f =
    by_bool p.begins
    (λ w. rw (w, begin_stays b m p ps n ns f w) (rest_at_next other ps xs))
    (λ w. rw w (ap (λ (y : X). cond (is_exchange (sign_of p.token)) x y) (done_at_next other (joins p) n ps ns xs f.1.1)))
done_at_next other b m ps ns xs h = grind (arith, nat_tests)

done_put_next : {X : Type 0} (other : X) (b : Bool) (m : List ℕ) (ps : List JoinedToken) (ns : List (List ℕ)) (xs : List X) → Formed b m ps ns
    → put_next other (signs_in (first_done ps)) (merged ps xs) ≡ merged ps (put_next other (signs_in ps) xs)
done_put_next {X} other b m (p ∷ ps) (n ∷ ns) (x ∷ xs) f =
    by_bool p.begins
    (λ w. rw (w, begin_stays b m p ps n ns f w) ((ap (λ (ys : List X). x ∷ ys) (rest_put_next other ps xs))))
    (λ w.
    by_bool (is_exchange (sign_of p.token))
    (λ v. rw (w, v) refl)
    (λ v. rw (w, v) ((ap (λ (ys : List X). x ∷ ys) (done_put_next other (joins p) n ps ns xs f.1.1)))))
done_put_next other b m ps ns xs h = grind (arith, nat_tests)

-- the first join, and then the exchange: as the other way round
pub done_swapped : {X : Type 0} (b : Bool) (m : List ℕ) (ps : List JoinedToken) (ns : List (List ℕ)) (xs : List X) → Formed b m ps ns
    → swapped (signs_in (first_done ps)) (merged ps xs) ≡ merged ps (swapped (signs_in ps) xs)
done_swapped {X} b m (p ∷ ps) (n ∷ ns) (x ∷ xs) f =
    by_bool p.begins
    (λ w. rw (w, begin_stays b m p ps n ns f w) ((ap (λ (ys : List X). x ∷ ys) (rest_swapped ps xs))))
    (λ w.
    by_bool (is_exchange (sign_of p.token))
    (λ v.
    let other = done_at_next x (joins p) n ps ns xs f.1.1 in
    let back = done_put_next x (joins p) n ps ns xs f.1.1 in
    rw (w, v) (rw (other, back) refl))
    (λ v. rw (w, v) ((ap (λ (ys : List X). x ∷ ys) (done_swapped (joins p) n ps ns xs f.1.1)))))
done_swapped b m ps ns xs h = grind (arith, nat_tests)

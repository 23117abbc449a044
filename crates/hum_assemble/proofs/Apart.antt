-- Records of one source after another, each alone.
use Rattle.std.proofs.lemmas.Grind.{common_steps}
use Rattle.std.proofs.lemmas.Bool.Decides.{nat_tests}
use Rattle.std.proofs.Common.{◌≡◌, ◌∙◌, refl, ap, ℕ, suc, ◌+◌, ◌≤◌, Bool, true}
use Rattle.std.proofs.lemmas.Bool.{eq-eqb}
use Rattle.std.proofs.Common.{false, List, [], ◌∷◌, ◌++◌, length, arith}
use Rattle.std.proofs.Common.{map, length-append}
use Rattle.std.specs.Prelude.{Option, None, Some, ◌==◌, replicate}
use Rattle.std.specs.List.{list_any}
use Rattle.hum_score.specs.Row.{Row}
use Rattle.hum_score.specs.Spines.{Path, after}
use Rattle.hum_score.specs.InOrder.{Follow}
use Rattle.hum_stage.specs.declared.faults.End as end
use Rattle.hum_assemble.specs.declared.places.Place.{Place}
use Rattle.hum_assemble.specs.Source.{Source, place, is_inside}
use Rattle.hum_assemble.specs.Places.{rank, is_over, is_shared}
use Rattle.hum_assemble.specs.Merge.{all_moved}
use Rattle.hum_assemble.specs.Taking.{is_at}
use Rattle.hum_assemble.specs.Groups.{alone, unit_alone, each_alone, adds}
use Rattle.hum_assemble.proofs.Written.{Meets, meets_step, parts_at, Sees, AllSee}
use Rattle.hum_assemble.proofs.Does.{Does, Both, does_nothing, does_then, does_more, does_weaken}

-- A source whose next record is asked for, and the same when that was given.
abbrev pub waiting : Path → Row → List Row → Option end.End → Source
waiting path row rows ended =
    record { path = path; due = true; coming = row ∷ rows; ended = ended }

abbrev pub gone : Path → Row → List Row → Option end.End → Source
gone path row rows ended = record {
  path = after path row;
  due = is_inside (after path row);
  coming = rows;
  ended = ended;
}

self_at : (n : ℕ) → (n == n) ≡ true
self_at n = eq-eqb n n refl

before_parts : (q : Place) (done ss : List Source) → AllSee true (suc (rank q)) done
    → parts_at true true q (done ++ ss) ≡ replicate (length done) None ++ parts_at true true q ss
before_parts q [] ss h = refl
before_parts q (s ∷ done) ss h = grind (arith, nat_tests, before_parts q done ss h.1)

before_moved : (q : Place) (done ss : List Source) → AllSee true (suc (rank q)) done
    → all_moved true true q (done ++ ss) ≡ done ++ all_moved true true q ss
before_moved q [] ss h = refl
before_moved q (s ∷ done) ss h = grind (arith, nat_tests, before_moved q done ss h.1)

behind_parts : (q : Place) (ss : List Source)
    → parts_at false true q ss ≡ replicate (length ss) None
behind_parts q [] = refl
behind_parts q (s ∷ ss) = ap (λ (os : List (Option Row)). None ∷ os) (behind_parts q ss)

behind_moved : (q : Place) (ss : List Source) → all_moved false true q ss ≡ ss
behind_moved q [] = refl
behind_moved q (s ∷ ss) = ap (λ (xs : List Source). s ∷ xs) (behind_moved q ss)

pub see_more : (k n : ℕ) (ss : List Source) → k ≤ n → AllSee true n ss → AllSee true k ss
see_more k n [] l h = tt
see_more k n (s ∷ ss) l h = grind (arith, nat_tests, see_more k n ss l h.1)

pub see_append : (going : Bool) (n : ℕ) (xs ys : List Source) → AllSee going n xs → AllSee going n ys
    → AllSee going n (xs ++ ys)
see_append = grind (arith, common_steps)

any_append : (test : Source → Bool) (xs ys : List Source) → list_any test ys ≡ true
    → list_any test (xs ++ ys) ≡ true
any_append = grind (arith, common_steps)

module _ (q : Place) (path : Path) (row : Row) (rows : List Row) (ended : Option end.End)
    (done behind : List Source) where
  alone_parts : place path row ≡ q → is_shared q ≡ false → AllSee true (suc (rank q)) done
      → parts_at true true q (done ++ waiting path row rows ended ∷ behind)
      ≡ alone (length done) (length behind) row
  alone_parts = grind (arith, nat_tests, before_parts, self_at, behind_parts)

  alone_moved : place path row ≡ q → is_shared q ≡ false → AllSee true (suc (rank q)) done
      → all_moved true true q (done ++ waiting path row rows ended ∷ behind)
      ≡ done ++ gone path row rows ended ∷ behind
  alone_moved = grind (arith, nat_tests, before_moved, self_at, behind_moved)

  sees_waiting : place path row ≡ q → Follow path (row ∷ rows)
      → Sees true (rank q) (waiting path row rows ended)
  sees_waiting at f = record { known = refl; later = rw at (omega arith); follow = f }

  pub alone_step : (ps : List (List (Option Row))) → place path row ≡ q → is_shared q ≡ false
      → is_over q ≡ false → Follow path (row ∷ rows) → AllSee true (suc (rank q)) done
      → AllSee true (rank q) behind → Meets (done ++ gone path row rows ended ∷ behind) ps
      → Meets (done ++ waiting path row rows ended ∷ behind) (alone (length done) (length behind) row ∷ ps)
  alone_step ps at sh o f h w m =
      rw (← alone_parts at sh h)
      (meets_step true q (done ++ waiting path row rows ended ∷ behind) ps
      (any_append (λ s. s.due) done (waiting path row rows ended ∷ behind) refl) o
      (see_append true (rank q) done (waiting path row rows ended ∷ behind)
      (see_more (rank q) (suc (rank q)) done (omega arith) h) (sees_waiting at f, w))
      (any_append (is_at true q) done (waiting path row rows ended ∷ behind) (rw (at, self_at (rank q)) refl))
      (rw (alone_moved at sh h) m))

-- What a source has in a round: a unit that it gives, whatever stands beside it.
abbrev pub Leaves : {V : Type 0} → (Source → V → Type 0) → V → List Source → List Source
    → List Source → Type 0
Leaves Q v done behind ss = (s : Source) × (ss ≡ done ++ s ∷ behind) × Q s v

pub record HasUnit {V : Type 0} (k : ℕ) (Q : Source → V → Type 0) (unit : List Row) (s : Source)
    (v : V) : Type 0 where
  pub sees : Sees true k s
  pub gives : (done behind : List Source) → AllSee true (suc k) done → AllSee true k behind
      → Does (unit_alone (length done) (length behind) unit) (done ++ s ∷ behind) (Leaves Q v done behind)

abbrev pub MayGive : {V : Type 0} → ℕ → (Source → V → Type 0) → Option (List Row) → Source → V
    → Type 0
MayGive k Q None s v = Q s v
MayGive k Q (Some unit) s v = HasUnit k Q unit s v

module _ {V : Type 0} (k : ℕ) (f : V → Option (List Row)) (Q : Source → V → Type 0)
    (calm : (s : Source) (v : V) → Q s v → Sees true (suc k) s) where
  abbrev pub Give : List Source → List V → Type 0
  Give = Both (λ s v. MayGive k Q (f v) s v)

  may_see : (o : Option (List Row)) (s : Source) (v : V) → MayGive k Q o s v → Sees true k s
  may_see = grind (arith, nat_tests)

  give_see : (ss : List Source) (vs : List V) → Give ss vs → AllSee true k ss
  give_see (s ∷ ss) (v ∷ vs) h = (may_see (f v) s v h.0, give_see ss vs h.1)
  give_see ss vs h = grind (arith, nat_tests)

  give_length : (ss : List Source) (vs : List V) → Give ss vs → length ss ≡ length (map f vs)
  give_length (s ∷ ss) (v ∷ vs) h = ap suc (give_length ss vs h.1)
  give_length ss vs h = grind (arith, nat_tests)

  abbrev pub Given : List V → List Source → List Source → Type 0
  Given vs done ss = (rest : List Source) × (ss ≡ done ++ rest) × Both Q rest vs

  append_one : (done : List Source) (s : Source) (ss : List Source)
      → (done ++ s ∷ []) ++ ss ≡ done ++ s ∷ ss
  append_one = grind (arith, common_steps)

  length_one : (done : List Source) (s : Source) → length (done ++ s ∷ []) ≡ length done + 1
  length_one done s = length-append done (s ∷ [])

  abbrev pub Rest : List V → V → List Source → List Source → Type 0
  Rest vs v done ss = (x : Source) → Q x v
      → Does (each_alone (length (done ++ x ∷ [])) (map f vs)) ((done ++ x ∷ []) ++ ss)
      (Given vs (done ++ x ∷ []))

  rest_does : (done ss : List Source) (v : V) (vs : List V) → Rest vs v done ss
      → (x : Source) → Q x v
      → Does (each_alone (length done + 1) (map f vs)) (done ++ x ∷ ss) (Given (v ∷ vs) done)
  rest_does done ss v vs ih x q =
      does_weaken (each_alone (length done + 1) (map f vs)) (done ++ x ∷ ss)
      (Given vs (done ++ x ∷ [])) (Given (v ∷ vs) done)
      (rw (append_one done x ss, length_one done x) at (ih x q))
      (λ b p. (x ∷ p.0, p.1 ∙ append_one done x p.0, (q, p.2)))

  by_option : (done : List Source) (s : Source) (ss : List Source) (v : V) (vs : List V)
      (o : Option (List Row)) → MayGive k Q o s v
      → AllSee true (suc k) done → Give ss vs → Rest vs v done ss
      → Does (each_alone (length done) (o ∷ map f vs)) (done ++ s ∷ ss) (Given (v ∷ vs) done)
  by_option done s ss v vs None m h g ih = rest_does done ss v vs ih s m
  by_option done s ss v vs (Some unit) m h g ih =
      rw (← give_length ss vs g)
      (does_then (unit_alone (length done) (length ss) unit) (each_alone (length done + 1) (map f vs))
      (done ++ s ∷ ss) (Leaves Q v done ss) (Given (v ∷ vs) done)
      (m.gives done ss h (give_see ss vs g))
      (λ b p. rw p.1 (rest_does done ss v vs ih p.0 p.2)))

  pub each_does : (done ss : List Source) (vs : List V) → AllSee true (suc k) done → Give ss vs
      → Does (each_alone (length done) (map f vs)) (done ++ ss) (Given vs done)
  each_does done (s ∷ ss) (v ∷ vs) h g =
      by_option done s ss v vs (f v) g.0 h g.1
      (λ x q. each_does (done ++ x ∷ []) ss vs
      (see_append true (suc k) done (x ∷ []) h (calm x v q, tt)) g.1)
  each_does done ss vs h k = grind (arith, nat_tests)

-- A unit of one record.
pub single_unit : {V : Type 0} (Q : Source → V → Type 0) (v : V) (q : Place) (path : Path) (row : Row)
    (rows : List Row) (ended : Option end.End)
    → place path row ≡ q → is_shared q ≡ false → is_over q ≡ false → Follow path (row ∷ rows)
    → adds row ≡ false → Q (gone path row rows ended) v
    → HasUnit (rank q) Q (row ∷ []) (waiting path row rows ended) v
single_unit Q v q path row rows ended at sh o f a e = record {
  sees = record { known = refl; later = rw at (omega arith); follow = f };
  gives = λ done behind h w.
      rw a
      (does_more (alone (length done) (length behind) row) [] true
      (done ++ waiting path row rows ended ∷ behind) (done ++ gone path row rows ended ∷ behind)
      (Leaves Q v done behind)
      (λ qs m. alone_step q path row rows ended done behind qs at sh o f h w m)
      (does_nothing _ (Leaves Q v done behind) (gone path row rows ended, refl, e)));
}

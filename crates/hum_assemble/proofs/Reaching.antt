-- The merge after some records.
use Rattle.std.proofs.lemmas.Bool.Decides.{nat_tests}
use Rattle.std.proofs.Common.{◌≡◌, ◌∙◌, refl, sym, ap, ℕ, zero, suc, ◌+◌, ◌≤◌, ◌<◌, Bool}
use Rattle.std.proofs.Common.{true, false, List, [], ◌∷◌, ◌++◌, length, arith, map}
use Rattle.std.specs.Prelude.{Some}
use Rattle.std.specs.Prelude.{slice_get}
use Rattle.hum_score.specs.Row.{Row}
use Rattle.hum_assemble.specs.declared.places.Place.{Place}
use Rattle.hum_assemble.specs.declared.places.Next.TheVariants.{Gives}
use Rattle.hum_assemble.specs.Source.{Source}
use Rattle.hum_assemble.specs.Change.{Change, changed, changed_at, IsOpenAt, Input, had, IsOpenInput}
use Rattle.hum_assemble.specs.Change.{had_at}
use Rattle.hum_assemble.specs.Merge.{Merge, made, all_moved, ahead, given_row, given_on}
use Rattle.hum_assemble.specs.Round.{any_due}
use Rattle.hum_assemble.specs.Meaning.{total, all_given, rest, opening, begun}
use Rattle.hum_assemble.specs.Meaning.{output}
use Rattle.hum_assemble.specs.Standing.{Reaches}
use Rattle.hum_assemble.proofs.Moving.{all_moves, due_same}
use Rattle.hum_assemble.proofs.Growing.{changed_in, ahead_kept, is_waiting, made_same}
use Rattle.hum_assemble.proofs.Steps.{Doing, Going, Resting, doing, is_giving, is_given, still_open}
use Rattle.hum_assemble.proofs.Steps.{all_ended, all_going, all_resting, takes_one}

-- One record given before a change, or after it.
pub given_kept : (j : ℕ) (change : Change) (m : Merge) (p : Place) → IsOpenAt j m.sources
    → ahead m ≡ Gives p
    → (given_on p (changed_in j change m) ≡ changed_in j change (given_on p m)) × (given_row p (changed_in j change m) ≡ given_row p m)
given_kept j change m p i h =
    let g = is_given (any_due m.sources) m.sources m.given p h in
    let d = due_same j change m.sources in
    let a = all_moves true (any_due m.sources) p j change m.sources g.some i g.known in (
      ap (λ (b : Bool). record { sources = all_moved true b p (changed_at j change m.sources); given = m.given + 1 }) d
          ∙ ap (λ (x : List Source). record { sources = x; given = m.given + 1 }) a.moved_are,
      ap (λ (b : Bool). made b p (changed_at j change m.sources)) d ∙ made_same (any_due m.sources) p j change m.sources g.some i g.known,
    )

pub gives_kept : (j : ℕ) (change : Change) (m : Merge) (p : Place) → IsOpenAt j m.sources
    → ahead m ≡ Gives p → ahead (changed_in j change m) ≡ Gives p
gives_kept j change m p i h = ahead_kept j change m i (ap is_waiting h) ∙ h

pub open_on : (j : ℕ) (m : Merge) (p : Place) → IsOpenAt j m.sources
    → IsOpenAt j (given_on p m).sources
open_on j m p i = still_open true (any_due m.sources) p j m.sources i

-- What was given stays.
pub reaches_kept : (n j : ℕ) (change : Change) (m s : Merge) → IsOpenAt j m.sources → Reaches n m s
    → Reaches n (changed_in j change m) (changed_in j change s)
reaches_kept zero j change m s i r = ap (changed_in j change) r
reaches_kept (suc n) j change m s i r =
    let k = given_kept j change m r.0 i r.1 in
    (r.0, gives_kept j change m r.0 i r.1, rw k.0 (reaches_kept n j change (given_on r.0 m) s (open_on j m r.0 i) r.2))

pub reaches_ended : (n : ℕ) (m s : Merge) → Reaches n m s
    → map (λ x. x.ended) s.sources ≡ map (λ x. x.ended) m.sources
reaches_ended zero m s r = ap (λ (x : Merge). map (λ y. y.ended) x.sources) (sym r)
reaches_ended (suc n) m s r = reaches_ended n (given_on r.0 m) s r.2 ∙ all_ended true (any_due m.sources) r.0 m.sources

pub reaches_given : (n : ℕ) (m s : Merge) → Reaches n m s → s.given ≡ m.given + n
reaches_given zero m s r = let e = ap (λ (x : Merge). x.given) r in omega (arith, e)
reaches_given (suc n) m s r = let e = reaches_given n (given_on r.0 m) s r.2 in omega (arith, e)

pub reaches_more : (n : ℕ) (m s : Merge) (p : Place) → Reaches n m s → ahead s ≡ Gives p
    → Reaches (suc n) m (given_on p s)
reaches_more zero m s p r h = (p, ap ahead r ∙ h, ap (given_on p) r)
reaches_more (suc n) m s p r h = (r.0, r.1, reaches_more n (given_on r.0 m) s p r.2 h)

-- What is given at the merge that is reached, and after it.
pub record At (n : ℕ) (m s : Merge) : Type 0 where
  pub going : (p : Place) → ahead s ≡ Gives p
      → (slice_get (all_given m) n ≡ Some (given_row p s)) × (n < length (all_given m))
  pub resting : is_giving (ahead s) ≡ false → (length (all_given m) ≡ n) × (rest m ≡ s)

first_at : (m s : Merge) → m ≡ s → At 0 m s
first_at m s r = record {
  going = λ p h. let a = (all_going m p (ap ahead r ∙ h)).0 in rw (a, r) (refl, omega arith);
  resting = λ h. let a = all_resting m (ap (λ (x : Merge). is_giving (ahead x)) r ∙ h) in (ap length a.0, a.1 ∙ r);
}

pub at : (n : ℕ) (m s : Merge) → Reaches n m s → At n m s
at zero m s r = first_at m s r
at (suc n) m s r =
    let ih = at n (given_on r.0 m) s r.2 in
    let a = all_going m r.0 r.1 in
    record {
      going = λ p h. let w = ih.going p h in rw a.0 (w.0, (let v = w.1 in omega (arith, v)));
      resting = λ h. let w = ih.resting h in (rw a.0 (ap suc w.0), a.1 ∙ w.1);
    }

-- The opening merge with one record more.
begun_had : (change : Change) (x : Input) → begun (had change x) ≡ changed change (begun x)
begun_had = grind (arith, nat_tests)

begun_all : (j : ℕ) (change : Change) (xs : List Input)
    → map begun (had_at j change xs) ≡ changed_at j change (map begun xs)
begun_all j change [] = refl
begun_all zero change (x ∷ xs) = ap (λ (s : Source). s ∷ map begun xs) (begun_had change x)
begun_all (suc j) change (x ∷ xs) = ap (λ (ss : List Source). begun x ∷ ss) (begun_all j change xs)

pub opening_had : (j : ℕ) (change : Change) (xs : List Input)
    → opening (had_at j change xs) ≡ changed_in j change (opening xs)
opening_had j change xs = ap (λ (ss : List Source). record { sources = ss; given = 0 }) (begun_all j change xs)

-- What was given for some inputs is a prefix of what is given for more.
front_resting : (j : ℕ) (change : Change) (m : Merge) → is_giving (ahead m) ≡ false
    → (more : List Row) × (all_given m ++ more ≡ all_given (changed_in j change m))
front_resting j change m r = (all_given (changed_in j change m), rw (all_resting m r).0 refl)

front_going : (j : ℕ) (change : Change) (m : Merge) (p : Place) → IsOpenAt j m.sources
    → ahead m ≡ Gives p
    → ((more : List Row) × (all_given (given_on p m) ++ more ≡ all_given (changed_in j change (given_on p m))))
    → (more : List Row) × (all_given m ++ more ≡ all_given (changed_in j change m))
front_going j change m p i h w =
    let k = given_kept j change m p i h in
    let a = (all_going m p h).0 in
    let b = (all_going (changed_in j change m) p (gives_kept j change m p i h)).0 in (
      w.0,
      ap (λ (x : List Row). x ++ w.0) a ∙ (ap (λ (x : List Row). given_row p m ∷ x) w.1
          ∙ (ap (λ (x : Row). x ∷ all_given (changed_in j change (given_on p m))) (sym k.1)
          ∙ (ap (λ (x : Merge). given_row p (changed_in j change m) ∷ all_given x) (sym k.0) ∙ sym b))),
    )

front_doing : (k j : ℕ) (change : Change) (m : Merge) → IsOpenAt j m.sources → total m.sources ≤ k
    → Doing m
    → ((m : Merge) → IsOpenAt j m.sources → total m.sources < k → (more : List Row) × (all_given m ++ more ≡ all_given (changed_in j change m)))
    → (more : List Row) × (all_given m ++ more ≡ all_given (changed_in j change m))
front_doing k j change m i h (Resting r) ih = front_resting j change m r
front_doing k j change m i h (Going p e) ih = front_going j change m p i e
    (ih (given_on p m) (open_on j m p i) (let t = takes_one m p e in omega (arith, t, h)))

front_within : (k j : ℕ) (change : Change) (m : Merge) → IsOpenAt j m.sources → total m.sources ≤ k
    → (more : List Row) × (all_given m ++ more ≡ all_given (changed_in j change m))
front_within zero j change m i h = front_doing 0 j change m i h (doing m) (λ n o l. absurd (omega (arith, l)))
front_within (suc k) j change m i h = front_doing (suc k) j change m i h (doing m) (λ n o l. front_within k j change n o (omega (arith, l)))

pub front : (j : ℕ) (change : Change) (m : Merge) → IsOpenAt j m.sources
    → (more : List Row) × (all_given m ++ more ≡ all_given (changed_in j change m))
front j change m i = front_within (total m.sources) j change m i (omega arith)

-- What is given for the inputs so far is a prefix of what is given with one record more, or an end, of one of them.
begun_open : (j : ℕ) (xs : List Input) → IsOpenInput j xs → IsOpenAt j (map begun xs)
begun_open j [] i = absurd i
begun_open zero (x ∷ xs) i = i
begun_open (suc j) (x ∷ xs) i = begun_open j xs i

pub output_grows : (j : ℕ) (change : Change) (xs : List Input) → IsOpenInput j xs
    → (more : List Row) × (output xs ++ more ≡ output (had_at j change xs))
output_grows j change xs i =
    let f = front j change (opening xs) (begun_open j xs i) in
    (f.0, f.1 ∙ ap all_given (sym (opening_had j change xs)))

-- How many records can still be taken before the next is put, and how many are given in all.
use Rattle.std.proofs.lemmas.Bool.Decides.{nat_tests}
use Rattle.std.proofs.Common.{◌≡◌, ap, ℕ, zero, suc, ◌+◌, ◌≤◌, Bool, List, length, arith}
use Rattle.hum_assemble.specs.declared.places.Next as next
use Rattle.hum_assemble.specs.declared.places.Next.TheVariants.{Gives, Refused, Wants}
use Rattle.hum_assemble.specs.declared.places.Next.TheVariants.{Over as NothingMore}
use Rattle.hum_assemble.specs.Merge.{Merge, ahead, given_on}
use Rattle.hum_assemble.specs.Change.{Input}
use Rattle.hum_assemble.specs.Meaning.{gives, total, all_given, Moment, all_of, output}
use Rattle.hum_assemble.specs.Meaning.{held_in, held_at}
use Rattle.hum_assemble.specs.Standing.{Reaches, Standing}
use Rattle.hum_assemble.proofs.Steps.{is_giving, doing, Going, Resting, gives_going, gives_resting}
use Rattle.hum_assemble.proofs.Steps.{all_going, all_resting}
use Rattle.hum_assemble.proofs.Standings.{reached_on}
use Rattle.hum_assemble.proofs.Calls.{has_room}

few : (n : ℕ) (m : Merge) → length (gives n m) ≤ n
few zero m = omega arith
few (suc n) m = grind (arith, nat_tests, few n, doing m, gives_going n m, gives_resting (suc n) m)

by_next : (m : Merge) (a : next.Next) → ahead m ≡ a → length (all_given m) ≤ held_in m
by_next m (Gives p) e = rw e (few (total m.sources) m)
by_next m (Wants j) e = rw e (few (total m.sources) m)
by_next m (Refused rule) e = rw (e, (all_resting m (ap is_giving e)).0) (omega arith)
by_next m NothingMore e = rw (e, (all_resting m (ap is_giving e)).0) (omega arith)

reached_length : (n : ℕ) (m s : Merge) → Reaches n m s
    → length (all_given m) ≡ n + length (all_given s)
reached_length zero m s r = grind (arith, nat_tests)
reached_length (suc n) m s r =
    grind (arith, nat_tests, reached_length n (given_on r.0 m) s r.2, all_going m r.0 r.1)

-- At most as many as are held.
pub few_more : (stage : ℕ) (kept : Merge) (spent : Bool) (t : Moment) → Standing stage kept spent t
    → length (all_of t) ≤ t.given + held_at t
few_more = grind (arith, nat_tests, reached_on, reached_length, by_next)

-- No more is given than a score may have.
within : (n : ℕ) (m : Merge) → m.given ≤ 4294967295 → m.given + length (gives n m) ≤ 4294967295
within zero m h = omega arith
within (suc n) m h = elim (doing m) [
  | Going p e ↦
      let r = has_room m.sources m.given p e in
      let k = within n (given_on p m) (omega (arith, r)) in
      rw (gives_going n m p e) (omega (arith, k))
  | Resting r ↦ rw (gives_resting (suc n) m r) (omega (arith, h))
]

pub few_in_all : (xs : List Input) → length (output xs) ≤ 4294967295
few_in_all = grind (arith, nat_tests, within)

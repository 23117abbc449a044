-- Outcomes of the records that were decided, and of those that wait.
use Rattle.std.proofs.lemmas.Grind.{common_steps}
use Rattle.std.proofs.Common.{◌≡◌, ◌∙◌, refl, sym, ap, ℕ, ◌+◌, ◌≤◌, Bool}
use Rattle.std.proofs.Common.{List, [], ◌∷◌, ◌++◌, map, length, append_assoc}
use Rattle.std.proofs.Common.{arith, Option}
use Rattle.std.proofs.lemmas.List.{take_all}
use Rattle.std.proofs.lemmas.Bool.Decides.{nat_tests}
use Rattle.hum_score.specs.Row.{Row}
use Rattle.hum_score.specs.Score.{passed, IsOpen}
use Rattle.hum_stage.specs.Outcome.{Outcome, Undecided, refusal, waiting}
use Rattle.hum_stage.specs.Outcome.{held_of}
use Rattle.hum_stage.specs.Look.{Look, IsSteady, outcome_at, outcome_of, outcomes_from}
use Rattle.hum_stage.specs.LookLaws.{outcome_stays}
use Rattle.hum_stage.specs.Lagging.{becomes, flat, Stops}

undecided_not : (o : Option Row) (x : Outcome) → x ≡ becomes o → x ≡ Undecided → ⊥
undecided_not o x e u = let k : becomes o ≡ Undecided = sym e ∙ u in cc

-- With one record more, those that were decided become the same.
pub front_stays : (room : ℕ) (look : Look) (past front waits : List Row) (outs : List (Option Row))
    (rest : List Outcome) (next : Row) → IsSteady look
    → IsOpen (next ∷ passed past (front ++ waits)) → length front ≡ length outs
    → outcomes_from room look past (front ++ waits) ≡ map becomes outs ++ rest
    → outcomes_from room look past (front ++ (waits ++ next ∷ [])) ≡ map becomes outs ++
    outcomes_from room look (passed past front) (waits ++ next ∷ [])
front_stays room look past (row ∷ front) waits (o ∷ outs) rest next steady score len e =
    let first : outcome_at room look past row (front ++ waits) ≡ becomes o = cc in
    let tail : outcomes_from room look (row ∷ past) (front ++ waits) ≡ map becomes outs ++ rest =
    cc in
    let same = outcome_stays room look past row (front ++ waits) next steady score
    (undecided_not o _ first) in
    let ih = front_stays room look (row ∷ past) front waits outs rest next steady score
    (omega (arith, len)) tail in
    let more : outcome_at room look past row (front ++ (waits ++ next ∷ [])) ≡ becomes o =
    grind (arith, nat_tests, append_assoc) in
    cc
front_stays room look past front waits outs rest next h k w e = grind (arith, common_steps)

-- the outcome of a record with no more behind it than there is room for
pub within_room : (room : ℕ) (look : Look) (past : List Row) (row : Row) (rows : List Row)
    → length rows ≤ room → outcome_at room look past row rows ≡ outcome_of room (length rows)
    (look past row rows)
within_room room look past row rows few = rw (take_all room rows few) refl

-- the fault and what is held, by the records that were decided and the rest
pub refusal_behind : (line : ℕ) (outs : List (Option Row)) (rest : List Outcome)
    → refusal line (map becomes outs ++ rest) ≡ refusal (line + length outs) rest
refusal_behind line [] rest = ap (λ (n : ℕ). refusal n rest) (omega arith)
refusal_behind line (o ∷ outs) rest = grind (arith, nat_tests, refusal_behind (line + 1) outs rest)

pub held_rest : (g : ℕ) (ended : Bool) (rest : List Outcome) → Stops rest
    → held_of g ended rest ≡ waiting ended rest
held_rest = grind (arith, nat_tests)

-- Records whose lists were given aren't held, those behind them are.
pub held_behind : (ended : Bool) (gone : List (Option Row)) (rest : List Outcome) (n : ℕ)
    → held_of 0 ended rest ≡ n
    → held_of (length (flat gone)) ended (map becomes gone ++ rest) ≡ n
held_behind ended [] rest n h = h
held_behind ended (o ∷ gone) rest n h = grind (arith, nat_tests, held_behind ended gone rest n h)

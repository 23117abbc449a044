-- What commands make of records where they refuse none, and two of them behind one another.
use Rattle.std.proofs.lemmas.Grind.{common_steps}
use Rattle.std.proofs.lemmas.Bool.Decides.{nat_tests}
use Rattle.std.proofs.Common.{◌≡◌, ◌∙◌, refl, sym, ap, ℕ, ◌+◌, List, [], ◌∷◌, ◌++◌, arith}
use Rattle.std.specs.Prelude.{Option, None, Result, Ok, Err}
use Rattle.hum_score.specs.Row.{Row}
use Rattle.hum_score.specs.Spines.{Path, after}
use Rattle.hum_score.specs.Score.{passed, path_after, IsOpen}
use Rattle.hum_score.specs.InOrder.{through, Follow, IsScore}
use Rattle.hum_stage.specs.Order.{open_passed}
use Rattle.hum_words.specs.declared.commands.Command.{Command}
use Rattle.hum_stage.specs.declared.faults.Rule.{Rule}
use Rattle.hum_stage.specs.declared.faults.Fault.{Fault}
use Rattle.hum_stage.specs.declared.faults.End.{End}
use Rattle.hum_stage.specs.declared.faults.End.TheVariants.{Closed}
use Rattle.hum_stage.specs.Outcome.{settled, refusal}
use Rattle.hum_stage.specs.Meaning.{KeepsScore, output, own_fault, end_of, fault_at}
use Rattle.hum_stage.specs.Decided.{Decision, outcome, decisions, limit, at_once}
use Rattle.hum_stage.specs.Laws.{limit_same, decisions_decided}
use Rattle.hum_stage.proofs.Scores.{path_passed}
use Rattle.hum_laws.specs.declared.given.Given.{Given}
use Rattle.hum_laws.specs.Piped.{IsAlone, IsPiped}

abbrev pub made_by : Result (List Row) Rule → List Row
made_by (Ok rows) = rows
made_by (Err rule) = []

abbrev pub Taken : Result (List Row) Rule → Type 0
Taken (Ok rows) = Unit {0}
Taken (Err rule) = ⊥

-- what records become, one after another
abbrev pub out : Decision → List Row → List Row → List Row
out decide past [] = []
out decide past (row ∷ rows) = made_by (decide past row) ++ out decide (row ∷ past) rows

-- and none is refused
abbrev pub Fine : Decision → List Row → List Row → Type 0
Fine decide past [] = Unit {0}
Fine decide past (row ∷ rows) = Taken (decide past row) × Fine decide (row ∷ past) rows

pub taken : (d : Result (List Row) Rule) → Taken d → d ≡ Ok (made_by d)
taken = grind (arith, nat_tests)

fine_from : (decide : Decision) (line : ℕ) (past rows : List Row) → refusal line (decisions decide past rows) ≡ None
    → Fine decide past rows × (settled (decisions decide past rows) ≡ out decide past rows)
fine_from decide line past [] h = (tt, refl)
fine_from decide line past (row ∷ rows) h = one (decide past row) h (λ e. fine_from decide (line + 1) (row ∷ past) rows e)
  where
    one : (d : Result (List Row) Rule) → refusal line (outcome d ∷ decisions decide (row ∷ past) rows) ≡ None
        → (refusal (line + 1) (decisions decide (row ∷ past) rows) ≡ None
        → Fine decide (row ∷ past) rows × (settled (decisions decide (row ∷ past) rows) ≡ out decide (row ∷ past) rows))
        → (Taken d × Fine decide (row ∷ past) rows)
        × (settled (outcome d ∷ decisions decide (row ∷ past) rows) ≡ made_by d ++ out decide (row ∷ past) rows)
    one = grind (arith, nat_tests)

-- what a stage of such a command gives where it refuses nothing
pub record RunsTo (decide : Decision) (p rows : List Row) : Type 0 where
  pub fine : Fine decide [] p
  pub gives : rows ≡ out decide [] p

pub runs_to : (stage : ℕ) (command : Command) (decide : Decision) (p rows : List Row) → rows ≡ output (at_once stage command decide) p
    → own_fault (at_once stage command decide) p ≡ None → RunsTo decide p rows
runs_to stage command decide p rows is none =
    let sound : refusal 1 (limit 4294967295 (decisions decide [] p)) ≡ None = no_refusal (refusal 1 (limit 4294967295 (decisions decide [] p))) none in
    let same = limit_same 4294967295 1 (decisions decide [] p) (decisions_decided decide [] p) sound in
    let k = fine_from decide 1 [] p (rw same at sound) in
    record { fine = k.0; gives = is ∙ ap settled same ∙ k.1 }
  where
    no_refusal : (o : Option (ℕ × Rule)) → fault_at stage command o ≡ None → o ≡ None
    no_refusal = grind (arith, nat_tests)

pub closed_by : (end : End) (own : Option Fault) → end_of end own ≡ Closed → (end ≡ Closed) × (own ≡ None)
closed_by = grind (arith, nat_tests)

pub alone_runs : (stage : ℕ) (command : Command) (decide : Decision) (p : List Row) (given : Given) → IsAlone (at_once stage command decide) p given
    → given.end ≡ Closed → RunsTo decide p given.records.items
alone_runs = grind (arith, nat_tests, runs_to, closed_by)

-- the second behind the first, and what stands between them is a score
pub record RunsBehind (first second : Decision) (p rows : List Row) : Type 0 where
  pub one : Fine first [] p
  pub two : Fine second [] (out first [] p)
  pub gives : rows ≡ out second [] (out first [] p)
  pub between : IsScore (out first [] p)

pub piped_runs : (stage next : ℕ) (command other : Command) (first second : Decision) (p : List Row) (given : Given)
    → IsPiped (at_once stage command first) (at_once next other second) p given
    → KeepsScore (at_once stage command first).outcomes → IsScore p → given.end ≡ Closed → RunsBehind first second p given.records.items
piped_runs = grind (arith, nat_tests, closed_by, runs_to)

-- lists that are put together
pub out-append : (decide : Decision) (past p q : List Row) → out decide past (p ++ q) ≡ out decide past p ++ out decide (passed past p) q
out-append decide past [] q = refl
out-append decide past (row ∷ p) q = grind (arith, common_steps, out-append decide (row ∷ past) p q)

pub fine_parts : (decide : Decision) (past p q : List Row) → Fine decide past (p ++ q) → Fine decide past p × Fine decide (passed past p) q
fine_parts decide past [] q h = (tt, h)
fine_parts decide past (row ∷ p) q h = let k = fine_parts decide (row ∷ past) p q h.1 in ((h.0, k.0), k.1)

pub follow_parts : (path : Path) (p q : List Row) → Follow path (p ++ q) → Follow path p × Follow (through path p) q
follow_parts path [] q h = (tt, h)
follow_parts path (row ∷ p) q h = let k = follow_parts (after path row) p q h.1 in ((h.0, k.0), k.1)

-- One record through two commands: what stands between goes on as a score, and comes to what one
-- command makes of it.
pub record ComesTo (first second one : Decision) (Holds : List Row → List Row → Type 0) : Type 0 where
  pub opening : Holds [] []
  pub step : (past behind made : List Row) (row : Row) → IsOpen (row ∷ past) → IsOpen behind → Holds past behind → first past row ≡ Ok made
      → Follow (path_after behind) made → Fine second behind made
      → (one past row ≡ Ok (out second behind made)) × Holds (row ∷ past) (passed behind made)

comes_from : (first second one : Decision) (Holds : List Row → List Row → Type 0) → ComesTo first second one Holds
    → (past behind p : List Row) → IsOpen past → Follow (path_after past) p → IsOpen behind → Follow (path_after behind) (out first past p) → Holds past behind
    → Fine first past p → Fine second behind (out first past p) → Fine one past p × (out second behind (out first past p) ≡ out one past p)
comes_from first second one Holds h past behind [] right follow sound goes holds a b = (tt, refl)
comes_from first second one Holds h past behind (row ∷ p) right follow sound goes holds a b =
    let made = made_by (first past row) in
    let rest = out first (row ∷ past) p in
    let k = follow_parts (path_after behind) made rest goes in
    let f = fine_parts second behind made rest b in
    let s = h.step past behind made row (right, follow.0) sound holds (taken (first past row) a.0) k.0 f.0 in
    let more = comes_from first second one Holds h (row ∷ past) (passed behind made) p (right, follow.0)
    follow.1 (open_passed behind made sound k.0) (rw (← path_passed behind made) at k.1) s.1 a.1 f.1 in
    (rw s.0 (tt, more.0), out-append second behind made rest ∙ rw s.0 (ap (λ (x : List Row). out second behind made ++ x) more.1))

pub fine_settled : (decide : Decision) (past rows : List Row) → Fine decide past rows → settled (decisions decide past rows) ≡ out decide past rows
fine_settled decide past [] h = refl
fine_settled decide past (row ∷ rows) h = grind (arith, nat_tests, fine_settled decide (row ∷ past) rows h.1)

pub comes_to : (first second one : Decision) (Holds : List Row → List Row → Type 0) → ComesTo first second one Holds
    → (p rows : List Row) → IsScore p → RunsBehind first second p rows → rows ≡ settled (decisions one [] p)
comes_to first second one Holds h p rows score runs =
    grind (arith, nat_tests, comes_from first second one Holds h, fine_settled one)

-- One record through two commands in either order: what stands between goes on as a score both ways.
pub record Commutes (first second : Decision) (Holds : List Row → List Row → List Row → Type 0) : Type 0 where
  pub opening : Holds [] [] []
  pub step : (past one other made also : List Row) (row : Row) → IsOpen (row ∷ past) → IsOpen one → IsOpen other → Holds past one other
      → first past row ≡ Ok made → second past row ≡ Ok also → Follow (path_after one) made → Follow (path_after other) also
      → Fine second one made → Fine first other also
      → (out second one made ≡ out first other also) × Holds (row ∷ past) (passed one made) (passed other also)

commutes_from : (first second : Decision) (Holds : List Row → List Row → List Row → Type 0) → Commutes first second Holds
    → (past one other p : List Row) → IsOpen past → Follow (path_after past) p → IsOpen one → Follow (path_after one) (out first past p)
    → IsOpen other → Follow (path_after other) (out second past p) → Holds past one other
    → Fine first past p → Fine second past p → Fine second one (out first past p) → Fine first other (out second past p)
    → out second one (out first past p) ≡ out first other (out second past p)
commutes_from first second Holds h past one other [] right follow sound goes also too holds a b c d = refl
commutes_from first second Holds h past one other (row ∷ p) right follow sound goes also too holds a b c d =
    let made = made_by (first past row) in
    let rest = out first (row ∷ past) p in
    let twin = made_by (second past row) in
    let more = out second (row ∷ past) p in
    let k = follow_parts (path_after one) made rest goes in
    let l = follow_parts (path_after other) twin more too in
    let f = fine_parts second one made rest c in
    let g = fine_parts first other twin more d in
    let s = h.step past one other made twin row (right, follow.0) sound also holds (taken (first past row) a.0) (taken (second past row) b.0) k.0 l.0 f.0 g.0 in
    let behind = commutes_from first second Holds h (row ∷ past) (passed one made) (passed other twin) p (right, follow.0) follow.1
    (open_passed one made sound k.0) (rw (← path_passed one made) at k.1) (open_passed other twin also l.0) (rw (← path_passed other twin) at l.1)
    s.1 a.1 b.1 f.1 g.1 in
    out-append second one made rest ∙ rw (s.0, behind) (sym (out-append first other twin more))

-- In either order they give the same.
pub commute : (first second : Decision) (Holds : List Row → List Row → List Row → Type 0) → Commutes first second Holds
    → (p rows others : List Row) → IsScore p → RunsBehind first second p rows → RunsBehind second first p others → rows ≡ others
commute first second Holds h p rows others score a b =
    a.gives ∙ commutes_from first second Holds h [] [] [] p tt score tt a.between tt b.between h.opening a.one b.one a.two b.two ∙ sym b.gives

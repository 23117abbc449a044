-- Commands whose decisions are lawful records keep to lawful records.
use Rattle.std.proofs.Common.{◌≡◌, refl, subst, ℕ, List, [], ◌∷◌, length, take}
use Rattle.std.specs.Prelude.{nat_le, cond, Bool, true, false, Option, None, Some, Result, Ok, Err}
use Rattle.hum_score.specs.Row.{Row}
use Rattle.hum_score.specs.Score.{IsOpen, path_after}
use Rattle.hum_stage.specs.declared.faults.Rule.{Rule}
use Rattle.hum_stage.specs.declared.faults.Rule.TheVariants.{H1}
use Rattle.hum_score.specs.InOrder.{Follow}
use Rattle.hum_stage.specs.Outcome.{Undecided, Refused, settled}
use Rattle.hum_stage.specs.Decided.{Decision, outcome, decisions, limit}
use Rattle.hum_stage.specs.Look.{Look, outcome_of, outcomes_from}
use Rattle.hum_stage.specs.Laws.{settled-limit}
use Rattle.hum_valid.specs.Records.{AreRecords, KeepsRecords}
use Rattle.hum_valid.proofs.Lists.{both, front, some_of}

-- what a record becomes behind lawful ones that are a score
abbrev pub DecidesRecords : Decision → Type 0
DecidesRecords decide = (past : List Row) (row : Row) (rows : List Row) → IsOpen (row ∷ past)
    → AreRecords (row ∷ past) → decide past row ≡ Ok rows → AreRecords rows

decided : (decide : Decision) → DecidesRecords decide → (past p : List Row) → IsOpen past → AreRecords past
    → Follow (path_after past) p → AreRecords p → AreRecords (settled (decisions decide past p))
decided decide sound past [] opens are follow more = tt
decided decide sound past (row ∷ rows) opens are follow more =
    by (decide past row) refl
    (decided decide sound (row ∷ past) rows (opens, follow.0) (more.0, are) follow.1 more.1)
  where
    by : (d : Result (List Row) Rule) → decide past row ≡ d
        → AreRecords (settled (decisions decide (row ∷ past) rows))
        → AreRecords (settled (outcome d ∷ decisions decide (row ∷ past) rows))
    by (Ok new) e rest =
        both new (settled (decisions decide (row ∷ past) rows))
        (sound past row new (opens, follow.0) (more.0, are) e) rest
    by (Err rule) e rest = tt

pub at_once : (decide : Decision) → DecidesRecords decide
    → KeepsRecords (λ p. limit 4294967295 (decisions decide [] p))
at_once decide sound p score are =
    let part = settled-limit 4294967295 (decisions decide [] p) in
    front (settled (limit 4294967295 (decisions decide [] p))) part.0
    (subst AreRecords part.1 (decided decide sound [] p tt tt score are))

-- the same by those behind it too
abbrev pub LooksRecords : Look → Type 0
LooksRecords look = (past : List Row) (row : Row) (rows new : List Row) → AreRecords past
    → AreRecords (row ∷ rows) → look past row rows ≡ Some (Ok new) → AreRecords new

looked : (room : ℕ) (look : Look) → LooksRecords look → (past p : List Row) → AreRecords past → AreRecords p
    → AreRecords (settled (outcomes_from room look past p))
looked room look sound past [] are more = tt
looked room look sound past (row ∷ rows) are more =
    by (look past row (take room rows)) refl (looked room look sound (row ∷ past) rows (more.0, are) more.1)
  where
    waits : (b : Bool) → AreRecords (settled (cond b (Refused H1) Undecided ∷ outcomes_from room look (row ∷ past) rows))
    waits true = tt
    waits false = tt

    by : (d : Option (Result (List Row) Rule)) → look past row (take room rows) ≡ d
        → AreRecords (settled (outcomes_from room look (row ∷ past) rows))
        → AreRecords (settled (outcome_of room (length rows) d ∷ outcomes_from room look (row ∷ past) rows))
    by (Some (Ok new)) e rest =
        both new (settled (outcomes_from room look (row ∷ past) rows))
        (sound past row (take room rows) new are (more.0, some_of room rows more.1) e) rest
    by (Some (Err rule)) e rest = tt
    by None e rest = waits (nat_le room (length rows))

pub looking : (room : ℕ) (look : Look) → LooksRecords look → KeepsRecords (λ p. outcomes_from room look [] p)
looking room look sound p score are = looked room look sound [] p tt are

-- The first rule that a score breaks, by its lines and by its records.
use Rattle.std.proofs.lemmas.Bool.Decides.{nat_tests}
use Rattle.std.proofs.Common.{arith}
use Rattle.std.proofs.Common.{◌≡◌, ◌∙◌, refl, ap, ℕ, ◌+◌, List, [], ◌∷◌, length, Option, None, add-one}
use Rattle.hum_text.specs.declared.TextFault.{TextFault}
use Rattle.hum_text.specs.Text.{lines}
use Rattle.hum_score.specs.Row.{Row}
use Rattle.hum_score.specs.declared.spines.PathFault.{PathFault}
use Rattle.hum_score.specs.declared.spines.PathFault.TheVariants as path
use Rattle.hum_score.specs.Spines.{Unopened}
use Rattle.hum_score.specs.Rules.{fault_of as path_fault_of}
use Rattle.hum_score.specs.Score.{path_after, fault_or, score_fault}
use Rattle.hum_stage.specs.declared.faults.Rule.TheVariants as rule
use Rattle.hum_read.specs.Denoted.{Score, unless, onward, denoted, up_to, score_of}
use Rattle.hum_read.specs.Faults.{AreReadAs, rule_at, IsOfItsRecords}

-- the same behind some records
same_fault : (past : List Row) (n : ℕ) (given : List (List ℕ)) (rows : List Row) → n ≡ length past → AreReadAs given rows
    → (denoted (path_after past) n given None).fault ≡ rule_at (score_fault past rows)
same_fault past n (line ∷ given) (row ∷ rows) e h =
    let ih = same_fault (row ∷ past) (n + 1) given rows (ap (λ k. k + 1) e ∙ add-one (length past)) h.1 in
    rw h.0 (by_fault (path_fault_of (path_after past) row) ih)
  where
    by_fault : (o : Option PathFault) → (denoted (path_after (row ∷ past)) (n + 1) given None).fault ≡ rule_at (score_fault (row ∷ past) rows)
        → (onward (n + 1) (unless row o) (λ r. denoted (path_after (r ∷ past)) (n + 1) given None)).fault
        ≡ rule_at (fault_or (length past + 1) o (score_fault (row ∷ past) rows))
    by_fault = grind (arith, nat_tests)
same_fault past n given rows h k = grind (arith, nat_tests)

-- and where none is broken, all are there
same_rows : (past : List Row) (n : ℕ) (given : List (List ℕ)) (rows : List Row) → AreReadAs given rows
    → score_fault past rows ≡ None → (denoted (path_after past) n given None).rows ≡ rows
same_rows past n (line ∷ given) (row ∷ rows) h sound =
    rw h.0 (by_fault (path_fault_of (path_after past) row) (λ s. same_rows (row ∷ past) (n + 1) given rows h.1 s) sound)
  where
    by_fault : (o : Option PathFault)
        → (score_fault (row ∷ past) rows ≡ None → (denoted (path_after (row ∷ past)) (n + 1) given None).rows ≡ rows)
        → fault_or (length past + 1) o (score_fault (row ∷ past) rows) ≡ None
        → (onward (n + 1) (unless row o) (λ r. denoted (path_after (r ∷ past)) (n + 1) given None)).rows ≡ row ∷ rows
    by_fault = grind (arith, nat_tests)
same_rows past n given rows h k = grind (arith, nat_tests)

pub of_its_records : (bytes : List ℕ) → IsOfItsRecords bytes
of_its_records bytes rows sound are =
    let same : score_of bytes ≡ denoted Unopened 0 (lines bytes) None =
    ap (λ (b : Option (ℕ × TextFault)). denoted Unopened 0 (up_to b (lines bytes)) b) sound in
    record {
      fault = ap (λ (score : Score). score.fault) same ∙ same_fault [] 0 (lines bytes) rows refl are;
      whole = λ none. ap (λ (score : Score). score.rows) same ∙ same_rows [] 0 (lines bytes) rows are none;
    }

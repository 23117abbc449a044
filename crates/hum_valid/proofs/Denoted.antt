-- The score that bytes denote has lawful records.
use Rattle.std.proofs.Common.{◌≡◌, refl, subst, ℕ, ◌+◌, Bool, true, false, cond, List, [], ◌∷◌, Option, None, Some, Result, Ok, Err}
use Rattle.std.specs.List.{AllByRecursion}
use Rattle.hum_text.specs.declared.TextFault.{TextFault}
use Rattle.hum_text.specs.Text.{lines, fault_of}
use Rattle.hum_score.specs.declared.records.RecordFault.{RecordFault}
use Rattle.hum_score.specs.Row.{Row, Comment, Spined}
use Rattle.hum_score.specs.Spelling.{reading, IsTextOf}
use Rattle.hum_record.proofs.Laws.{found}
use Rattle.hum_score.specs.declared.spines.PathFault.{PathFault}
use Rattle.hum_score.specs.Spines.{Path, Unopened, after}
use Rattle.hum_score.specs.Rules.{is_unfinished, fault_of as path_fault_of}
use Rattle.hum_stage.specs.declared.faults.Rule.TheVariants as rule
use Rattle.hum_read.specs.Denoted.{on_spines, unless, onward, broken_at, closed, ending, denoted, up_to, standard, score_of}
use Rattle.hum_valid.specs.Records.{IsRecord, AreRecords}
use Rattle.hum_valid.proofs.Lines.{IsShort, short_lines}

own_text : (row : Row) (text : List ℕ) → IsTextOf row text → IsRecord row
own_text (Comment comment) text h = subst (IsTextOf (Comment comment)) h.0 h
own_text (Spined kind tokens) text h = subst (IsTextOf (Spined kind tokens)) h.0 h

read_record : (line : List ℕ) (row : Row) → IsShort line → reading line ≡ Ok row → IsRecord row
read_record line row h e = own_text row line (found line row h.at_most h.no_line_end e)

end_records : (path : Path) (n : ℕ) (broken : Option (ℕ × TextFault)) → AreRecords (ending path n broken).rows
end_records path n (Some (line, fault)) = tt
end_records path n None = by (is_unfinished path)
  where
    by : (b : Bool) → AreRecords (cond b (broken_at (n + 1) (Some rule.P8)) closed).rows
    by true = tt
    by false = tt

denoted_records : (path : Path) (n : ℕ) (ls : List (List ℕ)) (broken : Option (ℕ × TextFault)) → AllByRecursion IsShort ls
    → AreRecords (denoted path n ls broken).rows
denoted_records path n [] broken h = end_records path n broken
denoted_records path n (line ∷ ls) broken h =
    by (reading line) refl (λ row. denoted_records (after path row) (n + 1) ls broken h.1)
  where
    on_path : (row : Row) → reading line ≡ Ok row → ((row : Row) → AreRecords (denoted (after path row) (n + 1) ls broken).rows)
        → (o : Option PathFault)
        → AreRecords (onward (n + 1) (unless row o) (λ row. denoted (after path row) (n + 1) ls broken)).rows
    on_path row w more None = (read_record line row h.0 w, more row)
    on_path row w more (Some fault) = tt

    by : (r : Result Row RecordFault) → reading line ≡ r → ((row : Row) → AreRecords (denoted (after path row) (n + 1) ls broken).rows)
        → AreRecords (onward (n + 1) (on_spines path r) (λ row. denoted (after path row) (n + 1) ls broken)).rows
    by (Ok row) w more = on_path row w more (path_fault_of path row)
    by (Err fault) w more = tt

pub score_records : (bytes : List ℕ) → AreRecords (score_of bytes).rows
score_records bytes = denoted_records Unopened 0 (up_to (fault_of standard bytes) (lines bytes)) (fault_of standard bytes) (short_lines bytes)

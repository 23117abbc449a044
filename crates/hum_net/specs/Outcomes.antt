-- The statuses of runs, and the lines that tell them.
use Rattle.std.specs.Prelude.{ℕ, List, [], ◌++◌, codes, decimal}
use Rattle.hum_stage.specs.declared.faults.Fault.{Fault}
use Rattle.hum_words.specs.Commands.{word_of}
use Rattle.hum_stage.specs.Codes as stage
use Rattle.hum_plan.specs.Faults as plan
use Rattle.hum_turns.specs.declared.result.RunResult.{RunResult}
use Rattle.hum_turns.specs.declared.result.RunResult.TheVariants as ends
use Rattle.hum_net.specs.declared.outcome.Outcome.{Outcome}
use Rattle.hum_net.specs.declared.outcome.Outcome.TheVariants as outcome

-- The whole text was written, a stage refused, or the run failed.
abbrev pub status_of_run : RunResult → ℕ
status_of_run ends.Finished = 0
status_of_run (ends.Fault fault) = 1
status_of_run (ends.Read number) = 3
status_of_run ends.Write = 3
status_of_run ends.Memory = 3

-- A plan or a bundle that is refused is 2, a score that isn't there 3.
abbrev pub status_of : Outcome → ℕ
status_of (outcome.Run result) = status_of_run result
status_of (outcome.Plan fault) = 2
status_of (outcome.NoScore number) = 3
status_of outcome.TooLarge = 2

-- A fault, by the number of its stage, its command, the line and the rule.
abbrev pub line_of_fault : Fault → List ℕ
line_of_fault fault =
    codes "humpipe: stage " ++ (decimal fault.stage ++ (codes " (" ++ (word_of fault.command ++ (
    codes "), line " ++ (decimal fault.line ++ (codes ": " ++ stage.code_of fault.rule))))))

-- A reader of this number, from 1, has failed.
abbrev pub line_of_read : ℕ → List ℕ → List ℕ
line_of_read number how =
    codes "humpipe: stage " ++ (decimal number ++ (codes " (read): " ++ how))

-- The line that tells how a run ended, without its end; nothing where the whole text was written.
abbrev pub line_of : Outcome → List ℕ
line_of (outcome.Run ends.Finished) = []
line_of (outcome.Run (ends.Fault fault)) = line_of_fault fault
line_of (outcome.Run (ends.Read number)) = line_of_read number (codes "read failed")
line_of (outcome.Run ends.Write) = codes "humpipe: write failed"
line_of (outcome.Run ends.Memory) = codes "humpipe: out of memory"
line_of (outcome.Plan fault) = codes "humpipe: " ++ plan.line_of_fault fault
line_of (outcome.NoScore number) = line_of_read number (codes "cannot open")
line_of outcome.TooLarge = codes "humpipe: bundle too large"

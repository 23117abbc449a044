use Rattle.hum_words.specs.Branches.{branches_of}
use Rattle.hum_words.specs.Rest.{branches_left}
use Rattle.hum_plan.specs.Answers.{Outline, Outcome, LinesAnswer, nothing}
use Rattle.hum_plan.specs.Tells.{outline_of}
use Rattle.hum_plan.proofs.lines.read_lines.Given as goal

abbrev pub invariant-loop-line : goal.invariant-loop-line
invariant-loop-line l = (answer : Outcome Outline) → LinesAnswer (outline_of l.draft) (branches_left l.lines) answer
    → LinesAnswer nothing (branches_of l.text) answer

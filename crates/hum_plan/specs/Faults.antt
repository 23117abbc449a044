-- Which rule was broken, and where.
use Rattle.std.specs.Prelude.{ℕ, List, ◌++◌, codes, decimal}
use Rattle.hum_words.specs.declared.text.PlanTextFault.{PlanTextFault}
use Rattle.hum_words.specs.declared.text.PlanTextFault.TheVariants.{TooLong, NotUtf8}
use Rattle.hum_options.specs.declared.faults.OptionRule.{OptionRule}
use Rattle.hum_options.specs.declared.faults.OptionRule.TheVariants as option
use Rattle.hum_options.specs.declared.faults.OptionFault.{OptionFault}
use Rattle.hum_options.specs.declared.faults.OptionError.{OptionError}
use Rattle.hum_options.specs.declared.faults.OptionError.TheVariants as failed
use Rattle.hum_plan.specs.declared.faults.PlanError.{PlanError}
use Rattle.hum_plan.specs.declared.faults.PlanError.TheVariants.{Fault, Memory}
use Rattle.hum_plan.specs.declared.faults.PlanRule.{PlanRule}
use Rattle.hum_plan.specs.declared.faults.PlanRule.TheVariants.{N1, N2, N3, N4, N5, N6, N7, N8}
use Rattle.hum_plan.specs.declared.faults.PlanRule.TheVariants.{N9, N10, N11, N12}
use Rattle.hum_plan.specs.declared.faults.PlanFault.{PlanFault}

-- a rule's code, as it is printed
abbrev pub code_of : PlanRule → List ℕ
code_of N1 = codes "N1"
code_of N2 = codes "N2"
code_of N3 = codes "N3"
code_of N4 = codes "N4"
code_of N5 = codes "N5"
code_of N6 = codes "N6"
code_of N7 = codes "N7"
code_of N8 = codes "N8"
code_of N9 = codes "N9"
code_of N10 = codes "N10"
code_of N11 = codes "N11"
code_of N12 = codes "N12"

-- the line that tells a fault, by its line, its word and the rule, without its end
abbrev pub line_of_fault : PlanFault → List ℕ
line_of_fault fault =
    codes "plan line " ++ (decimal fault.line ++ (codes ", word " ++ (
    decimal fault.word ++ (codes ": " ++ code_of fault.rule))))

-- a rule that is broken at a word of a line, both from 1; no word is 0
abbrev pub broken : ℕ → ℕ → PlanRule → PlanFault
broken line word rule = record { line = line; word = word; rule = rule }

-- the rules on the words behind a command are those of the plan
abbrev pub rule_of : OptionRule → PlanRule
rule_of option.N8 = N8
rule_of option.N9 = N9
rule_of option.N10 = N10
rule_of option.N11 = N11
rule_of (option.N12 refusal) = N12

-- a fault of these words, in their line
abbrev pub in_line : ℕ → OptionFault → PlanFault
in_line line found = broken line found.word (rule_of found.rule)

-- and so is running out of memory there
abbrev pub error_in_line : ℕ → OptionError → PlanError
error_in_line line (failed.Fault found) = Fault (in_line line found)
error_in_line line failed.Memory = Memory

-- a plan that is too long is broken in its first line
abbrev pub of_text : PlanTextFault → PlanFault
of_text TooLong = broken 1 0 N1
of_text (NotUtf8 line) = broken line 0 N1

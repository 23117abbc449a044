-- Refusals, and what a call says that may refuse. Where memory ran out nothing is claimed.
use Rattle.std.specs.Prelude.{Option, None, Some, Result, Ok, Err}
use Rattle.hum_score.specs.declared.records.RecordFault.{RecordFault}
use Rattle.hum_score.specs.declared.records.RecordFault.TheVariants as of_record
use Rattle.hum_score.specs.declared.spines.PathFault.{PathFault}
use Rattle.hum_score.specs.declared.spines.PathFault.TheVariants as of_path
use Rattle.hum_stage.specs.declared.faults.Rule.{Rule}
use Rattle.hum_stage.specs.declared.faults.Rule.TheVariants as rule
use Rattle.hum_stage.specs.declared.faults.Refusal.{Refusal}
use Rattle.hum_stage.specs.declared.faults.Refusal.TheVariants.{Rule as Broken, Memory}

-- the rule of a refusal; out of memory has none
abbrev pub rule_in : Refusal → Option Rule
rule_in (Broken rule) = Some rule
rule_in Memory = None

-- the rule that a line breaks; out of memory breaks none
abbrev pub record_rule : RecordFault → Option Rule
record_rule of_record.S4 = Some rule.S4
record_rule of_record.S5 = Some rule.S5
record_rule of_record.S6 = Some rule.S6
record_rule of_record.S8 = Some rule.S8
record_rule of_record.L1 = Some rule.L1
record_rule of_record.Memory = None

-- the rule of the spines that a record breaks; out of memory breaks none
abbrev pub path_rule : PathFault → Option Rule
path_rule of_path.P1 = Some rule.P1
path_rule of_path.P2 = Some rule.P2
path_rule of_path.P3 = Some rule.P3
path_rule of_path.P4 = Some rule.P4
path_rule of_path.P5 = Some rule.P5
path_rule of_path.P6 = Some rule.P6
path_rule of_path.P7 = Some rule.P7
path_rule of_path.P8 = Some rule.P8
path_rule of_path.P9 = Some rule.P9
path_rule of_path.P10 = Some rule.P10
path_rule of_path.P11 = Some rule.P11
path_rule of_path.Memory = None

-- This holds of the rule of a refusal; out of memory has none.
abbrev pub IfRule : Refusal → (Rule → Type 0) → Type 0
IfRule (Broken rule) P = P rule
IfRule Memory P = Unit {0}

-- This holds of the rule by which a call refuses, and of none where it is done.
abbrev pub IfTold : {A : Type 0} → Result A Refusal → (Option Rule → Type 0) → Type 0
IfTold (Ok x) P = P None
IfTold (Err refusal) P = IfRule refusal (λ rule. P (Some rule))

-- This holds of what a call answers, or of the rule by which it refuses.
abbrev pub IfAnswered : {A : Type 0} → Result A Refusal → (Result A Rule → Type 0) → Type 0
IfAnswered (Ok x) P = P (Ok x)
IfAnswered (Err refusal) P = IfRule refusal (λ rule. P (Err rule))

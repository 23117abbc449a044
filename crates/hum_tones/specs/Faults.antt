-- The rules by which subtokens and pitches are refused, as rules of a stage.
use Rattle.hum_kern.specs.declared.KernFault.{KernFault}
use Rattle.hum_kern.specs.declared.KernFault.TheVariants.{K1 as TwoPitches, K2 as TooLong, K3 as NoDuration}
use Rattle.hum_stage.specs.declared.faults.Rule.{Rule}
use Rattle.hum_stage.specs.declared.faults.Rule.TheVariants.{K1, K2, K3}

abbrev pub rule_of : KernFault → Rule
rule_of TwoPitches = K1
rule_of TooLong = K2
rule_of NoDuration = K3

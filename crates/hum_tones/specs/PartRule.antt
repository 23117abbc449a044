-- The commands that put what its parts give in the place of a token.
use Rattle.std.specs.Prelude.{ℕ, List, Option, Result}
use Rattle.hum_stage.specs.declared.faults.Rule.{Rule}
use Rattle.hum_tones.specs.declared.part_rule.PartRule.{PartRule}
use Rattle.hum_tones.specs.declared.part_rule.PartRule.TheVariants.{Semitones, Durations, Transposed}
use Rattle.hum_tones.specs.Semits.{semits_of}
use Rattle.hum_tones.specs.Recip.{recip_of}
use Rattle.hum_tones.specs.Trans.{transposed_part}
use Rattle.hum_tones.specs.Subtokens.{rewritten}

-- what a part gives
abbrev pub gives : PartRule → List ℕ → Result (Option (List ℕ)) Rule
gives (Semitones ties_left_out) = semits_of ties_left_out
gives Durations = recip_of
gives (Transposed way) = transposed_part way.steps way.semitones

-- what a token becomes
abbrev pub given : PartRule → List ℕ → Result (List ℕ) Rule
given giving = rewritten (gives giving)

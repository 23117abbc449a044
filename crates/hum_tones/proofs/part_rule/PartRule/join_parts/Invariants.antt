use Rattle.std.proofs.Common.{length}
use Rattle.hum_tones.specs.Subtokens.{subtokens}
use Rattle.hum_tones.specs.PartRule.{gives}
use Rattle.hum_tones.proofs.SoFar.{SoFar}
use Rattle.hum_tones.proofs.part_rule.PartRule.join_parts.Given as goal

abbrev pub invariant-loop-part : goal.invariant-loop-part
invariant-loop-part l = SoFar (gives l.self) (subtokens l.token) (length l.yielded) l.text.items

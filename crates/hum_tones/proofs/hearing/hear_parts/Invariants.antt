use Rattle.std.proofs.Common.{length}
use Rattle.hum_tones.specs.Subtokens.{subtokens}
use Rattle.hum_tones.proofs.TokenTone.{HeardSoFar}
use Rattle.hum_tones.proofs.hearing.hear_parts.Given as goal

abbrev pub invariant-loop-part : goal.invariant-loop-part
invariant-loop-part l = HeardSoFar (subtokens l.token) (length l.yielded) l.heard

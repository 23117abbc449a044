use Rattle.std.proofs.Common.{refl}
use Rattle.hum_text.proofs.LimitLemmas.{lawful-bytes, none-bytes}
use Rattle.hum_text.proofs.rules.first_fault.Goals as goal

pub returns-then-is_sound-clause-bytes : goal.returns-then-is_sound-clause-bytes
returns-then-is_sound-clause-bytes c = lawful-bytes _ _ _ c.args.held.now (c.if-is_sound.ensures refl)

pub returns-clause-bytes : goal.returns-clause-bytes
returns-clause-bytes c = none-bytes _ _ _ c.args.held.now c.find_fault.result c.find_fault.ensures.none

use Rattle.std.proofs.Common.{◌∙◌, refl}
use Rattle.std.proofs.lemmas.Fmt.{decimal_digit}
use Rattle.hum_pitch.proofs.naming.push_number.Goals as goal

pub returns-then-number-lt10 : goal.returns-then-number-lt10
returns-then-number-lt10 c = c.in_ok-push.ensures.items ∙ rw (decimal_digit c.args.number c.if-number-lt10.true) refl

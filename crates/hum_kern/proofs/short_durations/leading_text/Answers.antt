use Rattle.std.proofs.Common.{refl}
use Rattle.hum_kern.specs.Usual.{leading_of}
use Rattle.hum_kern.proofs.ShortParts.{plain_text, dotted_text}
use Rattle.hum_kern.proofs.short_durations.leading_text.Goals as goal

pub returns-in_default : goal.returns-in_default
returns-in_default c =
    plain_text (λ text. text.now) c.args.token.now (leading_of c.in-Some.found) c.text_up_to-in_default.result c.in-Some.ensures.exact
    c.text_up_to-in_default.ensures

pub returns-in-len1-up : goal.returns-in-len1-up
returns-in-len1-up c =
    dotted_text (λ text. text.now) c.args.token.now (leading_of c.in-Some.found) _ c.text_up_to.result c.in-Some.ensures.exact
    c.in-len1-up.len_at_least c.if-b-eq46.true refl c.text_up_to.ensures

use Rattle.std.proofs.Common.{◌∙◌, sym}
use Rattle.std.proofs.lemmas.Option.{none-some, same_Some}
use Rattle.hum_engine.proofs.net.Net.told.Goals as goal

pub returns-in-Some : goal.returns-in-Some
returns-in-Some g c start s now h by e =
    same_Some _ _ (sym c.in-Some.is ∙ c.result.ensures start s now h ∙ e)

pub returns-in-None : goal.returns-in-None
returns-in-None g c start s now h by e =
    absurd (none-some by (sym c.in-None.is ∙ c.result.ensures start s now h ∙ e))

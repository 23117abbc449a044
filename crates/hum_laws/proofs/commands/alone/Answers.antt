use Rattle.std.proofs.lemmas.Result.{IfOk-weaker}
use Rattle.hum_laws.proofs.commands.alone.Goals as goal

pub returns : goal.returns
returns c = IfOk-weaker c.alone.result _ _ (λ given h. h _ c.new.ensures.stands) c.alone.ensures

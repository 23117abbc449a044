use Rattle.hum_many.proofs.Holding.{holds-none}
use Rattle.hum_many.proofs.cases.Case.new.Goals as goal

pub returns : goal.returns
returns c = holds-none _ c.new.ensures.items

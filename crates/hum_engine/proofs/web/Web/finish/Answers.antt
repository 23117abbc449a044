use Rattle.std.proofs.Common.{refl}
use Rattle.hum_engine.proofs.Feeding.{link_at}
use Rattle.hum_engine.proofs.Acting.{finished}
use Rattle.hum_engine.proofs.web.Web.finish.Goals as goal

pub returns-clause-ended : goal.returns-clause-ended
returns-clause-ended g c s may =
    finished c.end.new.self may
    (link_at may.about.actor.less may.about.actor.at.stand c.index_mut.ensures.value) c.end.ensures refl refl

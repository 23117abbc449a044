use Rattle.std.proofs.Common.{◌∙◌, sym, refl}
use Rattle.hum_engine.specs.Scene.{moved}
use Rattle.hum_engine.proofs.Netting.{at_now, ready_at}
use Rattle.hum_engine.proofs.net.Net.ready.Goals as goal

pub ready-requires : goal.ready-requires
ready-requires g c =
    let r = c.requires.running in
    record {
      scene = moved r.scene r.now.links;
      holds = record {
        at = at_now r.at (sym (c.result.ensures r.start r.scene r.now r.at) ∙ c.in-None.is);
        within = c.requires.within;
      };
    }

pub returns-in-Some : goal.returns-in-Some
returns-in-Some g c start s now h within = rw (sym (c.result.ensures start s now h) ∙ c.in-Some.is) refl

pub returns-in-None : goal.returns-in-None
returns-in-None g c start s now h within =
    let none = sym (c.result.ensures start s now h) ∙ c.in-None.is in
    ready_at h none c.args.k (c.ready.ensures (moved s now.links) (record { at = at_now h none; within = within }))

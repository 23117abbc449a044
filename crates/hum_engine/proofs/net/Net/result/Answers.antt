use Rattle.std.proofs.Common.{◌∙◌, sym, ap, Some, None}
use Rattle.hum_turns.specs.Failures.{ended_by}
use Rattle.hum_engine.specs.Scene.{moved}
use Rattle.hum_engine.proofs.Netting.{none_of, web_at}
use Rattle.hum_engine.proofs.net.Net.result.Goals as goal

pub heard-requires : goal.heard-requires
heard-requires g c = record {
  scene = moved c.requires.scene c.requires.now.links;
  holds = web_at c.requires.at (sym c.requires.at.failure ∙ none_of c.args.self.now.failure c.in_default.not-Some);
}

pub returns-in-Some-heard : goal.returns-in-Some-heard
returns-in-Some-heard g c start s now h =
    let none = sym h.failure ∙ none_of c.args.self.now.failure c.in_default.not-Some in
    rw none (ap Some c.from_end.ensures
    ∙ ap (ended_by None) (sym c.in-Some-heard.is ∙ c.heard.ensures (moved s now.links) (web_at h none)))

pub returns-in-None : goal.returns-in-None
returns-in-None g c start s now h =
    let none = sym h.failure ∙ none_of c.args.self.now.failure c.in_default.not-Some in
    rw none (ap (ended_by None) (sym c.in-None.is ∙ c.heard.ensures (moved s now.links) (web_at h none)))

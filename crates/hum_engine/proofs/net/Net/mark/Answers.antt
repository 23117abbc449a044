use Rattle.std.proofs.Common.{◌≡◌, ◌∙◌, ◌+◌, map, sym, ap, arith, refl}
use Rattle.std.proofs.lemmas.List.{take_all}
use Rattle.hum_turns.specs.Orders.{upto}
use Rattle.hum_turns.specs.Failures.{is_ready}
use Rattle.hum_engine.specs.Scene.{plan_of}
use Rattle.hum_engine.proofs.Running.{running_relisted, marked_more}
use Rattle.hum_engine.proofs.net.Net.mark.Goals as goal

pub ready-is-requires : goal.ready-is-requires
ready-is-requires g c = record {
  running = running_relisted c.loop-k.invariant.same c.loop-k.invariant.len c.requires;
  within = omega (arith, c.args.self.now.actors.ok.0, c.requires.at.actors);
}

pub loop-k-preserved : goal.loop-k-preserved
loop-k-preserved g c = marked_more c.loop-k.invariant (omega (arith, c.args.self.now.actors.ok.0)) c.ready-is.ensures refl

pub returns-clause-list : goal.returns-clause-list
returns-clause-list g c start s now h =
    let is : c.loop-k.k ≡ s.count + 1 = omega (arith, c.args.self.now.actors.ok.0, c.loop-k.invariant.len, h.actors) in
    sym (take_all c.loop-k.k c.loop-k.self.actors.items (omega (arith, is, c.loop-k.invariant.len, h.actors)))
    ∙ c.loop-k.invariant.so_far start s now h ∙ ap (λ j. map (is_ready (plan_of s) s.size now) (upto j)) is

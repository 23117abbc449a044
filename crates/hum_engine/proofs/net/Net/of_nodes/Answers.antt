use Rattle.std.proofs.Common.{◌∙◌, [], None, refl, sym, arith}
use Rattle.std.proofs.lemmas.Option.{none-some}
use Rattle.hum_score.specs.Row.{Row}
use Rattle.hum_turns.specs.Plan.{last}
use Rattle.hum_turns.specs.Links.{fresh}
use Rattle.hum_turns.specs.Failures.{Now}
use Rattle.hum_turns.proofs.Writing.{still}
use Rattle.hum_engine.proofs.Appending.{appends_none}
use Rattle.hum_engine.specs.Scene.{plan_of, moved}
use Rattle.hum_engine.proofs.net.Net.of_nodes.Goals as goal

pub returns-in-Ok-new-clause-ok : goal.returns-in-Ok-new-clause-ok
returns-in-Ok-new-clause-ok g c s now first plan begun = record {
  plan = plan;
  first = now;
  turns = [];
  begin = first;
  walk = still now;
  counted = refl;
  actors = omega (arith, c.in-Ok.ensures.len, c.len.ensures, c.args.nodes.ok.0, begun.count, c.in-Ok.actors.ok.0);
  takers = c.in-Ok-takers_of.ensures _ s plan begun;
  going = λ e. c.in-Ok-new.ensures.stands (moved s now.links) first.links (record {
    of_size = begun.of_size ∙ sym c.from.ensures;
    count = begun.count;
    stand = begun.stand;
  });
  failure = sym first.failure;
  written = rw (first.links (last (plan_of s)), first.part) (appends_none (g.W.Sink.contents c.args.sink));
  is_flushed = λ e none heard. absurd (none-some e (rw (first.links (last (plan_of s))) at heard));
}

pub returns-in-Ok-new-clause-runs : goal.returns-in-Ok-new-clause-runs
returns-in-Ok-new-clause-runs g c scene begun =
    let first : Now Row = record { links = λ k. fresh; part = []; failure = None } in
    record {
      start = g.W.Sink.contents c.args.sink;
      scene = scene;
      now = λ rests. first;
      rests = begun.rests;
      at = λ rests over. returns-in-Ok-new-clause-ok g c (scene rests) first
          (record { links = λ k. refl; part = refl; failure = refl }) (begun.plan rests) (begun.begun rests);
    }

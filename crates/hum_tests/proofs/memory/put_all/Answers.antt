use Rattle.std.proofs.Common.{◌∙◌, refl, sym, ap, List, [], ◌∷◌, ◌++◌, append_assoc, inr}
use Rattle.hum_score.specs.Row.{Row}
use Rattle.hum_stage.specs.Meaning.{settled_moment, after_put}
use Rattle.hum_stage.proofs.Growth.{wants_when_settled}
use Rattle.hum_tests.proofs.Puts.{score_so_far, few_so_far}
use Rattle.hum_tests.proofs.memory.put_all.Goals as goal

pub put-requires : goal.put-requires
put-requires g c =
    let m = c.requires.fresh.0 in
    let run = c.loop-next.invariant.at m c.requires.fresh.1 in
    inr (record {
      at = settled_moment m run.put;
      stand = run.stand;
      wants = wants_when_settled m run.put;
      score =
          score_so_far run.put c.pop_front.new.self.items c.loop-next.rest.items c.args.records.items
          c.in-Some.next c.in-Some.ensures.items run.all c.requires.closed.0;
      few =
          few_so_far run.put c.pop_front.new.self.items c.loop-next.rest.items c.args.records.items
          c.in-Some.next c.in-Some.ensures.items run.all c.requires.few;
    })

pub drain-requires : goal.drain-requires
drain-requires g c =
    let m = c.requires.fresh.0 in
    let run = c.loop-next.invariant.at m c.requires.fresh.1 in
    let score = score_so_far run.put c.pop_front.new.self.items c.loop-next.rest.items c.args.records.items
    c.in-Some.next c.in-Some.ensures.items run.all c.requires.closed.0 in (
      after_put (settled_moment m run.put) c.in-Some.next,
      c.in_ok-put.ensures.ok (settled_moment m run.put) run.stand refl score,
    )

pub loop-next-preserved : goal.loop-next-preserved
loop-next-preserved g c = record {
  at = λ m s.
      let run = c.loop-next.invariant.at m s in
      let score = score_so_far run.put c.pop_front.new.self.items c.loop-next.rest.items c.args.records.items
      c.in-Some.next c.in-Some.ensures.items run.all c.requires.closed.0 in
      let stand = c.in_ok-put.ensures.ok (settled_moment m run.put) run.stand refl score in
      record {
        put = run.put ++ c.in-Some.next ∷ [];
        all =
            append_assoc run.put (c.in-Some.next ∷ []) c.pop_front.new.self.items
            ∙ (ap (λ (y : List Row). run.put ++ y) (sym c.in-Some.ensures.items) ∙ run.all);
        stand = (c.in_ok-drain.ensures _ stand).stand;
      };
}

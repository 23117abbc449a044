use Rattle.std.proofs.Common.{◌∙◌, refl, sym, ap, List, [], ◌∷◌, ◌++◌, append_assoc, inr}
use Rattle.hum_score.specs.Row.{Row}
use Rattle.hum_stage.specs.Meaning.{settled_moment, after_put}
use Rattle.hum_stage.proofs.Growth.{wants_when_settled}
use Rattle.hum_tests.proofs.Puts.{score_so_far, few_so_far}
use Rattle.hum_tests.proofs.stages.check_puts.Goals as goal

pub put-requires : goal.put-requires
put-requires g c =
    let m = c.requires.fresh.0 in
    let run = c.loop-next.invariant.at m c.requires.fresh.1 in
    inr (record {
      at = settled_moment m run.put;
      stand = c.gives_none.ensures _ run.stand;
      wants = wants_when_settled m run.put;
      score =
          score_so_far run.put c.pop_front.new.self.items c.loop-next.rest.items c.args.records.items
          c.in-Some.next c.in-Some.ensures.items run.all c.requires.closed.0;
      few =
          few_so_far run.put c.pop_front.new.self.items c.loop-next.rest.items c.args.records.items
          c.in-Some.next c.in-Some.ensures.items run.all c.requires.few;
    })

pub check_given-requires : goal.check_given-requires
check_given-requires g c =
    let m = c.requires.fresh.0 in
    let run = c.loop-next.invariant.at m c.requires.fresh.1 in
    let score = score_so_far run.put c.pop_front.new.self.items c.loop-next.rest.items c.args.records.items
    c.in-Some.next c.in-Some.ensures.items run.all c.requires.closed.0 in
    let ok = rw c.expect.ensures at c.put.ensures.ok in (
      after_put (settled_moment m run.put) c.in-Some.next,
      ok (settled_moment m run.put) (c.gives_none.ensures _ run.stand) refl score,
    )

pub loop-next-preserved : goal.loop-next-preserved
loop-next-preserved g c = record {
  at = λ m s.
      let run = c.loop-next.invariant.at m s in
      let score = score_so_far run.put c.pop_front.new.self.items c.loop-next.rest.items c.args.records.items
      c.in-Some.next c.in-Some.ensures.items run.all c.requires.closed.0 in
      let ok = rw c.expect.ensures at c.put.ensures.ok in
      let stand = ok (settled_moment m run.put) (c.gives_none.ensures _ run.stand) refl score in
      record {
        put = run.put ++ c.in-Some.next ∷ [];
        all =
            append_assoc run.put (c.in-Some.next ∷ []) c.pop_front.new.self.items
            ∙ (ap (λ (y : List Row). run.put ++ y) (sym c.in-Some.ensures.items) ∙ run.all);
        stand = c.check_given.ensures _ stand;
      };
}

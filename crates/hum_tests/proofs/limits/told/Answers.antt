use Rattle.std.proofs.Common.{◌∙◌, refl, sym, ap, List, [], ◌∷◌, ◌++◌, append_assoc, inr, None}
use Rattle.hum_score.specs.Row.{Row}
use Rattle.hum_stage.specs.Meaning.{Moment, after_put}
use Rattle.hum_tests.proofs.Puts.{score_so_far, few_so_far}
use Rattle.hum_tests.proofs.limits.told.Goals as goal

pub put-requires : goal.put-requires
put-requires g c =
    let m = c.requires.fresh.0 in
    let run = c.loop-next.invariant.at m c.requires.fresh.1 in
    inr (record {
      at = record { meaning = m; put = run.put; given = run.given; ended = None };
      stand = run.stand;
      wants = run.wants;
      score =
          score_so_far run.put c.pop_front.new.self.items c.loop-next.rest.items c.args.records.items
          c.in-Some.next c.in-Some.ensures.items run.all c.requires.closed.0;
      few =
          few_so_far run.put c.pop_front.new.self.items c.loop-next.rest.items c.args.records.items
          c.in-Some.next c.in-Some.ensures.items run.all c.requires.few;
    })

pub loop-next-preserved : goal.loop-next-preserved
loop-next-preserved g c = record {
  at = λ m s.
      let run = c.loop-next.invariant.at m s in
      let t : Moment = record { meaning = m; put = run.put; given = run.given; ended = None } in
      let score = score_so_far run.put c.pop_front.new.self.items c.loop-next.rest.items c.args.records.items
      c.in-Some.next c.in-Some.ensures.items run.all c.requires.closed.0 in
      let ok = rw c.expect.ensures at c.put.ensures.ok in
      let stand = ok t run.stand refl score in
      record {
        put = run.put ++ c.in-Some.next ∷ [];
        given = run.given;
        all =
            append_assoc run.put (c.in-Some.next ∷ []) c.pop_front.new.self.items
            ∙ (ap (λ (y : List Row). run.put ++ y) (sym c.in-Some.ensures.items) ∙ run.all);
        stand = stand;
        wants = sym (c.state.ensures (after_put t c.in-Some.next) stand) ∙ c.in-Wants.is;
      };
}

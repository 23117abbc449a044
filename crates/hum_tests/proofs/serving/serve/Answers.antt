use Rattle.std.proofs.Common.{◌≡◌, ◌∙◌, ◌∷◌, [], Some, sym, ap, subst}
use Rattle.std.specs.Prelude.{IfSome}
use Rattle.hum_assemble.specs.Change.{had, IsOpenInput}
use Rattle.hum_assemble.specs.Meaning.{Moment, after}
use Rattle.hum_assemble.specs.Standing.{Stands}
use Rattle.hum_tests.proofs.Wanted.{goes_on, the_other}
use Rattle.hum_tests.proofs.serving.serve.Goals.{in-Some-eq0, in-Some, in-None}
use Rattle.hum_tests.proofs.serving.serve.Goals as goal

pub give-requires : goal.give-requires
give-requires g c =
    let i = c.loop.invariant in
    let t : Moment = record { stage = 3; inputs = i.x ∷ i.y ∷ []; given = i.given } in
    record {
      at = t;
      stand = i.stand;
      wants = sym (c.wants.ensures.wanted t i.stand) ∙ c.in-Some-eq0.is ∙ ap Some c.in-Some-eq0.field-0-test;
      score = rw i.firsts c.requires.first.0;
      closed = λ closed. rw i.firsts c.requires.first;
      few = rw i.firsts c.requires.few;
    }

pub give-requires-in-Some : goal.give-requires-in-Some
give-requires-in-Some g c =
    let i = c.loop.invariant in
    let t : Moment = record { stage = 3; inputs = i.x ∷ i.y ∷ []; given = i.given } in
    let awaited = subst (λ o. IfSome o (λ j. IsOpenInput j t.inputs)) c.in-Some.is (c.wants.ensures.awaits t i.stand) in
    let one = the_other c.in-Some.field-0 i.x i.y awaited c.in-Some.field-0-test.1 in
    record {
      at = t;
      stand = i.stand;
      wants = sym (c.wants.ensures.wanted t i.stand) ∙ c.in-Some.is ∙ ap Some one;
      score = rw i.seconds c.requires.second;
      closed = λ closed. rw i.seconds (c.requires.closed closed);
      few = rw i.seconds c.requires.few_too;
    }

pub loop-preserved : goal.loop-preserved
loop-preserved g c =
    let i = c.loop.invariant in
    let t : Moment = record { stage = 3; inputs = i.x ∷ i.y ∷ []; given = i.given } in
    elim c.match-wants.branch [
      | in-Some-eq0 w ↦
          let wants = sym (c.wants.ensures.wanted t i.stand) ∙ w.in-Some-eq0.is ∙ ap Some w.in-Some-eq0.field-0-test in
          let served = w.give.ensures t i.stand wants in
          let stand = subst (λ s. Stands s (after 0 served.change t)) (sym w.stage-is) served.stand in
          let taken = c.take_all.ensures (after 0 served.change t) stand in
          record {
            x = had served.change i.x;
            y = i.y;
            given = taken.0;
            stand = taken.1;
            firsts = rw w.left-is (goes_on i.x served.change _ _ _ served.goes i.firsts);
            seconds = rw w.right-is i.seconds;
          }
      | in-Some w ↦
          let awaited = subst (λ o. IfSome o (λ j. IsOpenInput j t.inputs)) w.in-Some.is
          (c.wants.ensures.awaits t i.stand) in
          let one = the_other w.in-Some.field-0 i.x i.y awaited w.in-Some.field-0-test.1 in
          let wants = sym (c.wants.ensures.wanted t i.stand) ∙ w.in-Some.is ∙ ap Some one in
          let served = w.give-in-Some.ensures t i.stand wants in
          let stand = subst (λ s. Stands s (after 1 served.change t)) (sym w.stage-is) served.stand in
          let taken = c.take_all.ensures (after 1 served.change t) stand in
          record {
            x = i.x;
            y = had served.change i.y;
            given = taken.0;
            stand = taken.1;
            firsts = rw w.left-is i.firsts;
            seconds = rw w.right-is (goes_on i.y served.change _ _ _ served.goes i.seconds);
          }
      | in-None w ↦
          let stand = subst (λ s. Stands s t) (sym w.stage-is) i.stand in
          let taken = c.take_all.ensures t stand in
          record {
            x = i.x;
            y = i.y;
            given = taken.0;
            stand = taken.1;
            firsts = rw w.left-is i.firsts;
            seconds = rw w.right-is i.seconds;
          }
    ]

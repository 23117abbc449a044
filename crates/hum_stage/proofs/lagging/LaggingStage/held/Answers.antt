use Rattle.std.proofs.Common.{◌∙◌, sym, refl, ap, arith, Option}
use Rattle.hum_score.specs.Row.{Row}
use Rattle.hum_stage.specs.Settles.{with_due}
use Rattle.hum_stage.proofs.Lags.{held_stopped, held_open, held_few, due_none, due_some}
use Rattle.hum_stage.proofs.lagging.LaggingStage.held.Goals as goal
use Rattle.hum_stage.proofs.lagging.LaggingStage.held.Goals.{then-is_some-via-then-is_some}
use Rattle.hum_stage.proofs.lagging.LaggingStage.held.Goals.{then-is_some-via-else-is_some+then-is_some-2}

pub returns-then-is_some : goal.returns-then-is_some
returns-then-is_some g c t h = sym (held_stopped _ _ _ _ _ t h (elim c.then-is_some.branch [
  | then-is_some-via-then-is_some w ↦ rw (sym c.is_some.ensures ∙ w.if-is_some.true) refl
  | then-is_some-via-else-is_some+then-is_some-2 w ↦ rw (
    sym c.is_some.ensures ∙ w.if-is_some.false,
    sym w.is_some-else-is_some.ensures ∙ w.if-is_some-2.true,
  ) refl
]))

pub returns-then-is_some-3 : goal.returns-then-is_some-3
returns-then-is_some-3 g c t h =
    let some = due_some c.args.self.now.due (sym c.is_some-2.ensures ∙ c.if-is_some-3.true) in
    let fault = sym c.is_some-else-is_some.ensures ∙ c.if-is_some-2.false in
    let all = held_open _ _ _ _ _ t c.lasting-lasting.result h
    (sym c.is_some.ensures ∙ c.if-is_some.false) fault c.lasting-lasting.ensures in
    let few = held_few _ _ _ _ _ t c.lasting-lasting.result h fault c.lasting-lasting.ensures in
    let due = ap (λ (o : Option Row). with_due o c.lasting-lasting.result) some.1 in
    let sum = c.saturating_add.ensures in
    omega (arith, all, few, due, sum)

pub returns : goal.returns
returns g c t h =
    let none = due_none c.args.self.now.due (sym c.is_some-2.ensures ∙ c.if-is_some-3.false) in
    let all = held_open _ _ _ _ _ t c.lasting-lasting.result h
    (sym c.is_some.ensures ∙ c.if-is_some.false)
    (sym c.is_some-else-is_some.ensures ∙ c.if-is_some-2.false) c.lasting-lasting.ensures in
    let due = ap (λ (o : Option Row). with_due o c.lasting-lasting.result) none in
    omega (arith, all, due)

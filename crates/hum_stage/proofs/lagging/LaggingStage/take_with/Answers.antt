use Rattle.std.proofs.Common.{◌≡◌, ◌∙◌, refl, sym, Option, Some, Ok, Err}
use Rattle.std.specs.Prelude.{Result, slice_get}
use Rattle.hum_score.specs.Row.{Row}
use Rattle.hum_stage.specs.declared.faults.Refusal.{Refusal}
use Rattle.hum_stage.specs.declared.faults.Refusal.TheVariants.{Rule, Memory}
use Rattle.hum_stage.specs.Meaning.{all_of, after_take}
use Rattle.hum_stage.specs.Lagging.{Lags}
use Rattle.hum_stage.proofs.Lags.{lags_none, lags_take, lags_take_refused}
use Rattle.hum_stage.proofs.lagging.LaggingStage.take_with.Goals as goal
use Rattle.hum_stage.specs.declared.TheConstants.{MOST_WAITING}

pub returns-in_default-clause-ok : goal.returns-in_default-clause-ok
returns-in_default-clause-ok g c t h =
    let none = sym c.take.ensures.value ∙ c.in_default.is in
    (lags_none MOST_WAITING _ _ _ _ t h none, rw (c.take.ensures.after ∙ sym none) h)

pub returns-clause-ok : goal.returns-clause-ok
returns-clause-ok g c t h = by_told c.settle_next-due.result refl (sym c.take.ensures.value ∙ c.in-Some.is)
  where
    by_told : (next : Result (Option Row) Refusal) → c.settle_next-due.result ≡ next
        → c.args.self.now.due ≡ Some c.in-Some.row
        → (Some c.in-Some.row ≡ slice_get (all_of t) t.given)
        × Lags MOST_WAITING (g.C.LooksAhead.follows c.note.new.self.memory c.note.new.self.waiting.items) (record {
          stage = c.note.new.self.stage;
          command = c.note.new.self.command;
          line = c.note.new.self.line;
          due = c.note.new.self.due;
          fault = c.note.new.self.fault;
        }) c.note.new.self.ended c.note.new.self.spent (after_take t)
    by_told (Ok due) e at = rw (rw e at c.note.ensures.due)
        (lags_take MOST_WAITING _ _ _ _ _ t _ _ due h at (rw e at c.settle_next-due.ensures.settles))
    by_told (Err (Rule rule)) e at = rw (c.note.ensures.refused rule e, c.take.ensures.after)
        (lags_take_refused MOST_WAITING _ _ _ _ _ _ t _ _ rule h at (rw e at c.settle_next-due.ensures.settles))
    by_told (Err Memory) e at = let failed = rw c.in_ok-note.was at (c.note.ensures.out e) in cc

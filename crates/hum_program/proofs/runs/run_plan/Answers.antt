use Rattle.hum_program.proofs.runs.run_plan.Goals as goal

-- The scores are those of the folder.
pub returns-in-Ok : goal.returns-in-Ok
returns-in-Ok g c =
    let run = c.run_scores-outcome.ensures in
    record {
      plan = c.deref.result.now;
      read = rw c.deref.ensures.value c.in-Ok.ensures.read;
      comes = rw c.new-scores.ensures at run.comes;
      picked = rw c.new-scores.ensures at run.picked;
      ended = rw c.new-scores.ensures at run.ended;
      may = run.may;
      drives = run.drives;
      served = record { marked = run.marked; flushes = run.flushes; refused = λ is. (run.refused is).0 };
    }

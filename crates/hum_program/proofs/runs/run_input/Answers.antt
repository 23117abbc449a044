use Rattle.hum_program.proofs.runs.run_input.Goals as goal

pub returns-in-Ok : goal.returns-in-Ok
returns-in-Ok g c =
    let run = c.run_bundle-outcome.ensures in
    record {
      bundle = c.deref.result.now;
      read = rw c.deref.ensures.value c.in-Ok.ensures.read;
      comes = run.comes;
      picked = run.picked;
      ended = run.ended;
      unread = run.unread;
      served = record { marked = run.marked; flushes = run.flushes; refused = run.refused };
    }

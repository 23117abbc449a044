use Rattle.std.proofs.Common.{◌∙◌, sym, ap, [], ◌∷◌}
use Rattle.hum_score.specs.Spines.{Unopened, after}
use Rattle.hum_stage.proofs.Scores.{Follow-append, through-append}
use Rattle.hum_tests.proofs.scores.score.Goals as goal

pub loop-line-preserved : goal.loop-line-preserved
loop-line-preserved g c =
    let sound = rw c.expect-moves.ensures at c.step.ensures.valid in
    let new = rw c.expect-moves.ensures at c.step.ensures.after in
    let items = rw c.expect.ensures at c.push.ensures.items in
    let inv = c.loop-line.invariant in
    rw items (
      Follow-append Unopened c.loop-line.records.items (c.read-record.result ∷ []) inv.0 (rw inv.1 at sound, tt),
      ap (λ t. t.path) new ∙ (ap (λ p. after p c.read-record.result) inv.1
          ∙ sym (through-append Unopened c.loop-line.records.items (c.read-record.result ∷ []))),
    )

-- No stage gives more records than a score may have.
use Rattle.std.proofs.Common.{ℕ}
use Rattle.hum_score.specs.Row.{Row}
use Rattle.hum_stage.specs.Meaning.{Meaning, IsLawful}
use Rattle.hum_turns.specs.Flow.{so_far}
use Rattle.hum_turns.specs.Plan.{Stage, KeepsFine}
use Rattle.hum_turns.proofs.Fronts.{begins_refl}
use Rattle.hum_nodes.specs.At.{IsLimited}
use Rattle.hum_nodes.specs.Fine.{fine}
use Rattle.hum_nodes.specs.Single.{single}
use Rattle.hum_nodes.proofs.Fining.{fine_is}
use Rattle.hum_nodes.proofs.SingleLaws.{limited}

pub kept_limited : (stage : Stage Row) → KeepsFine fine stage → IsLimited stage
kept_limited stage keeps r a within inputs =
    let out = stage.output r a in
    (fine_is 4294967295 (so_far out) (keeps.front r a out within inputs (begins_refl out))).few

pub single_limited : (from : ℕ) (m : Meaning) → IsLawful m → IsLimited (single from m).stage
single_limited from m law r a within inputs = limited m law a inputs.each

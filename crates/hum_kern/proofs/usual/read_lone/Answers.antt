use Rattle.std.proofs.Common.{◌≡◌, ◌∙◌, ◌+◌, subst, sym, ℕ, take, arith}
use Rattle.std.specs.Prelude.{true}
use Rattle.std.specs.List.{AllByRecursion}
use Rattle.hum_kern.specs.declared.runs.Class.TheVariants.{Plain}
use Rattle.hum_kern.specs.Runs.{run}
use Rattle.hum_kern.specs.Classes.{is_in, is_plain}
use Rattle.hum_kern.proofs.Parts.{run_maximal}
use Rattle.hum_kern.proofs.usual.read_lone.Goals as goal

pub read_behind-requires-clause-plain : goal.read_behind-requires-clause-plain
read_behind-requires-clause-plain c =
    let bytes = c.args.bytes.now in
    let counted : run (is_in Plain) bytes ≡ 0 + run (is_in Plain) bytes = omega arith in
    subst (λ (k : ℕ). AllByRecursion (λ b. is_plain b ≡ true) (take k bytes)) (counted ∙ sym c.run_end-start.ensures.run) (run_maximal Plain bytes).all_in

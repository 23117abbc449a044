use Rattle.std.proofs.lemmas.Result.{err_from_is_err_and}
use Rattle.hum_plan.proofs.Agreed.{one_plan}
use Rattle.hum_plan.proofs.Steps.{fails_as}
use Rattle.hum_plan.proofs.Trees.{answers_a_tree}
use Rattle.hum_plan.proofs.Written.{read_as_written}
use Rattle.hum_plan.proofs.plan.parse_plan.Goals as goal

pub invariant_of-result : goal.invariant_of-result
invariant_of-result c = answers_a_tree c.args.bytes.now _ c.in_ok-stages.ensures

pub returns-clause-written : goal.returns-clause-written
returns-clause-written c = (read_as_written c.args.bytes.now _).0 c.in_ok-stages.ensures

pub returns-clause-tree : goal.returns-clause-tree
returns-clause-tree c = answers_a_tree c.args.bytes.now _ c.in_ok-stages.ensures

pub returns-clause-only : goal.returns-clause-only
returns-clause-only c = λ stages is. one_plan c.args.bytes.now stages _ is c.in_ok-stages.ensures

pub returns-in_err-stages-clause-only : goal.returns-in_err-stages-clause-only
returns-in_err-stages-clause-only c = λ stages is.
    let p = err_from_is_err_and c.from_residual.result c.from_residual.ensures.1 in
    rw (p.1, p.2)
    (fails_as _ _ c.in_err-stages.field-0.0 (λ fault. one_plan c.args.bytes.now stages _ is) c.in_err-stages.ensures)

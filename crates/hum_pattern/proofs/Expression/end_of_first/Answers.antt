use Rattle.std.proofs.Common.{◌∙◌}
use Rattle.hum_pattern.proofs.Reading.{same_end}
use Rattle.hum_pattern.proofs.Expression.end_of_first.Goals as goal

pub returns-clause-found : goal.returns-clause-found
returns-clause-found c =
    c.shortest_match.ensures.found
    ∙ same_end c.args.self.now c.args.token.now _ (rw c.deref_mut.ensures.value (rw c.self.view_is at c.self.invariant.0)) (λ k. (c.type_inv.token k).fits)

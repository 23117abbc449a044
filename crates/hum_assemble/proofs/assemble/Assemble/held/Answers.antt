use Rattle.std.proofs.Common.{◌∙◌, ap, arith, List, length}
use Rattle.hum_assemble.specs.Source.{Source}
use Rattle.hum_assemble.specs.Meaning.{held_by}
use Rattle.hum_assemble.proofs.Calls.{told_held}
use Rattle.hum_assemble.proofs.Standings.{as_many}
use Rattle.hum_assemble.proofs.Few.{few_more}
use Rattle.hum_assemble.proofs.assemble.Assemble.held.Goals as goal

pub returns-clause-held : goal.returns-clause-held
returns-clause-held c = λ t h.
    let h' = rw (← c.self.view_is) at h in
    c.held_by.ensures.held ∙ (ap (λ (ss : List Source). held_by ss c.self.inside.next) c.deref.ensures.value
    ∙ told_held _ _ _ _ _ _ t c.self.invariant h')

pub returns-clause-at_most : goal.returns-clause-at_most
returns-clause-at_most c = λ t h.
    let h' = rw (← c.self.view_is) at h in
    let few = c.held_by.ensures.at_most in
    let sources = ap (λ (ss : List Source). length ss) c.deref.ensures.value in
    let inputs = as_many _ _ _ t h' in
    omega (arith, few, sources, inputs)

pub returns-clause-takes : goal.returns-clause-takes
returns-clause-takes c = λ t h.
    let h' = rw (← c.self.view_is) at h in
    rw (returns-clause-held c t h) (few_more _ _ _ t h')

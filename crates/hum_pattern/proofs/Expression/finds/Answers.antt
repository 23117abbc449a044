use Rattle.std.proofs.Common.{◌∙◌, sym}
use Rattle.regex.specs.Bytes.{regex_source}
use Rattle.hum_pattern.proofs.Reading.{same_test}
use Rattle.hum_pattern.proofs.Expression.finds.Goals as goal

pub returns-clause-found : goal.returns-clause-found
returns-clause-found c =
    c.is_match-found.ensures.found
    ∙ same_test c.args.self.now c.args.token.now _ (rw c.deref_mut.ensures.value (rw c.self.view_is at c.self.invariant.0)) (λ k. (c.type_inv.token k).fits)

pub invariant_of-self : goal.invariant_of-self
invariant_of-self c =
    let text = regex_source c.self.inside.regex.now in (
      rw (c.is_match-found.ensures.same, c.deref_mut.ensures.value) c.self.invariant.0,
      c.remember.ensures text c.self.invariant.1
          (sym (c.is_match-found.ensures.found ∙ same_test text c.args.token.now _
          (rw c.deref_mut.ensures.value c.self.invariant.0) (λ k. (c.type_inv.token k).fits))),
      c.self.invariant.2,
    )

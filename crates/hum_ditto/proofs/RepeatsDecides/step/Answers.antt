use Rattle.std.proofs.lemmas.Bool.Decides.{nat_tests}
use Rattle.std.proofs.Common.{◌∙◌, arith}
use Rattle.hum_ditto.proofs.Steps.{gives_same}
use Rattle.hum_ditto.proofs.RepeatsDecides.step.Goals as goal

pub remember_any-requires-clause-given : goal.remember_any-requires-clause-given
remember_any-requires-clause-given = grind (arith, nat_tests)

pub returns-in_ok-remember_any-in_default : goal.returns-in_ok-remember_any-in_default
returns-in_ok-remember_any-in_default c = λ decide past h sound. (
  gives_same _ _ _ decide past h c.args.next c.kind.ensures.at_most (λ k. absurd (c.in_default.not-Values (c.kind.ensures.kind ∙ k))),
  c.in_ok-remember_any-in_default.ensures decide past h sound,
)

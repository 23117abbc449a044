use Rattle.std.proofs.Common.{◌∙◌, sym}
use Rattle.hum_ditto.proofs.Whole.{data_width}
use Rattle.hum_ditto.proofs.Steps.{stays_given, gives_made, gives_same, refuses_long}
use Rattle.hum_ditto.proofs.Repeats.step_data.Goals as goal

pub remember-requires-clause-given : goal.remember-requires-clause-given
remember-requires-clause-given c =
    stays_given c.args.self.now.memory c.args.next (λ k. sym c.has_null.ensures ∙ c.if-not-has_null.true)

pub returns-then-not-has_null : goal.returns-then-not-has_null
returns-then-not-has_null c = λ decide past h sound. (
  rw c.replace.ensures.after (gives_same _ _ _ decide past h c.args.next c.requires.at_most (λ k. sym c.has_null.ensures ∙ c.if-not-has_null.true)),
  c.in_ok-remember.ensures decide past h sound,
)

pub rebuilt-requires-clause-width : goal.rebuilt-requires-clause-width
rebuilt-requires-clause-width c =
    data_width _ c.requires.score.past c.args.next _ c.requires.score.memory.remembered c.requires.score.score c.requires.kind

pub returns-in_ok-remember-in-Some : goal.returns-in_ok-remember-in-Some
returns-in_ok-remember-in-Some c = λ decide past h sound.
    let is = rw c.in-Some.is at c.in_ok-rebuilt.ensures in (
      rw c.replace-in-Some.ensures.after (gives_made _ _ _ decide past h c.args.next c.in-Some.made c.requires.kind is.0 is.1),
      c.in_ok-remember-in-Some.ensures decide past h sound,
    )

pub returns-in-None : goal.returns-in-None
returns-in-None c = λ decide past h sound.
    refuses_long _ _ _ decide past h c.args.next c.args._room c.requires.kind (rw c.in-None.is at c.in_ok-rebuilt.ensures)

use Rattle.std.proofs.Common.{◌∙◌, sym}
use Rattle.hum_timebase.proofs.Striking.{names_none, names_fits}
use Rattle.hum_timebase.proofs.Writing.{few_tokens}
use Rattle.hum_timebase.proofs.grid.Grid.interpret.Goals as goal

pub returns-then-not-has_exclusive : goal.returns-then-not-has_exclusive
returns-then-not-has_exclusive c = λ room decide past h sound. (
  rw c.put.ensures (names_none _ _ _ _ decide past h c.args.row c.requires.kind (sym c.has_exclusive.ensures ∙ c.if-not-has_exclusive.true)),
  c.in_ok-follow.ensures.spines decide past h,
)

pub tb_record-requires-clause-few : goal.tb_record-requires-clause-few
tb_record-requires-clause-few c = few_tokens c.requires.score.past c.args.row c.requires.score.score c.requires.kind

pub returns : goal.returns
returns c = λ room decide past h sound. (
  rw c.put_both.ensures (names_fits _ _ _ _ decide past h c.args.row c.in_ok-other.other c.requires.kind
      (sym c.has_exclusive.ensures ∙ c.if-not-has_exclusive.false) (rw c.in_ok-follow.ensures.pace at c.in_ok-other.ensures)),
  c.in_ok-follow.ensures.spines decide past h,
)

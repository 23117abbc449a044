use Rattle.hum_ditto.proofs.Whole.{data_width}
use Rattle.hum_ditto.proofs.Steps.{data_path, follows_on}
use Rattle.hum_ditto.proofs.Repeats.remember.Goals as goal

pub see-requires-clause-width : goal.see-requires-clause-width
see-requires-clause-width c =
    data_width _ c.requires.score.past c.args.row.now _ c.requires.score.memory.remembered c.requires.score.score c.requires.kind

pub returns-then-see : goal.returns-then-see
returns-then-see c = λ decide past h sound.
    follows_on _ _ _ decide past h c.args.row.now _ _ _ (data_path _ c.args.row.now c.requires.kind) c.see.ensures.options
    (c.see.ensures.memories c.if-see.true past h.remembered sound)

pub remember_any-requires-clause-score : goal.remember_any-requires-clause-score
remember_any-requires-clause-score c = rw (c.see.ensures.kept c.if-see.false) c.requires.score

pub remember_any-requires-clause-given : goal.remember_any-requires-clause-given
remember_any-requires-clause-given c = rw (c.see.ensures.kept c.if-see.false) c.requires.given

pub returns : goal.returns
returns c = rw (c.see.ensures.kept c.if-see.false) at c.remember_any.ensures

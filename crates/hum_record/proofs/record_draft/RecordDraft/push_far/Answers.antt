use Rattle.std.specs.Prelude.{[], ◌∷◌}
use Rattle.hum_record.proofs.TooLong.{stays_long}
use Rattle.hum_record.proofs.record_draft.RecordDraft.push_far.Goals as goal

pub returns-then-self-clause-pushed : goal.returns-then-self-clause-pushed
returns-then-self-clause-pushed c = λ kind tokens h. stays_long kind _ _ tokens (c.args.token.now ∷ []) c.if-self.true h

use Rattle.std.proofs.Common.{refl}
use Rattle.std.specs.Prelude.{[], ◌∷◌}
use Rattle.hum_record.proofs.TooLong.{holds_more}
use Rattle.hum_record.proofs.record_draft.RecordDraft.push.Goals as goal

pub returns-then-push_near-clause-pushed : goal.returns-then-push_near-clause-pushed
returns-then-push_near-clause-pushed c = λ kind tokens h.
    let added = c.if-push_near.ensures in
    holds_more kind _ _ _ tokens (c.args.token.now ∷ []) (added.pushed refl) (added.fits refl) (added.unspent refl) h

use Rattle.hum_score.specs.declared.records.SpinedKind.TheVariants.{Values}
use Rattle.hum_record.specs.RecordDraft.{Holds}
use Rattle.hum_tones.proofs.Told.{rewritten_given}
use Rattle.hum_tones.proofs.partwise.PartwiseColumnsTokenRewriter.rewrite.Goals as goal

pub returns-then-pushed-clause-rewritten : goal.returns-then-pushed-clause-rewritten
returns-then-pushed-clause-rewritten g c =
    λ rewriting above follows. (follows, rw (follows.command, ← c.giving.ensures) (c.in_ok-pushed.ensures.pushed c.if-pushed.true))

pub returns-clause-rewritten : goal.returns-clause-rewritten
returns-clause-rewritten g c =
    rw (c.rewrite_any.ensures.same, ← c.in_ok-pushed.ensures.kept c.if-pushed.false) (rewritten_given (g.G.Partwise.heading c.args.self.now.command) (g.G.Partwise.giving c.args.self.now.command) c.args._j c.args.token.now
    (Holds Values c.push_usual.new.making.builder c.push_usual.new.making.is_long) (Holds Values c.rewrite_any.new.making.builder c.rewrite_any.new.making.is_long)
    c.rewrite_any.result c.rewrite_any.ensures.pushed)

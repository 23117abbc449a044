use Rattle.std.proofs.Common.{◌∙◌, sym, get_or, []}
use Rattle.hum_score.specs.declared.records.SpinedKind.TheVariants.{Values}
use Rattle.hum_record.specs.RecordDraft.{Holds}
use Rattle.hum_cells.proofs.Telling.{stays, pushed_on}
use Rattle.hum_cells.proofs.tokens.push_told.Goals as goal

pub returns-then-not-is_rewritten-clause-pushed : goal.returns-then-not-is_rewritten-clause-pushed
returns-then-not-is_rewritten-clause-pushed g c = λ rewriting above h. (
  c.in_ok-hear.ensures rewriting above h,
  (
    c.args.token.now,
    stays rewriting.becomes c.args.kern (get_or above c.args.j []) c.args.token.now (sym c.is_rewritten.ensures ∙ c.if-not-is_rewritten.true),
    λ tokens held. c.in_ok-push.ensures.pushed _ tokens held,
  ),
)

pub returns-clause-pushed : goal.returns-clause-pushed
returns-clause-pushed g c =
    pushed_on c.rewrite.result (g.T.TokenRewriter.follows c.args.teller.now) (g.T.TokenRewriter.follows c.rewrite.new.self) c.args.j
    c.args.kern c.args.token.now (Holds Values c.args.making.now.builder c.args.making.now.is_long)
    (Holds Values c.rewrite.new.making.builder c.rewrite.new.making.is_long)
    (sym c.is_rewritten.ensures ∙ c.if-not-is_rewritten.false) c.rewrite.ensures.rewritten

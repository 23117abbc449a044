use Rattle.hum_score.specs.declared.records.SpinedKind.TheVariants.{Values}
use Rattle.hum_record.specs.RecordDraft.{Holds}
use Rattle.hum_tones.proofs.MintSteps.{within_new, has_rewritten}
use Rattle.hum_tones.proofs.mint.MintTokensTokenRewriter.rewrite.Goals as goal

pub at-requires : goal.at-requires
at-requires c =
    within_new c.args.self.now.options c.args.self.now.carried.each c.see.new.self.each c.args.j c.args.token.now
    c.requires.column c.in_ok-see.ensures.seen

pub returns-clause-rewritten : goal.returns-clause-rewritten
returns-clause-rewritten c =
    rw c.see.ensures.kept (has_rewritten c.args.self.now.options c.args.self.now.carried.each c.see.new.self.each c.args.j c.args.token.now
    c.at.result.now (Holds Values c.args.making.now.builder c.args.making.now.is_long)
    (Holds Values c.push.new.making.builder c.push.new.making.is_long)
    c.requires.column c.in_ok-see.ensures.seen c.requires.lawful c.requires.told c.at.ensures c.push.result c.push.ensures.pushed)

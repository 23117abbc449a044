use Rattle.hum_path.proofs.Carry.{on_ok}
use Rattle.hum_tones.proofs.MintSteps.{heard_more}
use Rattle.hum_tones.proofs.mint.MintTokensTokenRewriter.hear.Goals as goal

pub returns : goal.returns
returns c =
    on_ok c.see.result (λ saw.
    rw c.see.ensures.kept (heard_more c.args.self.now.options c.args.self.now.carried.each c.see.new.self.each c.args.j c.args.token.now
    c.requires.column saw)) c.see.ensures.seen

use Rattle.hum_context.proofs.Tokens.{token_short}
use Rattle.hum_context.proofs.queued.Queued.bytes.Goals as goal

pub returns-then-c-width-clause-few : goal.returns-then-c-width-clause-few
returns-then-c-width-clause-few c = rw c.token.ensures.token (token_short c.args.self.now.row
    c.args.c c.kind-kind.ensures.at_most)

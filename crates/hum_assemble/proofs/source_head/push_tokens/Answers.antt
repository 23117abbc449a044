use Rattle.std.proofs.lemmas.Grind.{common_steps}
use Rattle.std.proofs.lemmas.Bool.Decides.{nat_tests}
use Rattle.std.proofs.Common.{arith}
use Rattle.hum_score.specs.Row.{tokens_of}
use Rattle.hum_assemble.proofs.Pushing.{first_added, next_added, token_lawful}
use Rattle.hum_assemble.proofs.Room.{token_fits}
use Rattle.hum_assemble.proofs.source_head.push_tokens.Goals as goal

pub push_fitting-requires-clause-fits : goal.push_fitting-requires-clause-fits
push_fitting-requires-clause-fits = grind (arith, nat_tests, token_fits)

pub loop-j-init : goal.loop-j-init
loop-j-init c = first_added c.args.builder.now

pub token-requires : goal.token-requires
token-requires = grind (arith, nat_tests)

pub push_fitting-requires-clause-lawful : goal.push_fitting-requires-clause-lawful
push_fitting-requires-clause-lawful c =
    let width = c.width-j-end.ensures in
    let test = c.loop-j-test.true in
    token_lawful c.loop-j.builder c.args.builder.now _ (tokens_of c.args.row.now) c.token.result.now c.loop-j.j
    c.loop-j.invariant c.token.ensures.token c.requires.tokens (omega (arith, width, test))

pub loop-j-preserved : goal.loop-j-preserved
loop-j-preserved c =
    let width = c.width-j-end.ensures in
    let test = c.loop-j-test.true in
    next_added c.args.builder.now c.loop-j.builder _ (tokens_of c.args.row.now) c.token.result.now c.loop-j.j
    c.loop-j.invariant c.in_ok-push_fitting.ensures.pushed c.token.ensures.token (omega (arith, width, test))

pub returns : goal.returns
returns = grind (arith, common_steps)

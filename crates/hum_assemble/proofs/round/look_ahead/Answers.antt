use Rattle.std.proofs.lemmas.Bool.Decides.{nat_tests}
use Rattle.std.proofs.Common.{◌∙◌, sym, arith}
use Rattle.hum_assemble.proofs.Notes.{none_due, waits_ahead}
use Rattle.hum_assemble.proofs.round.look_ahead.Goals as goal

pub returns-then-all_wait-clause-going : goal.returns-then-all_wait-clause-going
returns-then-all_wait-clause-going c = sym (none_due c.args.sources.now (sym c.all_wait.ensures ∙ c.if-all_wait.true))

pub returns-then-all_wait-clause-next : goal.returns-then-all_wait-clause-next
returns-then-all_wait-clause-next = grind (arith, nat_tests, waits_ahead)

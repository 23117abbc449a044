use Rattle.std.proofs.Common.{sym, ◌∙◌}
use Rattle.hum_tests.proofs.example.make_rounds.Goals as goal

pub turn-requires-clause-ready : goal.turn-requires-clause-ready
turn-requires-clause-ready g c start s now here = sym (c.ready.ensures start s now here) ∙ c.if-ready.true

pub returns : goal.returns
returns g c start s now here = c.result.ensures start s now here

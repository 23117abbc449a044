use Rattle.std.proofs.Common.{arith}
use Rattle.std.proofs.lemmas.Grind.{common_steps}
use Rattle.hum_context.proofs.becoming.started.Goals as goal

pub offset_bounds-walks-j : goal.offset_bounds-walks-j
offset_bounds-walks-j c = grind (arith, common_steps)

pub bounds-walks-j : goal.bounds-walks-j
bounds-walks-j c = grind (arith, common_steps)

pub returns-then-at-walk-clause-behind : goal.returns-then-at-walk-clause-behind
returns-then-at-walk-clause-behind c = grind (arith, common_steps)

pub returns-clause-behind : goal.returns-clause-behind
returns-clause-behind c = grind (arith, common_steps)

pub returns-clause-stands : goal.returns-clause-stands
returns-clause-stands c = grind (arith, common_steps)

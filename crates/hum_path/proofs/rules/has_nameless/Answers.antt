use Rattle.std.proofs.lemmas.Grind.{common_steps}
use Rattle.std.proofs.Common.{◌∙◌, sym, arith}
use Rattle.hum_path.proofs.ByPlace.{nameless_at}
use Rattle.hum_path.proofs.rules.has_nameless.Goals as goal

pub returns-then-is_empty : goal.returns-then-is_empty
returns-then-is_empty c =
    let test = rw c.name-item.result.ok.0 at (sym c.if-is_empty.ensures) in
    sym (nameless_at c.args.names.now c.loop-name.name-index c.name-item.result c.loop-name-test.true c.name-item.is test)
    ∙ c.loop-name.invariant

pub loop-name-preserved : goal.loop-name-preserved
loop-name-preserved c =
    let test = rw c.name-item.result.ok.0 at (sym c.if-is_empty.ensures) in
    sym (nameless_at c.args.names.now c.loop-name.name-index c.name-item.result c.loop-name-test.true c.name-item.is test)
    ∙ c.loop-name.invariant

pub returns : goal.returns
returns = grind (arith, common_steps)

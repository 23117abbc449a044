use Rattle.std.proofs.Common.{◌∙◌, take, ap, arith}
use Rattle.hum_text.proofs.WindowLemmas.{front-stays}
use Rattle.hum_text.proofs.block.read_at.Goals as goal

pub returns-clause-front : goal.returns-clause-front
returns-clause-front g c =
    let less = c.requires in
    front-stays c.args.at c.args.bytes.now.len c.deref_mut.result.now _ _ (omega (arith, less)) (omega (arith, less, c.deref_mut.ensures.len))
    ∙ ap (take c.args.at) c.deref_mut.ensures.value

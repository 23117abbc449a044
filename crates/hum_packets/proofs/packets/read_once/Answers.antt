use Rattle.std.proofs.Common.{◌∙◌, take, ap, arith}
use Rattle.hum_text.proofs.WindowLemmas.{front-stays}
use Rattle.hum_packets.proofs.packets.read_once.Goals as goal

pub returns-in-Ok-clause-front : goal.returns-in-Ok-clause-front
returns-in-Ok-clause-front g c =
    let fits = c.requires.room in
    front-stays c.args.end c.args.room.now.len c.deref_mut.result.now _ _ (omega (arith, fits)) (omega (arith, fits, c.deref_mut.ensures.len))
    ∙ ap (take c.args.end) c.deref_mut.ensures.value

pub returns-in-Err-clause-front : goal.returns-in-Err-clause-front
returns-in-Err-clause-front g c =
    let fits = c.requires.room in
    front-stays c.args.end c.args.room.now.len c.deref_mut.result.now _ _ (omega (arith, fits)) (omega (arith, fits, c.deref_mut.ensures.len))
    ∙ ap (take c.args.end) c.deref_mut.ensures.value

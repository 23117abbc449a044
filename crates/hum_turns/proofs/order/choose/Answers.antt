use Rattle.std.proofs.Common.{◌≡◌, get_or, true, false, subst, arith}
use Rattle.hum_turns.proofs.Places.{some_chosen, chosen_end}
use Rattle.hum_turns.proofs.order.choose.Goals as goal

pub returns-clause-is_ready : goal.returns-clause-is_ready
returns-clause-is_ready c some =
    let ready = c.args.ready.now in
    let loop = c.loop-k in
    let all = chosen_end ready c.args.pick loop.k loop.invariant.lacks loop.invariant.rest
    (omega arith) in
    subst (λ k. get_or ready k false ≡ true) all (some_chosen ready c.args.pick some)

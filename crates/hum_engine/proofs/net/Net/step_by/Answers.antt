use Rattle.std.proofs.Common.{arith, ap, inr, inl}
use Rattle.hum_engine.proofs.Advancing.{advanced_twice, pick_now}
use Rattle.hum_engine.proofs.Choosing.{flags_asked, flags_go, flags_list, flags_may, flags_on, flags_pick, flags_ready}
use Rattle.hum_engine.proofs.Choosing.{flags_set}
use Rattle.hum_engine.proofs.net.Net.step_by.Goals as goal

pub mark-requires : goal.mark-requires
mark-requires g c = (pick_now c.requires).running

pub pick-pick-requires : goal.pick-pick-requires
pick-pick-requires g c =
    let m = c.mark.ensures in
    flags_pick (flags_may m.same m.len c.requires) (flags_list m.same m.len m.list) c.deref.ensures.value

pub turn-requires : goal.turn-requires
turn-requires g c =
    let m = c.mark.ensures in
    flags_go (flags_may m.same m.len c.requires) (flags_list m.same m.len m.list) c.pick-pick.result
    c.deref-2.ensures.value c.choose-actor.ensures.chosen

pub returns-clause-advanced : goal.returns-clause-advanced
returns-clause-advanced g c =
    let m = c.mark.ensures in
    let may = flags_may m.same m.len c.requires in
    let list = flags_list m.same m.len m.list in
    advanced_twice c.requires (flags_set m.same m.len c.requires)
    (flags_on (flags_asked may list c.pick-pick.result c.deref-2.ensures.value c.choose-actor.ensures.chosen
    c.deref.ensures.value c.pick-pick.ensures.picks c.pick-pick.ensures.after)
    (flags_ready may list c.pick-pick.result c.deref-2.ensures.value c.choose-actor.ensures.chosen) c.turn.ensures.gone)

pub returns-clause-closer : goal.returns-clause-closer
returns-clause-closer g c =
    inr (inl (omega (arith, c.turn.ensures.gone.turns, ap (λ n. n.turns) c.mark.ensures.same)))

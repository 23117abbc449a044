use Rattle.std.proofs.Common.{refl}
use Rattle.std.proofs.lemmas.Result.{err_from_is_err_and}
use Rattle.hum_engine.proofs.Feeding.{node_at, link_at}
use Rattle.hum_engine.proofs.Acting.{keeps, gives_room, gave, gives_some}
use Rattle.hum_engine.proofs.web.Web.give.Goals as goal

pub push-requires : goal.push-requires
push-requires g c = record { room = gives_room c.requires.may.holds c.index_mut-in-Some.ensures.value }

pub returns-in-Some-clause-given : goal.returns-in-Some-clause-given
returns-in-Some-clause-given g c s may =
    gave may c.take.new.self (node_at may.about.actor.less may.about.actor.at.stand c.index_mut.ensures.value)
    c.in_ok-row.ensures.taken c.push.new.self (link_at may.about.actor.less may.about.actor.at.stand c.index_mut-in-Some.ensures.value)
    c.in-Some.is c.push.ensures.pushed refl refl

pub returns-in_default-clause-given : goal.returns-in_default-clause-given
returns-in_default-clause-given g c s may =
    let x = gives_some may c.take.new.self (node_at may.about.actor.less may.about.actor.at.stand c.index_mut.ensures.value)
    c.in_ok-row.ensures.taken in
    absurd (c.in_default.not-Some x.0 x.1)

pub returns-in_err-row : goal.returns-in_err-row
returns-in_err-row g c =
    let p = err_from_is_err_and c.from_residual.result c.from_residual.ensures.1 in
    record { given = rw p.1 tt; nodes = keeps c.take.new.self c.take.ensures.kind refl }

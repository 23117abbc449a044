use Rattle.std.proofs.Common.{arith}
use Rattle.hum_engine.proofs.Doings.{gives_about, wants_about, done_about}
use Rattle.hum_engine.proofs.Nexts.{next_about, next_source, next_within, wanting}
use Rattle.hum_engine.proofs.Readying.{room_gives, unset_ends, some_takes}
use Rattle.hum_engine.proofs.web.Web.can.Goals as goal

pub index-requires-in-Wants-2 : goal.index-requires-in-Wants-2
index-requires-in-Wants-2 g c =
    let a = (wants_about c.requires.about.holds c.in-Wants.is).1 in
    let w = wanting a c.requires.stage c.index-in-Wants.ensures c.source-source.ensures in
    omega (arith, next_within w a.actor, c.args.self.now.links.ok.0)

pub returns-in-Gives : goal.returns-in-Gives
returns-in-Gives g c s a = room_gives (gives_about a c.in-Gives.is) c.index.ensures c.has_room.ensures.has_room

pub returns-in-Wants : goal.returns-in-Wants
returns-in-Wants g c s a =
    let w = wanting (wants_about a c.in-Wants.is).1 c.requires.stage c.index-in-Wants.ensures c.source-source.ensures in
    some_takes (next_about w a.actor) (next_source w a.actor) c.index-in-Wants-2.ensures c.has_more.ensures

pub returns-in-Done : goal.returns-in-Done
returns-in-Done g c s a = unset_ends (done_about a c.in-Done.is).1 c.index-in-Done.ensures c.is_unset.ensures

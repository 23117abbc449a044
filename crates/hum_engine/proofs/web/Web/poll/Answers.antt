use Rattle.std.proofs.Common.{◌∙◌, Some, refl, ap, ap₂}
use Rattle.hum_read.specs.Steps.{given_by}
use Rattle.hum_engine.proofs.Feeding.{turn_link, source_room, why_stopped, source_full, told_read}
use Rattle.hum_engine.proofs.Feeding.{told_failed, link_of}
use Rattle.hum_engine.proofs.web.Web.poll.Goals as goal

pub push-requires : goal.push-requires
push-requires g c =
    let room = source_room c.requires.turn c.index_mut.ensures.value c.requires.source c.index_mut-in-Some.ensures.value in
    record { room = room }

pub returns-then-not-has_room : goal.returns-then-not-has_room
returns-then-not-has_room g c =
    let link = turn_link c.requires.turn c.index_mut-in-Some.ensures.value in (
      told_read c.requires.turn c.index_mut.ensures.value _ c.next.new.self refl _ c.next.ensures.once c.next.ensures.marks
          c.requires.source c.push.new.self link (ap₂ given_by c.in-Some.is refl) c.next.ensures.polled c.push.ensures.pushed refl,
      source_full c.requires.turn c.index_mut.ensures.value _ c.next.new.self refl c.push.new.self
          c.next.ensures.kind link refl c.index.ensures c.has_room.ensures.room c.if-not-has_room.true,
    )

pub returns-else-not-has_room : goal.returns-else-not-has_room
returns-else-not-has_room g c =
    told_read c.requires.turn c.index_mut.ensures.value _ c.next.new.self refl _ c.next.ensures.once c.next.ensures.marks
    c.requires.source c.push.new.self (turn_link c.requires.turn c.index_mut-in-Some.ensures.value)
    (ap₂ given_by c.in-Some.is refl) c.next.ensures.polled c.push.ensures.pushed refl

pub returns-in-Some-Ok : goal.returns-in-Some-Ok
returns-in-Some-Ok g c =
    told_read c.requires.turn c.index_mut.ensures.value _ c.next.new.self refl _ c.next.ensures.once c.next.ensures.marks
    c.requires.source
    c.end.new.self (turn_link c.requires.turn c.index_mut-in-Some-Ok.ensures.value)
    (ap₂ given_by c.in-None.is (why_stopped c.requires.turn c.index_mut.ensures.value _ c.index-in-None.ensures c.stopped.ensures
    ∙ c.in-Some-Ok.is ∙ ap Some c.in-Some-Ok.field-0-is))
    c.next.ensures.polled c.end.ensures refl

pub returns-in-None-stopped : goal.returns-in-None-stopped
returns-in-None-stopped g c =
    let link = link_of g.S.Stage c.args.k c.args.self.now _ c.requires.turn.holds.actor.less
    c.requires.turn.holds.actor.at.stand in
    told_read c.requires.turn c.index_mut.ensures.value _ c.next.new.self refl _ c.next.ensures.once c.next.ensures.marks
    c.requires.source link.0 link.1
    (ap₂ given_by c.in-None.is (why_stopped c.requires.turn c.index_mut.ensures.value _ c.index-in-None.ensures c.stopped.ensures
    ∙ c.in-None-stopped.is))
    c.next.ensures.polled tt refl

pub returns-in-Some-Err : goal.returns-in-Some-Err
returns-in-Some-Err g c =
    told_failed c.requires.turn c.index_mut.ensures.value _ c.next.new.self refl _ c.next.ensures.once c.next.ensures.marks
    c.requires.source
    (ap₂ given_by c.in-None.is (why_stopped c.requires.turn c.index_mut.ensures.value _ c.index-in-None.ensures c.stopped.ensures
    ∙ c.in-Some-Err.is ∙ ap Some c.in-Some-Err.field-0-is))
    c.next.ensures.stays

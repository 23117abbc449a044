use Rattle.std.proofs.Common.{◌∙◌, refl, sym}
use Rattle.hum_engine.proofs.Answered.{acted, polled_comes, may_try, may_turn, gives_ready, ends_ready, told_own, told_given, told_out}
use Rattle.hum_engine.proofs.Doings.{doing_is, gives_about}
use Rattle.hum_engine.proofs.Turning.{kind_at}
use Rattle.hum_engine.proofs.Readying.{room_gives}
use Rattle.hum_engine.proofs.web.Web.turn_by_readiness.Goals as goal

pub pass-requires-clause-about : goal.pass-requires-clause-about
pass-requires-clause-about g c =
    may_try (doing_is c.requires c.index-node.ensures c.readiness.ensures c.in-Wants.is (sym c.is_source.ensures ∙ c.if-is_source.false)) c.requires

pub pass-requires-clause-stage : goal.pass-requires-clause-stage
pass-requires-clause-stage g c = (doing_is c.requires c.index-node.ensures c.readiness.ensures c.in-Wants.is
    (sym c.is_source.ensures ∙ c.if-is_source.false)).0

pub may_read-requires-clause-source : goal.may_read-requires-clause-source
may_read-requires-clause-source g c = kind_at c.requires.holds c.index-node.ensures (sym c.is_source.ensures ∙ c.if-is_source.true)

pub poll-requires-clause-source : goal.poll-requires-clause-source
poll-requires-clause-source g c = kind_at c.requires.holds c.index-node.ensures (sym c.is_source.ensures ∙ c.if-is_source.true)

pub give-requires-clause-may : goal.give-requires-clause-may
give-requires-clause-may g c =
    let a = gives_about ((doing_is c.requires c.index-node.ensures c.readiness.ensures c.in-Gives.is (sym c.is_source.ensures ∙ c.if-is_source.false)).1 _
    c.requires.holds.at c.requires.holds.less) refl in
    let can = sym (room_gives a c.index.ensures c.has_room.ensures.has_room) ∙ c.if-not-has_room.false in
    record { scene = c.requires.scene; holds = record { about = a; can = can } }

pub give-requires-clause-stage : goal.give-requires-clause-stage
give-requires-clause-stage g c = (doing_is c.requires c.index-node.ensures c.readiness.ensures c.in-Gives.is (sym c.is_source.ensures ∙ c.if-is_source.false)).0

pub close-requires-clause-turn : goal.close-requires-clause-turn
close-requires-clause-turn g c =
    may_turn c.requires (sym (ends_ready (doing_is c.requires c.index-node.ensures c.readiness.ensures c.in-Done.is
    (sym c.is_source.ensures ∙ c.if-is_source.false)) c.requires.holds
    c.index-in-Done.ensures c.is_unset.ensures) ∙ c.if-not-is_unset.false)

pub close-requires-clause-done : goal.close-requires-clause-done
close-requires-clause-done g c = doing_is c.requires c.index-node.ensures c.readiness.ensures c.in-Done.is (sym c.is_source.ensures ∙ c.if-is_source.false)

pub returns-then-not-has_room : goal.returns-then-not-has_room
returns-then-not-has_room g c =
    let doing = doing_is c.requires c.index-node.ensures c.readiness.ensures c.in-Gives.is (sym c.is_source.ensures ∙ c.if-is_source.false) in
    record {
      idle = λ s h. sym (gives_ready doing h c.index.ensures c.has_room.ensures.has_room) ∙ c.if-not-has_room.true;
      same = refl;
    }

pub returns-in-Ok : goal.returns-in-Ok
returns-in-Ok g c =
    let doing = doing_is c.requires c.index-node.ensures c.readiness.ensures c.in-Gives.is (sym c.is_source.ensures ∙ c.if-is_source.false) in
    acted c.requires
    (λ s h. sym (gives_ready doing h c.index.ensures c.has_room.ensures.has_room) ∙ c.if-not-has_room.false)
    (λ here. told_given doing c.give.ensures.nodes here c.in-Ok.ensures.given)

pub returns-in-Err : goal.returns-in-Err
returns-in-Err g c =
    let doing = doing_is c.requires c.index-node.ensures c.readiness.ensures c.in-Gives.is (sym c.is_source.ensures ∙ c.if-is_source.false) in
    acted c.requires
    (λ s h. sym (gives_ready doing h c.index.ensures c.has_room.ensures.has_room) ∙ c.if-not-has_room.false)
    (λ here. told_out doing.0 c.give.ensures.nodes)

pub returns-then-not-is_unset : goal.returns-then-not-is_unset
returns-then-not-is_unset g c =
    let doing = doing_is c.requires c.index-node.ensures c.readiness.ensures c.in-Done.is (sym c.is_source.ensures ∙ c.if-is_source.false) in
    record {
      idle = λ s h. sym (ends_ready doing h c.index-in-Done.ensures c.is_unset.ensures) ∙ c.if-not-is_unset.true;
      same = refl;
    }

pub returns-else-not-is_unset : goal.returns-else-not-is_unset
returns-else-not-is_unset g c =
    let doing = doing_is c.requires c.index-node.ensures c.readiness.ensures c.in-Done.is (sym c.is_source.ensures ∙ c.if-is_source.false) in
    acted c.requires
    (λ s h. sym (ends_ready doing h c.index-in-Done.ensures c.is_unset.ensures) ∙ c.if-not-is_unset.false)
    (λ here. told_own doing.0 c.close.ensures.nodes here.holds c.close.ensures.done c.close.ensures.link)

pub returns-then-is_source : goal.returns-then-is_source
returns-then-is_source g c =
    polled_comes g.R.Source _ c.poll.result (λ s h. sym (c.may_read.ensures s h) ∙ c.if-not-may_read.false) c.poll.ensures

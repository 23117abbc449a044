use Rattle.hum_path.proofs.Climbing.{unmoved, steered}
use Rattle.hum_path.proofs.origins.Origins.follow.Goals as goal

pub returns-then-not-moves_some-clause-origins : goal.returns-then-not-moves_some-clause-origins
returns-then-not-moves_some-clause-origins c past h sound told =
    let size = c.self.inside.each.ok.0 in
    let len = c.len.ensures in
    unmoved c.args.row.now past c.args.self.now.each c.args.found.now
    (λ k. rw (← c.self.view_is) (rw (len, size) at c.moves_some.ensures.no c.if-not-moves_some.true k)) h told

pub returns-clause-origins : goal.returns-clause-origins
returns-clause-origins c past h sound told =
    let next = rw c.deref.ensures.value at c.in_ok-self-inside.ensures in
    steered c.args.row.now past c.args.self.now.each c.in_ok-self-inside.field-0.items c.args.found.now
    (c.moves_some.ensures.yes c.if-not-moves_some.false) (rw (← c.self.view_is) next) h sound told

use Rattle.std.proofs.Common.{refl}
use Rattle.hum_path.proofs.Carry.{on_ok}
use Rattle.hum_ditto.proofs.Passing.{stays_followed, steers_width, steers_followed, each_followed}
use Rattle.hum_ditto.proofs.memory.LastTokens.follow_interpretation.Goals as goal

pub returns-then-leaves_all-clause-memories : goal.returns-then-leaves_all-clause-memories
returns-then-leaves_all-clause-memories c =
    stays_followed c.args.self.now c.self.inside.options c.self.inside.holding c.in-Given.held c.in-Given.stays c.self.view_is c.in-Given.is
    (rw c.in-Given.is at c.self.invariant) c.args.row.now c.args.found c.width.result c.requires.kind c.requires.lawful c.requires.come
    c.width.ensures (c.leaves_all.ensures.moved c.if-leaves_all.true) (c.leaves_all.ensures.named c.if-leaves_all.true)

pub each_of-requires-clause-width : goal.each_of-requires-clause-width
each_of-requires-clause-width c =
    steers_width c.args.self.now c.self.inside.options c.self.inside.holding c.in-Given.held c.in-Given.stays c.self.view_is c.in-Given.is
    (rw c.in-Given.is at c.self.invariant) c.args.row.now c.args.found c.requires.kind c.requires.score

pub returns-in-Given-clause-memories : goal.returns-in-Given-clause-memories
returns-in-Given-clause-memories c =
    steers_followed c.args.self.now c.self.inside.options c.self.inside.holding c.in-Given.held c.in-Given.stays c.self.view_is c.in-Given.is
    (rw c.in-Given.is at c.self.invariant) c.args.row.now c.args.found c.each_of.new.skip c.in_ok-each-in-Given.each.each c.follow.new.self.each
    c.each_of.ensures.kept c.in_ok-each-in-Given.ensures.each c.in_ok-follow-in-Given.ensures.memories

pub returns-clause-memories : goal.returns-clause-memories
returns-clause-memories c =
    on_ok c.follow-in-Each.result (λ on.
    each_followed c.args.self.now c.self.inside.options c.self.inside.holding c.in-Each.each.each c.follow-in-Each.new.self.each c.args.row.now
    c.args.found c.self.view_is (rw c.in-Each.is refl) on) c.follow-in-Each.ensures.memories

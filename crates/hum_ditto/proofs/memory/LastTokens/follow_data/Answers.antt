use Rattle.std.proofs.Common.{refl}
use Rattle.hum_path.proofs.Carry.{on_ok}
use Rattle.hum_ditto.proofs.Passing.{begins_whole, begins_followed, goes_on_whole, goes_on_followed, each_followed}
use Rattle.hum_ditto.proofs.memory.LastTokens.follow_data.Goals as goal

pub invariant_of-self : goal.invariant_of-self
invariant_of-self c =
    goes_on_whole c.args.self.now c.self.inside.options c.self.inside.holding c.in-Given.held c.in-Given.field-1 c.self.view_is c.in-Given.is
    (rw c.in-Given.is at c.self.invariant) c.args.row.now c.args.given.now c.replace.new.held c.args.found c.replace.result
    c.requires.kind c.requires.lawful c.requires.score c.requires.given c.replace.ensures.given c.replace.ensures.kept

pub returns-in-Given-clause-memories : goal.returns-in-Given-clause-memories
returns-in-Given-clause-memories c =
    on_ok c.replace.result (λ made.
    goes_on_followed c.args.self.now c.self.inside.options c.self.inside.holding c.in-Given.held c.in-Given.field-1 c.self.view_is c.in-Given.is
    (rw c.in-Given.is at c.self.invariant) c.args.row.now c.args.given.now c.replace.new.held c.args.found
    c.requires.kind c.requires.lawful c.requires.come c.requires.given made) c.replace.ensures.given

pub invariant_of-self-then-is_plain : goal.invariant_of-self-then-is_plain
invariant_of-self-then-is_plain c =
    begins_whole c.args.self.now c.self.inside.options c.self.inside.holding c.args.row.now c.args.given.now c.in_ok-copy-in-Each.copy c.args.found
    c.self.view_is (c.is_plain.ensures.skips_none c.if-is_plain.true) (c.is_plain.ensures.bare c.if-is_plain.true)
    c.requires.kind c.requires.lawful c.requires.score c.requires.given c.in_ok-copy-in-Each.ensures

pub returns-then-is_plain-clause-memories : goal.returns-then-is_plain-clause-memories
returns-then-is_plain-clause-memories c =
    begins_followed c.args.self.now c.self.inside.options c.self.inside.holding c.args.row.now c.args.given.now c.in_ok-copy-in-Each.copy c.args.found
    c.self.view_is (c.is_plain.ensures.skips_none c.if-is_plain.true) (c.is_plain.ensures.bare c.if-is_plain.true)
    c.requires.kind c.requires.lawful c.requires.come c.requires.given c.in_ok-copy-in-Each.ensures

pub returns-clause-memories : goal.returns-clause-memories
returns-clause-memories c =
    on_ok c.follow.result (λ on.
    each_followed c.args.self.now c.self.inside.options c.self.inside.holding c.in-Each.each.each c.follow.new.self.each c.args.row.now c.args.found
    c.self.view_is (rw c.in-Each.is refl) on) c.follow.ensures.memories

use Rattle.hum_ditto.proofs.Passing.{sees_whole, sees_followed, sees_kept}
use Rattle.hum_ditto.proofs.memory.LastTokens.see.Goals as goal

pub invariant_of-self-2 : goal.invariant_of-self-2
invariant_of-self-2 c =
    sees_whole c.args.self.now c.self.inside.options c.self.inside.holding c.in-Given.held c.in-Given.field-1 c.self.view_is c.in-Given.is
    (rw c.in-Given.is at c.self.invariant) c.args.row.now c.args.given.now c.copy_over.new.held c.copy_over.result
    c.requires.kind c.requires.lawful c.requires.width c.requires.given c.copy_over.ensures.given c.copy_over.ensures.kept

pub returns-clause-memories : goal.returns-clause-memories
returns-clause-memories c = λ so.
    sees_followed c.args.self.now c.self.inside.options c.self.inside.holding c.in-Given.held c.in-Given.field-1 c.self.view_is c.in-Given.is
    (rw c.in-Given.is at c.self.invariant) c.args.row.now c.args.given.now c.copy_over.new.held
    c.requires.kind c.requires.lawful c.requires.given (c.copy_over.ensures.given so)

pub returns-clause-kept : goal.returns-clause-kept
returns-clause-kept c = λ no.
    sees_kept c.args.self.now c.self.inside.options c.self.inside.holding c.in-Given.held c.in-Given.field-1 c.self.view_is c.in-Given.is
    (rw c.in-Given.is at c.self.invariant) c.copy_over.new.held (c.copy_over.ensures.kept no)

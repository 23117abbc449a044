use Rattle.std.proofs.Common.{◌∙◌, sym}
use Rattle.hum_context.proofs.Passing.{pass_none, pass_one}
use Rattle.hum_context.proofs.walk.Walk.pass.Goals as goal

pub returns-in-Passed-clause-has : goal.returns-in-Passed-clause-has
returns-in-Passed-clause-has c o path rows row j want known at short h =
    let e = c.pass_by.ensures in
    pass_none o path rows row j c.args.c c.args.next.now c.args.self.now _ known at short h
    (sym c.heard.ensures ∙ c.in-Passed.is) e.column e.ended e.same e.text e.short

pub returns-in-Taken-clause-has : goal.returns-in-Taken-clause-has
returns-in-Taken-clause-has c o path rows row j want known at short h =
    let e = c.collect.ensures in
    pass_one o path rows row j c.args.c c.args.next.now c.args.self.now _ c.args.wanted
    c.in-Taken.begins c.in-Taken.ends want known at short h
    (sym c.heard.ensures ∙ c.in-Taken.is) e.column e.ended e.count e.enough e.says

use Rattle.std.proofs.Common.{◌∙◌, ap, length, sym}
use Rattle.hum_context.proofs.Shorter.{shorter_none, shorter_one}
use Rattle.hum_context.proofs.walk.Walk.lose.Goals as goal

pub returns-in-Passed-clause-has : goal.returns-in-Passed-clause-has
returns-in-Passed-clause-has c o path row front i want known below h at =
    shorter_none o path row front c.args.j i c.args.kept.now c.args.self.now known below
    (sym c.heard.ensures ∙ c.in-Passed.is) h

pub returns-in-Taken-clause-has : goal.returns-in-Taken-clause-has
returns-in-Taken-clause-has c o path row front i want known below h at =
    shorter_one o path row front c.args.j i c.args.kept.now c.args.self.now _ c.args.wanted
    c.in-Taken.begins c.in-Taken.ends want known below
    (sym c.heard.ensures ∙ c.in-Taken.is) h c.lose_taken.ensures.has
    (λ n some tokens. c.lose_taken.ensures.says n some _ tokens
    (ap length (rw known.is at c.token-first.ensures.token))) at

use Rattle.std.proofs.Common.{◌∙◌, sym}
use Rattle.hum_ditto.proofs.Whole.{comment_followed}
use Rattle.hum_ditto.proofs.memory.LastTokens.follow.Goals as goal

pub returns-in-Local-clause-memories : goal.returns-in-Local-clause-memories
returns-in-Local-clause-memories c =
    comment_followed c.args.self.now c.args.row.now c.args.found (sym c.kind.ensures.kind ∙ c.in-Local.is) c.kind.ensures.lawful c.requires.come

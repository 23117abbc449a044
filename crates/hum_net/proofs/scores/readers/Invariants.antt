use Rattle.std.proofs.Common.{◌≡◌, true}
use Rattle.hum_net.proofs.Bundling.{Counted, Filled}
use Rattle.hum_net.proofs.scores.readers.Given as goal

abbrev pub invariant-loop-k : goal.invariant-loop-k
invariant-loop-k g l = Counted l.stages l.k l.readers.items
    × (g.S.Scores.is_known l.scores ≡ true
    → Filled g.S.Reader.Source.remaining (g.S.Scores.score l.scores) l.stages l.k l.readers.items)

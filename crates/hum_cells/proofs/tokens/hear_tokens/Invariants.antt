use Rattle.std.proofs.Common.{List, ◌∷◌, take}
use Rattle.hum_score.specs.Row.{Row, tokens_of}
use Rattle.hum_score.specs.Score.{IsOpen}
use Rattle.hum_path.specs.Chains.{columns, longer}
use Rattle.hum_cells.specs.Rewriting.{Rewriting}
use Rattle.hum_cells.proofs.tokens.hear_tokens.Given as goal

abbrev pub invariant-loop-j : goal.invariant-loop-j
invariant-loop-j g l =
    (rewriting : Rewriting) (past : List Row) → g.T.TokenRewriter.follows l.initial.teller rewriting (columns past) → IsOpen (l.row ∷ past)
    → g.T.TokenRewriter.follows l.teller rewriting (longer (take l.j (tokens_of l.row)) (columns past))

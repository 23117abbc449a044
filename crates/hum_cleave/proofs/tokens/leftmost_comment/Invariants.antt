use Rattle.std.proofs.Common.{◌≡◌, drop}
use Rattle.hum_score.specs.Row.{tokens_of, chosen}
use Rattle.hum_cleave.specs.Tokens.{comment_of}
use Rattle.hum_cleave.proofs.tokens.leftmost_comment.Given as goal

abbrev pub invariant-loop-j : goal.invariant-loop-j
invariant-loop-j l =
    comment_of (chosen (drop l.j l.marks) (drop l.j (tokens_of l.row))) ≡ comment_of (chosen l.marks (tokens_of l.row))

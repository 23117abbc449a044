use Rattle.std.proofs.Common.{ℕ, ◌<◌, ◌≡◌, [], get_or, false}
use Rattle.hum_score.specs.Spelling.{is_comment, parts}
use Rattle.hum_record.proofs.tokens.has_comment.Given as goal

abbrev pub invariant-loop-j : goal.invariant-loop-j
invariant-loop-j l = (k : ℕ) → k < l.j → is_comment (get_or (parts l.text) k []) ≡ false

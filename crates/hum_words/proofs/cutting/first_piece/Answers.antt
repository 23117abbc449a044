use Rattle.std.proofs.Common.{arith}
use Rattle.std.proofs.lemmas.Str.Pattern.{strip_prefix_char}
use Rattle.hum_words.proofs.cutting.first_piece.Goals as goal

pub first_word-requires-clause-no_bar : goal.first_word-requires-clause-no_bar
first_word-requires-clause-no_bar c =
    rw c.in_default.is at (strip_prefix_char 124 c.args.line.now c.strip_prefix.result
    c.strip_prefix.ensures.cases (omega arith))

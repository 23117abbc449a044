use Rattle.std.proofs.Common.{arith}
use Rattle.std.proofs.lemmas.Str.Pattern.{strip_prefix_char}
use Rattle.hum_words.proofs.Fronts.{bare_front}
use Rattle.hum_words.proofs.cutting.first_word.Goals as goal

pub plain_word-requires : goal.plain_word-requires
plain_word-requires c =
    let no_quote = rw c.in-None.is at (strip_prefix_char 39 c.args.line.now c.strip_prefix.result
    c.strip_prefix.ensures.cases (omega arith)) in
    bare_front c.args.line.now c.requires.filled c.requires.first c.requires.no_bar no_quote

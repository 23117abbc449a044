use Rattle.std.proofs.Common.{arith}
use Rattle.std.proofs.lemmas.Str.Pattern.{strip_suffix_char}
use Rattle.hum_words.proofs.Ends.{no_cr}
use Rattle.hum_words.proofs.branches.strip_cr.Goals as goal

pub returns-in-None-clause-value : goal.returns-in-None-clause-value
returns-in-None-clause-value c =
    let none = rw c.in-None.is at (strip_suffix_char 13 c.args.line.now c.strip_suffix.result
    c.strip_suffix.ensures.cases (omega arith)) in
    no_cr c.args.line.now none

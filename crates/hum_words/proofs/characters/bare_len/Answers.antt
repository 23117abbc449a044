use Rattle.std.proofs.lemmas.Bool.Decides.{nat_tests}
use Rattle.std.proofs.Common.{length, sym, arith}
use Rattle.std.proofs.lemmas.List.Sums.{prefix_len_is}
use Rattle.hum_words.specs.Characters.{is_bare}
use Rattle.hum_words.proofs.characters.bare_len.Goals as goal

pub returns-then-not-is_bare : goal.returns-then-not-is_bare
returns-then-not-is_bare = grind (arith, nat_tests, prefix_len_is)

pub returns : goal.returns
returns c =
    sym (prefix_len_is is_bare c.args.line.now (length c.args.line.now) 0 (omega arith)
    (λ k l. c.loop-index.invariant k (omega arith)) (λ l. absurd (omega arith)))

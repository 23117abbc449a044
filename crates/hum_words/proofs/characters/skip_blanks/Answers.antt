use Rattle.std.proofs.lemmas.Bool.Decides.{nat_tests}
use Rattle.std.proofs.Common.{arith}
use Rattle.hum_words.proofs.Fronts.{cut_behind_blanks, drop_blanks, trimmed_first}
use Rattle.hum_words.proofs.characters.skip_blanks.Goals as goal

pub split_at-requires : goal.split_at-requires
split_at-requires = grind (arith, nat_tests, cut_behind_blanks)

pub returns-clause-value : goal.returns-clause-value
returns-clause-value = grind (arith, nat_tests, drop_blanks)

pub returns-clause-first : goal.returns-clause-first
returns-clause-first = grind (arith, nat_tests, drop_blanks, trimmed_first)

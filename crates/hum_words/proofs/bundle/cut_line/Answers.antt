use Rattle.std.proofs.lemmas.Bool.Decides.{nat_tests}
use Rattle.std.proofs.Common.{arith}
use Rattle.hum_words.proofs.BundleCuts.{line_at, line_alone}
use Rattle.hum_words.proofs.bundle.cut_line.Goals as goal

pub returns-in-Some-clause-first : goal.returns-in-Some-clause-first
returns-in-Some-clause-first = grind (arith, nat_tests, line_at)

pub returns-in-None-clause-first : goal.returns-in-None-clause-first
returns-in-None-clause-first c = line_alone c.args.bytes.now c.requires c.in-None.ensures

use Rattle.std.proofs.lemmas.Bool.Decides.{nat_tests}
use Rattle.std.proofs.Common.{arith}
use Rattle.hum_columns.proofs.OneByOne.{nulls_fit}
use Rattle.hum_columns.proofs.writing.alone.Goals as goal

pub push_nulls-requires : goal.push_nulls-requires
push_nulls-requires = grind (arith, nat_tests, nulls_fit)

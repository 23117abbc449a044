use Rattle.std.proofs.lemmas.Bool.Decides.{nat_tests}
use Rattle.std.proofs.Common.{◌-◌, arith}
use Rattle.std.proofs.lemmas.List.{take_more_set}
use Rattle.std.proofs.lemmas.Nat.{and_le_r}
use Rattle.hum_record.proofs.Short.{next_place}
use Rattle.hum_record.proofs.near.put_place.Goals as goal

pub returns-clause-put : goal.returns-clause-put
returns-clause-put = grind (arith, nat_tests, take_more_set, next_place)

pub returns-clause-less : goal.returns-clause-less
returns-clause-less = grind (arith, nat_tests, and_le_r)

use Rattle.std.proofs.Common.{sym}
use Rattle.hum_yank.proofs.Digits.{none_has}
use Rattle.hum_yank.proofs.marking.has_value_if.Goals as goal

pub returns-in-None-clause-found : goal.returns-in-None-clause-found
returns-in-None-clause-found c = rw c.in-None.is (sym (none_has c.args.row.now))

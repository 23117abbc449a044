use Rattle.std.proofs.Common.{map}
use Rattle.hum_score.specs.Row.{tokens_of}
use Rattle.hum_score.specs.Sign.{sign_of}
use Rattle.hum_columns.proofs.TornJoins.{torn_first}
use Rattle.hum_columns.proofs.torn.is_torn.Goals as goal

pub loop-j-init : goal.loop-j-init
loop-j-init c = torn_first c.args.marks.now (map sign_of (tokens_of c.args.row.now))

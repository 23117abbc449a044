use Rattle.hum_read.proofs.Opened.{standard-of, opens, opens-tidy}
use Rattle.hum_read.proofs.scores.ScoreReader.new.Goals as goal

pub invariant_of-result : goal.invariant_of-result
invariant_of-result g c =
    let limits = c.standard.ensures in
    let same = standard-of c.standard.result limits.line limits.records limits.bytes in
    opens-tidy c.args.source c.new.result c.standard.result c.new.ensures.opening same

pub returns : goal.returns
returns g c =
    let limits = c.standard.ensures in
    let same = standard-of c.standard.result limits.line limits.records limits.bytes in
    opens c.args.source c.args.stage c.new.result c.standard.result c.new-2.result c.new.ensures.opening same c.new.ensures.holds
    c.new-2.ensures

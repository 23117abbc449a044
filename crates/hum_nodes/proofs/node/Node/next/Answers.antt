use Rattle.hum_read.specs.Steps.{given_by}
use Rattle.hum_nodes.proofs.Asks.{asks_once}
use Rattle.hum_nodes.proofs.Standing.{polled}
use Rattle.hum_nodes.proofs.node.Node.next.Goals as goal

pub returns-clause-polled : goal.returns-clause-polled
returns-clause-polled g c =
    let e = c.next.ensures in
    polled g.S.Stage.stands g.R.Source.remaining c.args.self.now c.in-Read.reader c.next.new.self
    (given_by c.next.result c.next.new.self.stopped) c.in-Read.is e.stage e.unread e.taken e.asked
    e.gives e.stops e.again e.more e.unfed e.nears e.consumes e.at_end

pub returns-clause-once : goal.returns-clause-once
returns-clause-once g c =
    rw c.in-Read.is
    (asks_once g.R.Source.calls g.R.Source.failed c.in-Read.reader.lines
    c.next.new.self.lines c.next.ensures.unread c.next.ensures.once)

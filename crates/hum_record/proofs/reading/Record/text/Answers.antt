use Rattle.hum_record.proofs.Laws.{reads_back}
use Rattle.hum_record.proofs.reading.Record.text.Goals as goal

pub returns-clause-read_back : goal.returns-clause-read_back
returns-clause-read_back c = reads_back c.self.inside.body.value.text c.args.self.now (rw c.self.view_is at c.self.invariant.lawful)

use Rattle.hum_packets.proofs.Backwards.{read-back, read-one_way}
use Rattle.hum_packets.proofs.laws.lists_are_read_back.Goals as goal

pub returns-clause-back : goal.returns-clause-back
returns-clause-back c = read-back

pub returns-clause-one_way : goal.returns-clause-one_way
returns-clause-one_way c = read-one_way

use Rattle.hum_kern.specs.Duration.{spelling_of}
use Rattle.hum_kern.proofs.Laws.{duration_positive}
use Rattle.hum_kern.proofs.Parts.{are_parts, duration_in}
use Rattle.hum_kern.proofs.Unique.{said_alone}
use Rattle.hum_kern.proofs.duration.read_duration.Goals as goal

pub returns-clause-says : goal.returns-clause-says
returns-clause-says c = (spelling_of c.args.bytes.now, are_parts c.args.bytes.now, c.read_subtoken.ensures)

pub returns-clause-positive : goal.returns-clause-positive
returns-clause-positive c = duration_positive c.args.bytes.now c.read_subtoken.result c.read_subtoken.ensures

pub returns-clause-within : goal.returns-clause-within
returns-clause-within c = duration_in c.args.bytes.now c.read_subtoken.result c.read_subtoken.ensures

pub returns-clause-alone : goal.returns-clause-alone
returns-clause-alone c = said_alone c.args.bytes.now c.read_subtoken.result c.read_subtoken.ensures

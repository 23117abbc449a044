use Rattle.hum_tones.proofs.IntervalNames.{name_at, lawful_name}
use Rattle.hum_tones.proofs.interval_names.name_at.Goals as goal

pub invariant_of-result-clause-lawful : goal.invariant_of-result-clause-lawful
invariant_of-result-clause-lawful c = lawful_name c.args.row c.args.from c.requires.row c.requires.from c.if-place-eq0.false

pub returns : goal.returns
returns c = name_at c.args.row c.args.from c.requires.row c.requires.from c.if-place-eq0.false

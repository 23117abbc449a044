use Rattle.hum_record.proofs.Laws.{gives_found, gives_only, gives_broken}
use Rattle.hum_record.proofs.reading.Record.parse_into.Goals as goal

pub returns-clause-found : goal.returns-clause-found
returns-clause-found c =
    gives_found c.of_any.result _ c.requires.at_most c.requires.one_line c.of_any.ensures

pub returns-clause-only : goal.returns-clause-only
returns-clause-only c = gives_only c.of_any.result _ c.of_any.ensures

pub returns-clause-broken : goal.returns-clause-broken
returns-clause-broken c = gives_broken c.of_any.result _ c.of_any.ensures

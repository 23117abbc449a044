use Rattle.hum_program.proofs.LineReading.{asks, asks_nothing, within}
use Rattle.hum_program.proofs.line.read_line.Goals as goal

pub returns-in-Some-clause-asked : goal.returns-in-Some-clause-asked
returns-in-Some-clause-asked c = asks _ c.in-Ok-try_get_matches_from.matches c.in-Ok.ensures
    c.in-Ok-try_get_matches_from.ensures.matches c.in-Ok-try_get_matches_from.ensures.kinds c.in-Some.ensures

pub returns-in-Some-clause-link : goal.returns-in-Some-clause-link
returns-in-Some-clause-link c = within _ _ c.in-Some.ensures.link

pub returns-clause-refused : goal.returns-clause-refused
returns-clause-refused c usage = asks_nothing _ c.in-Ok-try_get_matches_from.matches c.in-Ok.ensures
    c.in-Ok-try_get_matches_from.ensures.matches c.in-None.ensures

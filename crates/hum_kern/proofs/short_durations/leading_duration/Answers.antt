use Rattle.hum_kern.specs.Usual.{leading_of}
use Rattle.hum_kern.proofs.LeadingParts.{none_leads, some_leads, answered_led}
use Rattle.hum_kern.proofs.short_durations.leading_duration.Goals as goal

pub returns-in-Some-clause-which : goal.returns-in-Some-clause-which
returns-in-Some-clause-which c =
    some_leads c.args.token.now (leading_of c.in-Some.found) c.part_of_whole.result c.in-Some.ensures.exact c.part_of_whole.ensures.plain

pub returns-in-Some-clause-led : goal.returns-in-Some-clause-led
returns-in-Some-clause-led c =
    answered_led c.args.token.now (leading_of c.in-Some.found) c.part_of_whole.result c.in-Some.ensures.exact c.part_of_whole.ensures.plain
    c.part_of_whole.ensures.part

pub returns-in-None-clause-which : goal.returns-in-None-clause-which
returns-in-None-clause-which c = none_leads c.args.token.now c.in-None.ensures.exact

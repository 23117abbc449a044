use Rattle.hum_program.proofs.LineReading.{says, no_link, no_order}
use Rattle.hum_program.proofs.line.choice_of.Goals as goal

pub returns-in_default : goal.returns-in_default
returns-in_default c = no_link c.args.matches.now _ c.get_str.ensures c.in_default.ensures

pub returns-in_default-order_of : goal.returns-in_default-order_of
returns-in_default-order_of c = no_order c.args.matches.now _ c.get_str-2.ensures c.in_default-order_of.ensures

pub returns : goal.returns
returns c = says c.args.matches.now _ _ c.get_str.ensures c.get_str-2.ensures c.get_str-3.ensures
    c.in-Some.ensures c.in-Some-order_of.ensures

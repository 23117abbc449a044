use Rattle.std.proofs.Common.{refl, ap, arith, inl, inr}
use Rattle.hum_engine.proofs.Choosing.{link_few, right_asked, right_few, right_on, right_over, right_rested, right_some}
use Rattle.hum_engine.proofs.Choosing.{right_took}
use Rattle.hum_engine.proofs.Moving.{nth}
use Rattle.hum_engine.proofs.net.Net.step_right.Goals as goal

pub act-requires : goal.act-requires
act-requires g c = (right_asked c.requires).ask

pub returns-in-Waits-clause-advanced : goal.returns-in-Waits-clause-advanced
returns-in-Waits-clause-advanced g c = right_rested c.requires c.in-Waits.ensures

pub returns-in-Waits-clause-closer : goal.returns-in-Waits-clause-closer
returns-in-Waits-clause-closer g c =
    inr (inr (ap (λ n. n.turns) c.in-Waits.ensures.same, omega (arith, right_some c.requires c.in-Waits.ensures, right_few c.requires)))

pub returns-in-Took-clause-advanced : goal.returns-in-Took-clause-advanced
returns-in-Took-clause-advanced g c = right_took c.requires c.in-Took.ensures.0 c.in-Took.ensures.1

pub returns-in-Took-clause-closer : goal.returns-in-Took-clause-closer
returns-in-Took-clause-closer g c = inr (inl (omega (arith, c.in-Took.ensures.0.gone.turns)))

pub returns-in-Heard-clause-advanced : goal.returns-in-Heard-clause-advanced
returns-in-Heard-clause-advanced g c = right_took c.requires c.in-Heard.ensures.0 c.in-Heard.ensures.1

pub returns-in-Heard-clause-closer : goal.returns-in-Heard-clause-closer
returns-in-Heard-clause-closer g c = inr (inl (omega (arith, c.in-Heard.ensures.0.gone.turns)))

pub returns-in-Over-clause-advanced : goal.returns-in-Over-clause-advanced
returns-in-Over-clause-advanced g c = right_over c.requires c.in-Over.ensures.1

pub returns-in-Over-clause-closer : goal.returns-in-Over-clause-closer
returns-in-Over-clause-closer g c = inl refl

pub overflow_sub-result : goal.overflow_sub-result
overflow_sub-result g c = omega (arith, right_some c.requires c.in-Waits.ensures)

pub index-requires : goal.index-requires
index-requires g c =
    omega (arith, link_few (right_asked c.requires) c.in-Gave.ensures, c.act.new.self.takers.ok.0)

pub index-requires-in-Filled : goal.index-requires-in-Filled
index-requires-in-Filled g c =
    omega (arith, link_few (right_asked c.requires) c.in-Filled.ensures.0, c.act.new.self.takers.ok.0)

pub returns-in-Gave-clause-advanced : goal.returns-in-Gave-clause-advanced
returns-in-Gave-clause-advanced g c =
    right_on c.requires c.in-Gave.ensures
    (nth c.act.new.self.takers.items c.args.k c.index.result.now (link_few (right_asked c.requires) c.in-Gave.ensures)
    c.index.ensures)

pub returns-in-Filled-clause-advanced : goal.returns-in-Filled-clause-advanced
returns-in-Filled-clause-advanced g c =
    right_on c.requires c.in-Filled.ensures.0
    (nth c.act.new.self.takers.items c.args.k c.index-in-Filled.result.now
    (link_few (right_asked c.requires) c.in-Filled.ensures.0) c.index-in-Filled.ensures)

pub returns-in-Failed-clause-advanced : goal.returns-in-Failed-clause-advanced
returns-in-Failed-clause-advanced g c = right_over c.requires c.in-Failed.ensures.1

pub returns-in-Failed-clause-closer : goal.returns-in-Failed-clause-closer
returns-in-Failed-clause-closer g c = inl refl

use Rattle.std.proofs.Common.{[], sym, subst}
use Rattle.std.proofs.lemmas.Result.{err_from_is_err_and}
use Rattle.hum_packets.proofs.Feeding.{hands-trans}
use Rattle.hum_packets.specs.Lists.{StopsInList}
use Rattle.hum_turns.specs.declared.result.RunResult.TheVariants as ends
use Rattle.hum_net.specs.declared.outcome.Outcome.TheVariants as outcome
use Rattle.hum_net.specs.Bundles.{IsRefusal}
use Rattle.hum_plan.specs.Seen.{stages_of}
use Rattle.hum_plan.specs.Grammar.{IsPlanOf}
use Rattle.hum_many.specs.Answers.{told}
use Rattle.hum_many.proofs.Talking.{plan-stops, refused-told, refused-stops, accepted-stops, told-all, told-to, lost-fails, tell-fails, case-fails}
use Rattle.hum_many.proofs.many.answer_all.Goals as goal

-- What is read stops in the plan.

pub returns-in_err-plan-clause-come : goal.returns-in_err-plan-clause-come
returns-in_err-plan-clause-come g c =
    let p = err_from_is_err_and c.from_residual.result c.from_residual.ensures.1 in
    rw (p.1, p.2) (plan-stops g.R.Source g.W.Sink c.args.packets.now c.requires c.args.answers.now c.read_text.new.answers c.in_err-plan.field-0.0
    c.in_err-plan.ensures.serves.kept c.in_err-plan.ensures.lost)

pub returns-in_err-plan-clause-failed : goal.returns-in_err-plan-clause-failed
returns-in_err-plan-clause-failed g c =
    let p = err_from_is_err_and c.from_residual.result c.from_residual.ensures.1 in
    rw (p.1, p.2) (lost-fails g.R.Source StopsInList c.args.packets.now c.in_err-plan.field-0.0 c.in_err-plan.ensures.lost)

-- It is refused.

pub returns-in_err-tell-in-Err-clause-come : goal.returns-in_err-tell-in-Err-clause-come
returns-in_err-tell-in-Err-clause-come g c =
    let p = err_from_is_err_and c.from_residual-in_err-tell-in-Err.result c.from_residual-in_err-tell-in-Err.ensures.1 in
    let refused = subst (λ text. IsRefusal text c.in-Err.outcome) c.deref.ensures.value c.in-Err.ensures.refused in
    rw (p.1, p.2) (refused-stops g.R.Source g.W.Sink c.args.packets.now c.requires _ _ c.read_text.new.packets c.in_ok-plan.ensures.took
    c.args.answers.now c.read_text.new.answers c.tell.new.answers c.in-Err.outcome c.in_err-tell-in-Err.field-0.0 refused
    c.in_ok-plan.ensures.serves.kept c.in_err-tell-in-Err.ensures.answered)

pub returns-in_err-tell-in-Err-clause-hands : goal.returns-in_err-tell-in-Err-clause-hands
returns-in_err-tell-in-Err-clause-hands g c =
    let p = err_from_is_err_and c.from_residual-in_err-tell-in-Err.result c.from_residual-in_err-tell-in-Err.ensures.1 in
    rw (p.1, p.2) (hands-trans c.in_ok-plan.ensures.serves.hands c.in_err-tell-in-Err.ensures.hands)

pub returns-in_err-tell-in-Err-clause-failed : goal.returns-in_err-tell-in-Err-clause-failed
returns-in_err-tell-in-Err-clause-failed g c =
    let p = err_from_is_err_and c.from_residual-in_err-tell-in-Err.result c.from_residual-in_err-tell-in-Err.ensures.1 in
    rw (p.1, p.2) (tell-fails g.R.Source g.W.Sink [] (told c.in-Err.outcome) c.read_text.new.answers c.tell.new.answers
    c.in_err-tell-in-Err.field-0.0 c.in_err-tell-in-Err.ensures.answered)

pub returns-in-Err-clause-come : goal.returns-in-Err-clause-come
returns-in-Err-clause-come g c =
    let refused = subst (λ text. IsRefusal text c.in-Err.outcome) c.deref.ensures.value c.in-Err.ensures.refused in
    refused-told g.R.Source g.W.Sink c.args.packets.now c.requires _ _ c.read_text.new.packets c.in_ok-plan.ensures.took
    c.args.answers.now c.read_text.new.answers c.tell.new.answers c.in-Err.outcome refused c.in_ok-plan.ensures.serves.kept
    c.in_ok-tell-in-Err.ensures.answered

pub returns-in-Err-clause-hands : goal.returns-in-Err-clause-hands
returns-in-Err-clause-hands g c = hands-trans c.in_ok-plan.ensures.serves.hands c.in_ok-tell-in-Err.ensures.hands

-- It is accepted.

pub returns-in_err-tell-clause-come : goal.returns-in_err-tell-clause-come
returns-in_err-tell-clause-come g c =
    let p = err_from_is_err_and c.from_residual-in_err-tell.result c.from_residual-in_err-tell.ensures.1 in
    let plan = c.in_ok-plan.field-0.bytes.items in
    let legal = subst (λ text. IsPlanOf text (stages_of c.in-Ok.stages.items)) c.deref.ensures.value c.in-Ok.ensures.plan in
    rw (p.1, p.2) (accepted-stops g.R.Source g.W.Sink c.args.packets.now c.requires _ _ c.read_text.new.packets c.in_ok-plan.ensures.took
    legal c.args.answers.now c.read_text.new.answers c.in_ok-plan.ensures.serves.kept c.tell-2.new.answers c.in_err-tell.field-0.0
    c.in_err-tell.ensures.answered)

pub returns-in_err-tell-clause-hands : goal.returns-in_err-tell-clause-hands
returns-in_err-tell-clause-hands g c =
    let p = err_from_is_err_and c.from_residual-in_err-tell.result c.from_residual-in_err-tell.ensures.1 in
    rw (p.1, p.2) (hands-trans c.in_ok-plan.ensures.serves.hands c.in_err-tell.ensures.hands)

pub returns-in_err-tell-clause-failed : goal.returns-in_err-tell-clause-failed
returns-in_err-tell-clause-failed g c =
    let p = err_from_is_err_and c.from_residual-in_err-tell.result c.from_residual-in_err-tell.ensures.1 in
    rw (p.1, p.2) (tell-fails g.R.Source g.W.Sink [] (told (outcome.Run ends.Finished)) c.read_text.new.answers c.tell-2.new.answers
    c.in_err-tell.field-0.0 c.in_err-tell.ensures.answered)

pub returns-in_err-answer_cases-clause-come : goal.returns-in_err-answer_cases-clause-come
returns-in_err-answer_cases-clause-come g c =
    let p = err_from_is_err_and c.from_residual-in_err-answer_cases.result c.from_residual-in_err-answer_cases.ensures.1 in
    let plan = c.in_ok-plan.field-0.bytes.items in
    let legal = subst (λ text. IsPlanOf text (stages_of c.in-Ok.stages.items)) c.deref.ensures.value c.in-Ok.ensures.plan in
    let legal_here = subst (λ stages. IsPlanOf plan (stages_of stages)) (sym c.deref-2.ensures.value) legal in
    rw (p.1, p.2) (told-to g.R.Source g.W.Sink c.args.packets.now c.requires _ _ c.read_text.new.packets c.in_ok-plan.ensures.took
    legal c.args.answers.now c.read_text.new.answers c.in_ok-plan.ensures.serves.kept c.tell-2.new.answers c.answer_cases.new.answers
    c.in_ok-tell.ensures.answered c.in_err-answer_cases.field-0.0 (c.in_err-answer_cases.ensures.stops plan legal_here))

pub returns-in_err-answer_cases-clause-hands : goal.returns-in_err-answer_cases-clause-hands
returns-in_err-answer_cases-clause-hands g c =
    let p = err_from_is_err_and c.from_residual-in_err-answer_cases.result c.from_residual-in_err-answer_cases.ensures.1 in
    rw (p.1, p.2) (hands-trans (hands-trans c.in_ok-plan.ensures.serves.hands c.in_ok-tell.ensures.hands) c.in_err-answer_cases.ensures.hands)

pub returns-in_err-answer_cases-clause-failed : goal.returns-in_err-answer_cases-clause-failed
returns-in_err-answer_cases-clause-failed g c =
    let p = err_from_is_err_and c.from_residual-in_err-answer_cases.result c.from_residual-in_err-answer_cases.ensures.1 in
    let plan = c.in_ok-plan.field-0.bytes.items in
    let legal = subst (λ text. IsPlanOf text (stages_of c.in-Ok.stages.items)) c.deref.ensures.value c.in-Ok.ensures.plan in
    let legal_here = subst (λ stages. IsPlanOf plan (stages_of stages)) (sym c.deref-2.ensures.value) legal in
    let to = c.in_err-answer_cases.ensures.stops plan legal_here in
    rw (p.1, p.2) (case-fails g.R.Source to.last c.in_err-answer_cases.field-0.0 to.lost)

pub returns-clause-come : goal.returns-clause-come
returns-clause-come g c =
    let plan = c.in_ok-plan.field-0.bytes.items in
    let legal = subst (λ text. IsPlanOf text (stages_of c.in-Ok.stages.items)) c.deref.ensures.value c.in-Ok.ensures.plan in
    let legal_here = subst (λ stages. IsPlanOf plan (stages_of stages)) (sym c.deref-2.ensures.value) legal in
    told-all g.R.Source g.W.Sink c.args.packets.now c.requires _ _ c.read_text.new.packets c.in_ok-plan.ensures.took
    legal c.args.answers.now c.read_text.new.answers c.in_ok-plan.ensures.serves.kept c.tell-2.new.answers c.answer_cases.new.answers
    c.in_ok-tell.ensures.answered (c.in_ok-answer_cases.ensures.all plan legal_here)

pub returns-clause-hands : goal.returns-clause-hands
returns-clause-hands g c =
    hands-trans (hands-trans c.in_ok-plan.ensures.serves.hands c.in_ok-tell.ensures.hands) c.in_ok-answer_cases.ensures.hands

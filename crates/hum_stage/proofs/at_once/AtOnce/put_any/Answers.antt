use Rattle.std.proofs.Common.{◌∙◌, sym, ap, arith, Ok}
use Rattle.hum_stage.specs.declared.faults.Rule.TheVariants.{L2}
use Rattle.hum_stage.specs.Order.{open_score}
use Rattle.hum_stage.specs.Standing.{fault_in, is_out}
use Rattle.hum_stage.proofs.Moves.{put_refused, put_counted, put_lone, wants_again, wants_empty, no_fault, may_step, total_within}
use Rattle.hum_stage.proofs.Moves.{over_room, wraps, stays_under}
use Rattle.hum_stage.proofs.Telling.{rule_known}
use Rattle.hum_stage.proofs.at_once.AtOnce.put_any.Goals as goal

pub step-requires-clause-score : goal.step-requires-clause-score
step-requires-clause-score g c =
    let none = no_fault _ (sym c.is_some.ensures ∙ c.if-is_some.false) in
    may_step _ _ _ _ c.args.next (ap is_out none) (ap fault_in none) c.requires.may

pub returns-in-Err-clause-ok : goal.returns-in-Err-clause-ok
returns-in-Err-clause-ok g c = λ t h e s.
    let none = no_fault _ (sym c.is_some.ensures ∙ c.if-is_some.false) in
    let empty = wants_empty _ _ _ _ c.args.next (ap is_out none) c.requires.may in
    let told = rule_known c.in-Err.why _ _ c.in-Err.ensures c.in_ok-stop-in-Err.ensures.fault in
    let refused = told.1.0 h.decide _ (h.at.memory (ap fault_in none)) (open_score t.put c.args.next s) in
    rw (c.requires.empty, told.1.1, c.in_ok-stop-in-Err.ensures.nothing)
    (put_refused _ _ _ _ _ t c.args.next told.0 _ h empty (ap fault_in none) refused)

pub returns-in_default-clause-ok : goal.returns-in_default-clause-ok
returns-in_default-clause-ok g c = λ t h e s.
    let none = no_fault _ (sym c.is_some.ensures ∙ c.if-is_some.false) in
    let empty = wants_empty _ _ _ _ c.args.next (ap is_out none) c.requires.may in
    let kept = c.in-Ok.ensures h.decide _ (h.at.memory (ap fault_in none)) (open_score t.put c.args.next s) in
    rw c.requires.empty (c.count-in_default.ensures.stands _ (rw c.in_default.ensures
    (put_counted _ _ _ _ _ t c.args.next _ h empty (ap fault_in none) kept.0 kept.1)))

pub returns-then-not-may_take-clause-ok : goal.returns-then-not-may_take-clause-ok
returns-then-not-may_take-clause-ok g c = λ t h e s.
    let none = no_fault _ (sym c.is_some.ensures ∙ c.if-is_some.false) in
    let empty = wants_empty _ _ _ _ c.args.next (ap is_out none) c.requires.may in
    let kept = c.in-Ok.ensures h.decide _ (h.at.memory (ap fault_in none)) (open_score t.put c.args.next s) in
    rw c.requires.empty (c.count.ensures.stands _
    (put_counted _ _ _ _ _ t c.args.next _ h empty (ap fault_in none) kept.0 kept.1))

pub returns-then-self-eq0-clause-ok : goal.returns-then-self-eq0-clause-ok
returns-then-self-eq0-clause-ok g c = λ t h e s.
    let none = no_fault _ (sym c.is_some.ensures ∙ c.if-is_some.false) in
    let empty = wants_empty _ _ _ _ c.args.next (ap is_out none) c.requires.may in
    let kept = c.in-Ok.ensures h.decide _ (h.at.memory (ap fault_in none)) (open_score t.put c.args.next s) in
    let one = kept.0 ∙ ap Ok c.in-Some.ensures.0 in
    let full = wraps _ (total_within _ _ _ _ c.args.next (ap is_out none) (ap fault_in none) c.requires.may) c.if-self-eq0.true in
    rw (c.requires.empty, c.refuse_lone.ensures.fault, c.refuse_lone.ensures.nothing)
    (put_refused _ _ _ _ _ t c.args.next L2 _ h empty (ap fault_in none) (over_room _ _ _ one (omega (arith, full))))

pub returns-clause-ok : goal.returns-clause-ok
returns-clause-ok g c = λ t h e s.
    let none = no_fault _ (sym c.is_some.ensures ∙ c.if-is_some.false) in
    let empty = wants_empty _ _ _ _ c.args.next (ap is_out none) c.requires.may in
    let kept = c.in-Ok.ensures h.decide _ (h.at.memory (ap fault_in none)) (open_score t.put c.args.next s) in
    let under = stays_under _ (total_within _ _ _ _ c.args.next (ap is_out none) (ap fault_in none) c.requires.may) c.if-self-eq0.false in
    rw c.replace.ensures.after (put_lone _ _ _ _ _ t c.args.next c.in-Some.row _ _ _ h empty (ap fault_in none) kept.0 kept.1 c.in-Some.ensures under.0 under.1)

pub returns-in-Err-clause-ready : goal.returns-in-Err-clause-ready
returns-in-Err-clause-ready g c =
    let none = no_fault _ (sym c.is_some.ensures ∙ c.if-is_some.false) in
    let told = rule_known c.in-Err.why _ _ c.in-Err.ensures c.in_ok-stop-in-Err.ensures.fault in
    rw told.1.1
    (wants_again _ _ _ _ _ _ _ c.args.next (ap is_out none) c.requires.may c.in_ok-stop-in-Err.ensures.nothing)

pub returns-then-self-eq0-clause-ready : goal.returns-then-self-eq0-clause-ready
returns-then-self-eq0-clause-ready g c =
    let none = no_fault _ (sym c.is_some.ensures ∙ c.if-is_some.false) in
    rw c.refuse_lone.ensures.fault
    (wants_again _ _ _ _ _ _ _ c.args.next (ap is_out none) c.requires.may c.refuse_lone.ensures.nothing)

pub returns-clause-ready : goal.returns-clause-ready
returns-clause-ready g c =
    let none = no_fault _ (sym c.is_some.ensures ∙ c.if-is_some.false) in
    wants_again _ _ _ _ _ _ _ c.args.next (ap is_out none) c.requires.may c.in-Some.ensures.1

use Rattle.std.proofs.lemmas.Result.{err_from_is_err_and}
use Rattle.hum_packets.proofs.Feeding.{hands-refl, hands-trans}
use Rattle.hum_many.proofs.Talking.{talked-none, talked-kept, tell-more, tell-stops}
use Rattle.hum_many.proofs.many.answer_cases.Goals as goal

pub loop-init : goal.loop-init
loop-init g c =
    ((λ plan is. talked-none g.R.Source g.W.Sink plan c.args.packets.now c.args.answers.now), hands-refl c.args.answers.now)

pub returns-in_err-case-clause-stops : goal.returns-in_err-case-clause-stops
returns-in_err-case-clause-stops g c plan is =
    let p = err_from_is_err_and c.from_residual.result c.from_residual.ensures.1 in
    rw (p.1, p.2) (record {
      last = c.loop.packets;
      talked = talked-kept g.R.Source g.W.Sink plan (c.loop.invariant.0 plan is) c.in_err-case.ensures.serves.kept;
      lost = c.in_err-case.ensures.lost;
    })

pub returns-in_err-case-clause-hands : goal.returns-in_err-case-clause-hands
returns-in_err-case-clause-hands g c =
    let p = err_from_is_err_and c.from_residual.result c.from_residual.ensures.1 in
    rw (p.1, p.2) (hands-trans c.loop.invariant.1 c.in_err-case.ensures.serves.hands)

pub returns-in_default-clause-all : goal.returns-in_default-clause-all
returns-in_default-clause-all g c plan is = record {
  last = c.loop.packets;
  talked = talked-kept g.R.Source g.W.Sink plan (c.loop.invariant.0 plan is) c.in_ok-case.ensures.serves.kept;
  ends = rw c.in_default.is at c.in_ok-case.ensures.took;
}

pub returns-in_default-clause-hands : goal.returns-in_default-clause-hands
returns-in_default-clause-hands g c = hands-trans c.loop.invariant.1 c.in_ok-case.ensures.serves.hands

pub returns-in_err-tell-clause-stops : goal.returns-in_err-tell-clause-stops
returns-in_err-tell-clause-stops g c plan is =
    let p = err_from_is_err_and c.from_residual-in_err-tell.result c.from_residual-in_err-tell.ensures.1 in
    let took = rw c.in-Some.is at c.in_ok-case.ensures.took in
    rw (p.1, p.2) (tell-stops g.R.Source g.W.Sink plan c.read_case.new.answers c.in_err-tell.field-0.0 took c.run_case-outcome.result.1.items c.deref.result.now
    c.run_case-outcome.result.0 c.deref.ensures.value (c.loop.invariant.0 plan is) c.in_ok-case.ensures.serves.kept
    (c.run_case-outcome.ensures plan is took.case took.large took.all) c.in_err-tell.ensures.answered)

pub returns-in_err-tell-clause-hands : goal.returns-in_err-tell-clause-hands
returns-in_err-tell-clause-hands g c =
    let p = err_from_is_err_and c.from_residual-in_err-tell.result c.from_residual-in_err-tell.ensures.1 in
    rw (p.1, p.2) (hands-trans (hands-trans c.loop.invariant.1 c.in_ok-case.ensures.serves.hands) c.in_err-tell.ensures.hands)

pub loop-preserved : goal.loop-preserved
loop-preserved g c =
    let took = rw c.in-Some.is at c.in_ok-case.ensures.took in (
      (λ plan is. tell-more g.R.Source g.W.Sink plan took c.run_case-outcome.result.1.items c.deref.result.now c.run_case-outcome.result.0
          c.deref.ensures.value (c.loop.invariant.0 plan is) c.in_ok-case.ensures.serves.kept
          (c.run_case-outcome.ensures plan is took.case took.large took.all) c.in_ok-tell.ensures.answered),
      hands-trans (hands-trans c.loop.invariant.1 c.in_ok-case.ensures.serves.hands) c.in_ok-tell.ensures.hands,
    )

pub returns-clause-stops : goal.returns-clause-stops
returns-clause-stops g c plan is = record { last = c.loop.packets; talked = c.loop.invariant.0 plan is; lost = tt }

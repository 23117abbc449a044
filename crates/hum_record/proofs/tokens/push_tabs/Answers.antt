use Rattle.std.proofs.Common.{arith}
use Rattle.hum_record.proofs.Places.{next_tab, none_pending}
use Rattle.hum_record.proofs.tokens.push_tabs.Goals as goal

pub overflow_add-at : goal.overflow_add-at
overflow_add-at c =
    let some = c.loop-rest-test.true in
    let next = next_tab _ _ _ _ _ _ c.requires.short c.loop-rest.invariant.0 (omega (arith, some)) c.loop-rest.invariant.1 in
    let within = next.within in
    let few = c.requires.few in
    omega (arith, within, few)

pub overflow_add-at-in-loop-rest : goal.overflow_add-at-in-loop-rest
overflow_add-at-in-loop-rest c =
    let some = c.loop-rest-test.true in
    let next = next_tab _ _ _ _ _ _ c.requires.short c.loop-rest.invariant.0 (omega (arith, some)) c.loop-rest.invariant.1 in
    let within = next.within in
    let few = c.requires.few in
    omega (arith, within, few)

pub loop-rest-preserved : goal.loop-rest-preserved
loop-rest-preserved c =
    let some = c.loop-rest-test.true in
    let later = c.loop-rest.invariant.0 in
    let next = next_tab _ _ _ _ _ _ c.requires.short later (omega (arith, some)) c.loop-rest.invariant.1 in (
      omega (arith, later),
      rw c.in_ok-push.ensures.items next.pending,
    )

pub returns : goal.returns
returns c = none_pending _ _ _ _ _ _ (let done = c.loop-rest-test.false in omega (arith, done)) c.loop-rest.invariant.1

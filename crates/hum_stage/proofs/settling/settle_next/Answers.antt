use Rattle.std.proofs.Common.{◌∙◌, sym, refl, arith}
use Rattle.std.proofs.lemmas.Bool.Decides.{nat_tests}
use Rattle.hum_stage.proofs.Passing.{drops_none, drops_waits, drops_full, drops_more, drops_gives}
use Rattle.hum_stage.proofs.Passing.{drops_refuses, drops_empty, filled}
use Rattle.hum_stage.proofs.Telling.{answered_on, both_ruled}
use Rattle.hum_stage.proofs.settling.settle_next.Goals as goal
use Rattle.hum_stage.specs.declared.TheConstants.{MOST_WAITING}

pub loop-memory-init : goal.loop-memory-init
loop-memory-init g c = (omega arith, λ look past rows h few. drops_none MOST_WAITING look past rows _ h)

pub returns-then-len-gt-MOST_WAITING-clause-settles : goal.returns-then-len-gt-MOST_WAITING-clause-settles
returns-then-len-gt-MOST_WAITING-clause-settles g c look past rows h few =
    let fewer = rw c.in-Waits.is at c.in_ok-settle.ensures.fewer in
    drops_full MOST_WAITING look past rows _
    (g.C.LooksAhead.follows c.settle.new.self c.settle.new.held.items look) _ _
    (c.loop-memory.invariant.1 look past rows h few) few
    (λ past rest k. sym fewer ∙ (c.loop-memory.waiting.ok.0
    ∙ g.met.C.LooksAhead.each c.loop-memory.memory c.loop-memory.waiting.items look past rest k))
    (let l = c.len.ensures in let m = c.if-len-gt-MOST_WAITING.true in omega (arith, l, m))
    (λ past row rows k. rw c.in-Waits.is at
    (c.in_ok-settle.ensures.settles look past row rows k))

pub returns-in-Waits-clause-settles : goal.returns-in-Waits-clause-settles
returns-in-Waits-clause-settles g c look past rows h few =
    let fewer = rw c.in-Waits.is at c.in_ok-settle.ensures.fewer in
    drops_waits MOST_WAITING look past rows _ _ _
    (c.loop-memory.invariant.1 look past rows h few)
    (λ past rest k. sym fewer ∙ (c.loop-memory.waiting.ok.0
    ∙ g.met.C.LooksAhead.each c.loop-memory.memory c.loop-memory.waiting.items look past rest k))
    (filled _ _ _ _ refl (sym (sym fewer)) c.is_empty.ensures c.loop-memory-test.true)
    (let l = c.len.ensures in let m = c.if-len-gt-MOST_WAITING.false in omega (arith, l, m))
    (λ past row rows k. rw c.in-Waits.is at
    (c.in_ok-settle.ensures.settles look past row rows k))

pub loop-memory-preserved : goal.loop-memory-preserved
loop-memory-preserved g c =
    let fewer = rw c.in-Gives-None.is at c.in_ok-settle.ensures.fewer in
    let before = c.loop-memory.invariant.0 in (
      omega (arith, fewer, before),
      λ look past rows h few. drops_more MOST_WAITING look past rows _ _
          (c.loop-memory.invariant.1 look past rows h few) few
          (λ past rest k. filled _ _ _ _ c.loop-memory.waiting.ok.0
          (g.met.C.LooksAhead.each c.loop-memory.memory c.loop-memory.waiting.items look past rest k)
          c.is_empty.ensures c.loop-memory-test.true)
          (λ past row rows k. rw (c.in-Gives-None.is, c.in-Gives-None.field-0-is) at
          (c.in_ok-settle.ensures.settles look past row rows k)),
    )

pub returns-in-Gives-Some-clause-settles : goal.returns-in-Gives-Some-clause-settles
returns-in-Gives-Some-clause-settles g c look past rows h few =
    drops_gives MOST_WAITING look past rows _ _ _ c.in-Gives-Some.due
    (c.loop-memory.invariant.1 look past rows h few) few
    (λ past rest k. filled _ _ _ _ c.loop-memory.waiting.ok.0
    (g.met.C.LooksAhead.each c.loop-memory.memory c.loop-memory.waiting.items look past rest k)
    c.is_empty.ensures c.loop-memory-test.true)
    (λ past row rows k. rw (c.in-Gives-Some.is, c.in-Gives-Some.field-0-is) at
    (c.in_ok-settle.ensures.settles look past row rows k))

pub returns-in_err-settle-clause-settles : goal.returns-in_err-settle-clause-settles
returns-in_err-settle-clause-settles g c =
    answered_on c.from_residual.result c.in_err-settle.field-0.0 _ _ c.from_residual.ensures.1
    (both_ruled c.in_err-settle.field-0.0 _ _
    c.in_err-settle.ensures.fewer c.in_err-settle.ensures.settles)
    (λ rule told look past rows h few. drops_refuses MOST_WAITING look past rows _
    (g.C.LooksAhead.follows c.settle.new.self c.settle.new.held.items look) _ _ rule
    (c.loop-memory.invariant.1 look past rows h few) few
    (λ past rest k. sym told.0 ∙ (c.loop-memory.waiting.ok.0
    ∙ g.met.C.LooksAhead.each c.loop-memory.memory c.loop-memory.waiting.items look past rest k))
    (filled _ _ _ _ refl (sym (sym told.0)) c.is_empty.ensures c.loop-memory-test.true)
    (told.1 look))

pub returns-clause-settles : goal.returns-clause-settles
returns-clause-settles g c look past rows h few =
    drops_empty MOST_WAITING look past rows _ _ _ (c.loop-memory.invariant.1 look past rows h few)
    (λ past rest k. c.loop-memory.waiting.ok.0
    ∙ g.met.C.LooksAhead.each c.loop-memory.memory c.loop-memory.waiting.items look past rest k)
    (let e = c.is_empty.ensures in let t = c.loop-memory-test.false in grind (arith, nat_tests, e, t))

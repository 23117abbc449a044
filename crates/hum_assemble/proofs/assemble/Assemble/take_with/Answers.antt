use Rattle.std.proofs.Common.{refl, ◌∙◌, sym, ap, ◌+◌, List, arith}
use Rattle.std.proofs.lemmas.Bool.{true≢false}
use Rattle.std.proofs.lemmas.Result.{IfOk-from_err, err_from_is_err_and}
use Rattle.hum_assemble.specs.Source.{Source}
use Rattle.hum_assemble.specs.Round.{any_due}
use Rattle.hum_assemble.specs.Merge.{ahead, given_row, given_on}
use Rattle.hum_assemble.proofs.Fronts.{next_by_groups}
use Rattle.hum_assemble.proofs.Calls.{take_here, take_nothing, alive, told_taken}
use Rattle.hum_assemble.proofs.assemble.Assemble.take_with.Goals as goal

pub returns-in_default : goal.returns-in_default
returns-in_default c =
    let known = c.self.invariant.alive c.if-self.false in
    record {
      ok = λ t h.
          let h' = rw (← c.self.view_is) at h in
          (take_nothing _ _ _ t h' (λ p e. c.in_default.not-Gives p (known.next ∙ e)), h);
      groups = λ t h a.
          let h' = rw (← c.self.view_is) at h in
          next_by_groups t _ (take_nothing _ _ _ t h' (λ p e. c.in_default.not-Gives p (known.next ∙ e))) a;
      ready = c.readiness.ensures;
      err = tt;
      stays_spent = λ e. let f = rw (← c.self.view_is) at e in let g = c.if-self.false in cc;
    }

pub invariant_of-self-2 : goal.invariant_of-self-2
invariant_of-self-2 c =
    let a = c.self.invariant.alive c.if-self.false in
    let l = c.deref_mut.ensures.len in
    let n = c.give.auto.sources in
    told_taken c.self.inside.sources.items c.give.new.sources _ c.self.inside.given _
    c.in-Gives.place _ _ (sym a.next ∙ c.in-Gives.is) c.in_ok-row.ensures.lawful
    (c.look_ahead-going.ensures.going ∙ ap any_due c.deref.ensures.value)
    (c.look_ahead-going.ensures.next ∙ ap (λ (ss : List Source).
    ahead (record { sources = ss; given = c.self.inside.given + 1 })) c.deref.ensures.value)
    (omega (arith, l, n))

pub returns-clause-ok : goal.returns-clause-ok
returns-clause-ok c = λ t h.
    let a = c.self.invariant.alive c.if-self.false in
    let h' = rw (← c.self.view_is) at h in
    let v = c.deref_mut.ensures.value in
    let e = c.in_ok-row.ensures in
    let l = c.deref_mut.ensures.len in
    let n = c.give.auto.sources in
    take_here c.self.inside.stage c.self.inside.sources.items c.give.new.sources c.self.inside.given _ t
    c.in-Gives.place _ _ (alive _ _ _ _ c.if-self.false h') (sym a.next ∙ c.in-Gives.is)
    (e.row c.self.inside.given ∙ ap (λ (ss : List Source).
    given_row c.in-Gives.place (record { sources = ss; given = c.self.inside.given })) v)
    (e.sources c.self.inside.given ∙ ap (λ (ss : List Source).
    given_on c.in-Gives.place (record { sources = ss; given = c.self.inside.given })) v)
    (omega (arith, l, n))

pub returns-clause-groups : goal.returns-clause-groups
returns-clause-groups c = λ t h a. next_by_groups t _ (returns-clause-ok c t h).0 a

pub returns-then-self : goal.returns-then-self
returns-then-self c = record { ok = tt; groups = tt; ready = tt; err = rw (← c.self.view_is) c.if-self.true; stays_spent = λ e. refl }

pub returns-in_err-row-clause-ok : goal.returns-in_err-row-clause-ok
returns-in_err-row-clause-ok c = IfOk-from_err c.from_residual.result _ c.from_residual.ensures.0

pub returns-in_err-row-clause-groups : goal.returns-in_err-row-clause-groups
returns-in_err-row-clause-groups c = IfOk-from_err c.from_residual.result _ c.from_residual.ensures.0

pub returns-in_err-row-clause-stays_spent : goal.returns-in_err-row-clause-stays_spent
returns-in_err-row-clause-stays_spent c = λ e. c.from_residual.ensures.0

pub returns-clause-stays_spent : goal.returns-clause-stays_spent
returns-clause-stays_spent c = λ e. let f = rw (← c.self.view_is) at e in let g = c.if-self.false in cc

pub give-requires : goal.give-requires
give-requires c =
    let a = c.self.invariant.alive c.if-self.false in
    rw c.deref_mut.ensures.value (record {
      going = a.due;
      ahead = (c.self.inside.given, sym a.next ∙ c.in-Gives.is);
      lawful = a.lawful;
    })

pub overflow_add-self : goal.overflow_add-self
overflow_add-self c = let most = c.self.invariant.at_most in omega (arith, most)

pub invariant_of-self : goal.invariant_of-self
invariant_of-self c = record { at_most = c.self.invariant.at_most; alive = λ e. absurd (true≢false e) }

pub returns-in_err-row-clause-err : goal.returns-in_err-row-clause-err
returns-in_err-row-clause-err c =
    let p = err_from_is_err_and c.from_residual.result c.from_residual.ensures.1 in
    rw p.1 refl

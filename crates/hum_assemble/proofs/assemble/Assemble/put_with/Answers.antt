use Rattle.std.proofs.Common.{refl, ◌∙◌, sym, ap, arith, List, length, length-set}
use Rattle.hum_assemble.specs.Source.{Source}
use Rattle.hum_assemble.specs.Merge.{ahead_open}
use Rattle.hum_assemble.proofs.Calls.{within_ahead, empty_ahead, sound_put, alive, may_here}
use Rattle.hum_assemble.proofs.Calls.{with_spent, put_wanted, put_other, has_grown}
use Rattle.hum_assemble.proofs.Asking.{put_known, put_ahead, put_lawful}
use Rattle.hum_assemble.proofs.assemble.Assemble.put_with.Goals as goal

pub index_mut-requires : goal.index_mut-requires
index_mut-requires c =
    let a = c.self.invariant.alive c.if-self.false in
    let w = within_ahead c.self.inside.sources.items c.self.inside.given _ (sym a.next ∙ c.in-Wants.is) in
    let l = c.self.inside.sources.ok.0 in
    omega (arith, w, l)

pub put-requires-clause-empty : goal.put-requires-clause-empty
put-requires-clause-empty c =
    let a = c.self.invariant.alive c.if-self.false in
    empty_ahead c.self.inside.sources.items c.self.inside.given _ _ (sym a.next ∙ c.in-Wants.is) c.index_mut.ensures.value

pub put-requires-clause-valid : goal.put-requires-clause-valid
put-requires-clause-valid c =
    let a = c.self.invariant.alive c.if-self.false in
    let r = rw (← c.self.view_is) at c.requires in
    let e = sym a.next ∙ c.in-Wants.is in
    sound_put c.self.inside.stage
    (record { sources = c.self.inside.sources.items; given = c.self.inside.given })
    c.in-Wants.source c.args.next _ e c.index_mut.ensures.value
    (may_here c.self.inside.stage
    (record { sources = c.self.inside.sources.items; given = c.self.inside.given })
    c.self.inside.spent c.in-Wants.source c.args.next c.if-self.false r e)

pub overflow_add-source : goal.overflow_add-source
overflow_add-source c =
    let a = c.self.invariant.alive c.if-self.false in
    let w = within_ahead c.self.inside.sources.items c.self.inside.given _ (sym a.next ∙ c.in-Wants.is) in
    let l = c.self.inside.sources.ok.0 in
    omega (arith, w, l)

pub ahead_open-self-inside-requires-clause-within :
    goal.ahead_open-self-inside-requires-clause-within
ahead_open-self-inside-requires-clause-within c =
    let a = c.self.invariant.alive c.if-self.false in
    let w = within_ahead c.self.inside.sources.items c.self.inside.given _ (sym a.next ∙ c.in-Wants.is) in
    let l = ap length c.deref.ensures.value in
    let s = length-set c.self.inside.sources.items c.in-Wants.source c.put.new.self in
    omega (arith, w, l, s)

pub ahead_open-self-inside-requires-clause-known :
    goal.ahead_open-self-inside-requires-clause-known
ahead_open-self-inside-requires-clause-known c =
    let a = c.self.invariant.alive c.if-self.false in
    rw c.deref.ensures.value
    (put_known c.self.inside.sources.items c.self.inside.given c.in-Wants.source c.self.inside.going
    c.index_mut.result.now c.put.new.self c.args.next a.due (sym a.next ∙ c.in-Wants.is) c.put.ensures.put)

pub invariant_of-self : goal.invariant_of-self
invariant_of-self c =
    let a = c.self.invariant.alive c.if-self.false in
    let h = put_ahead c.self.inside.sources.items c.self.inside.given c.in-Wants.source c.self.inside.going
    c.index_mut.result.now c.put.new.self c.args.next a.due (sym a.next ∙ c.in-Wants.is) c.index_mut.ensures.value
    c.put.ensures.put in
    record {
      at_most = c.self.invariant.at_most;
      alive = λ f. record {
        due = h.0;
        next = c.ahead_open-self-inside.ensures ∙ (ap (λ (ss : List Source).
            ahead_open c.self.inside.going ss c.self.inside.given) c.deref.ensures.value ∙ h.1);
        lawful = put_lawful c.self.inside.sources.items c.in-Wants.source c.put.new.self a.lawful
            (rw c.put.ensures.put c.put.ensures.lawful);
      };
    }

pub returns-clause-ok : goal.returns-clause-ok
returns-clause-ok c = λ source may t h w.
    let a = c.self.invariant.alive c.if-self.false in
    let h' = rw (← c.self.view_is) at h in
    put_wanted _ _ _ _ t source _ _ _ _ c.if-self.false h' (sym a.next ∙ c.in-Wants.is) w c.index_mut.ensures.value
    c.put.ensures.put

pub returns-clause-grows : goal.returns-clause-grows
returns-clause-grows c = λ source may t h w.
    let h' = rw (← c.self.view_is) at h in
    has_grown _ _ _ _ _ t h' w

pub returns-in_default-clause-ok : goal.returns-in_default-clause-ok
returns-in_default-clause-ok c = λ source may t h w.
    let a = c.self.invariant.alive c.if-self.false in
    let h' = rw (← c.self.view_is) at h in
    rw (← c.self.view_is) (with_spent _ _ _ _ c.if-self.false
    (put_other _ _ t _ _ (alive _ _ _ _ c.if-self.false h') w
    (λ k e. c.in_default.not-Wants k (a.next ∙ e))))

pub returns-in_default-clause-grows : goal.returns-in_default-clause-grows
returns-in_default-clause-grows c = λ source may t h w.
    let h' = rw (← c.self.view_is) at h in
    has_grown _ _ _ _ _ t h' w

pub returns-in_default-clause-stays_spent : goal.returns-in_default-clause-stays_spent
returns-in_default-clause-stays_spent c = λ e. let f = rw (← c.self.view_is) at e in let g = c.if-self.false in cc

pub returns-then-self : goal.returns-then-self
returns-then-self c = record {
  ok = tt;
  grows = λ source may t h w. has_grown _ _ _ _ _ t h w;
  ready = tt;
  err = rw (← c.self.view_is) c.if-self.true;
  stays_spent = λ e. refl;
}

pub returns-clause-stays_spent : goal.returns-clause-stays_spent
returns-clause-stays_spent c = λ e. let f = rw (← c.self.view_is) at e in let g = c.if-self.false in cc

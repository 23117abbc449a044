use Rattle.std.proofs.Common.{◌≡◌, ◌∙◌, List, Some, true, ap, arith}
use Rattle.hum_assemble.specs.Source.{Source}
use Rattle.hum_assemble.specs.Round.{any_due}
use Rattle.hum_assemble.specs.Merge.{ahead}
use Rattle.hum_assemble.proofs.Asking.{end_lawful}
use Rattle.hum_assemble.proofs.Calls.{end_within, end_here, not_spent_end, has_grown}
use Rattle.hum_assemble.proofs.assemble.Assemble.end.Goals as goal

pub index_mut-requires : goal.index_mut-requires
index_mut-requires c =
    let r = rw (← c.self.view_is) at c.requires in
    let m = not_spent_end c.self.inside.stage
    (record { sources = c.self.inside.sources.items; given = c.self.inside.given })
    c.self.inside.spent c.args.source c.args.end c.if-self.false r in
    let w = end_within c.self.inside.stage
    (record { sources = c.self.inside.sources.items; given = c.self.inside.given })
    c.self.inside.spent c.args.source c.args.end m in
    let l = c.self.inside.sources.ok.0 in
    omega (arith, w, l)

pub returns-clause-ended : goal.returns-clause-ended
returns-clause-ended c = λ t h w.
    let h' = rw (← c.self.view_is) at h in
    end_here _ _ _ _ t _ _ _ _ h' w c.index_mut.ensures.value c.end.ensures

pub returns-clause-grows : goal.returns-clause-grows
returns-clause-grows c = λ t h w.
    let h' = rw (← c.self.view_is) at h in
    has_grown _ _ _ _ _ t h' w

pub returns-then-self-clause-grows : goal.returns-then-self-clause-grows
returns-then-self-clause-grows c = λ t h w. has_grown _ _ _ _ _ t h w

pub returns-then-self-clause-ended : goal.returns-then-self-clause-ended
returns-then-self-clause-ended c = λ t h w.
    let spent : c.args.self.now.spent ≡ true = rw (← c.self.view_is) c.if-self.true in
    let alive = h.alive in
    absurd cc

pub returns-clause-stays_spent : goal.returns-clause-stays_spent
returns-clause-stays_spent c = λ e. let f = rw (← c.self.view_is) at e in let g = c.if-self.false in cc

pub invariant_of-self : goal.invariant_of-self
invariant_of-self c =
    let a = c.self.invariant.alive c.if-self.false in
    record {
      at_most = c.self.invariant.at_most;
      alive = λ e. record {
        due = c.look_ahead-going.ensures.going ∙ ap any_due c.deref.ensures.value;
        next = c.look_ahead-going.ensures.next ∙ ap (λ (ss : List Source).
            ahead (record { sources = ss; given = c.self.inside.given })) c.deref.ensures.value;
        lawful = end_lawful c.self.inside.sources.items c.args.source c.index_mut.result.now c.end.new.self
            (Some c.args.end) a.lawful c.index_mut.ensures.value c.end.ensures;
      };
    }

pub returns-then-self-clause-stays_spent : goal.returns-then-self-clause-stays_spent
returns-then-self-clause-stays_spent c = λ e. e

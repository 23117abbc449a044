use Rattle.std.proofs.Common.{◌<◌, ◌≤◌, length, ap, sym, ◌∙◌, subst, arith}
use Rattle.hum_text.specs.Text.{without_cr}
use Rattle.hum_text.proofs.ReadingLemmas.{found-fault, none-free, last-cr}
use Rattle.hum_text.proofs.WayLemmas.{end-unread, fault-unread, of-text, last-unread}
use Rattle.hum_text.proofs.reader.LineReader.last_line.Goals as goal

pub returns-then-size-eq0-clause-goes : goal.returns-then-size-eq0-clause-goes
returns-then-size-eq0-clause-goes g c =
    let v = c.args.self.now in
    let bytes : v.taken ≤ v.limits.bytes = subst (λ w. w.taken ≤ w.limits.bytes) c.self.view_is (omega (arith, c.self.invariant.0.bytes)) in
    let is = ap length (c.pending-size.ensures ∙ ap (λ w. w.pending) c.self.view_is) in
    end-unread v c.requires.no_fault c.requires.ended (sym is ∙ c.if-size-eq0.true) bytes

pub returns-in-Some-clause-goes : goal.returns-in-Some-clause-goes
returns-in-Some-clause-goes g c =
    let v = c.args.self.now in
    let bytes : v.taken ≤ v.limits.bytes = subst (λ w. w.taken ≤ w.limits.bytes) c.self.view_is (omega (arith, c.self.invariant.0.bytes)) in
    let is = ap length (c.pending-size.ensures ∙ ap (λ w. w.pending) c.self.view_is) in
    fault-unread v _ _ c.in-Some.fault bytes c.fail.ensures.result c.fail.ensures.state (of-text _ _ _ _ _ c.in-Some.ensures.found)
    (λ all gs rest h text. found-fault v _ c.in-Some.fault (omega (arith, is))
    (λ j low. none-free v.pending c.requires.unended j (omega (arith, is, low))) c.in-Some.ensures.found all gs rest h)

pub returns-in-None-clause-goes : goal.returns-in-None-clause-goes
returns-in-None-clause-goes g c =
    let v = c.args.self.now in
    let bytes : v.taken ≤ v.limits.bytes = subst (λ w. w.taken ≤ w.limits.bytes) c.self.view_is (omega (arith, c.self.invariant.0.bytes)) in
    let same = c.pending.ensures ∙ ap (λ w. w.pending) c.self.view_is in
    let is = ap length (c.pending-size.ensures ∙ ap (λ w. w.pending) c.self.view_is) in
    fault-unread v _ _ _ bytes c.fail-in-None.ensures.result c.fail-in-None.ensures.state tt (λ all gs rest h text.
    last-cr v _ _ _ c.requires.ended c.requires.unended same is c.if-size-eq0.false c.strip_cr.ensures
    (sym c.is_empty-is_empty.ensures ∙ c.if-is_empty.true) c.in-None.ensures.none all gs rest h)

pub returns-in-None-2-clause-goes : goal.returns-in-None-2-clause-goes
returns-in-None-2-clause-goes g c =
    let v = c.args.self.now in
    let same = c.pending.ensures ∙ ap (λ w. w.pending) c.self.view_is in
    let is = ap length (c.pending-size.ensures ∙ ap (λ w. w.pending) c.self.view_is) in
    let some : 0 < length c.pending-size.result.now = omega (arith, c.if-size-eq0.false) in
    last-unread v _ _ _ c.requires.no_fault c.requires.ended c.requires.unended is c.if-size-eq0.false
    (c.strip_cr.ensures ∙ ap without_cr same) (sym c.is_empty-is_empty.ensures ∙ c.if-is_empty.false)
    c.in-None.ensures.none (c.in-None.ensures.records some) (c.in-None.ensures.bytes some) c.hand_out.ensures

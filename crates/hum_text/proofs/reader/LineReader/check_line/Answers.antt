use Rattle.std.proofs.Common.{◌+◌, ◌<◌, ◌≤◌, length, arith, subst}
use Rattle.hum_text.proofs.ReadingLemmas.{found-fault, first-free}
use Rattle.hum_text.proofs.GivenLine.{given-line}
use Rattle.hum_text.proofs.WayLemmas.{fault-unread, of-text, line-unread}
use Rattle.hum_text.proofs.reader.LineReader.check_line.Goals as goal

pub returns-in-Some-clause-goes : goal.returns-in-Some-clause-goes
returns-in-Some-clause-goes g c =
    let v = c.args.self.now in
    let high : c.args.k < length v.pending = c.requires.first.0.high in
    let bytes : v.taken ≤ v.limits.bytes = subst (λ w. w.taken ≤ w.limits.bytes) c.self.view_is (omega (arith, c.self.invariant.0.bytes)) in
    fault-unread v _ _ c.in-Some.fault bytes c.fail.ensures.result c.fail.ensures.state (of-text _ _ _ _ _ c.in-Some.ensures.found)
    (λ all gs rest h text. found-fault v c.through-size.result c.in-Some.fault (omega (arith, c.through-size.ensures))
    (λ j low. first-free _ c.args.k c.requires.first j (omega (arith, c.through-size.ensures)))
    c.in-Some.ensures.found all gs rest h)

pub returns-in-None-clause-goes : goal.returns-in-None-clause-goes
returns-in-None-clause-goes g c =
    let v = c.args.self.now in
    let first = c.requires.first in
    let size = c.through-size.ensures in
    let lawful = rw size at c.in-None.ensures.none in
    let records : v.given < v.limits.records = c.in-None.ensures.records (omega (arith, size)) in
    let bytes : v.taken + (c.args.k + 1) ≤ v.limits.bytes = omega (arith, size, c.in-None.ensures.bytes (omega (arith, size))) in
    let state = rw size at c.hand_out.ensures in
    line-unread v _ (given-line v _ c.args.k c.requires.no_fault first lawful records bytes state)

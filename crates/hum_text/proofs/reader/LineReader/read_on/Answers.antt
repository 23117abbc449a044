use Rattle.std.proofs.Common.{◌<◌, ◌≤◌, ◌+◌, length, ap, sym, ◌∙◌, subst, arith}
use Rattle.hum_text.specs.Reading.{NeedsRead}
use Rattle.hum_text.proofs.ReadingLemmas.{found-fault, none-free, no-fault, needs-read}
use Rattle.hum_text.proofs.WayLemmas.{fault-unread, of-text}
use Rattle.hum_text.proofs.WindowLemmas.{end-nothing}
use Rattle.hum_text.proofs.ReadLemmas.{same-reading, unread-reading, more-reading, end-reading, fault-reading}
use Rattle.hum_text.proofs.reader.LineReader.read_on.Goals as goal

pub returns-in-Some : goal.returns-in-Some
returns-in-Some g c =
    let v = c.args.self.now in
    let is = ap length (c.pending-size.ensures ∙ ap (λ w. w.pending) c.self.view_is) in
    let bytes : v.taken ≤ v.limits.bytes = subst (λ w. w.taken ≤ w.limits.bytes) c.self.view_is (omega (arith, c.self.invariant.0.bytes)) in
    let found = c.in-Some.ensures.found in
    unread-reading _ _ _ v _ _ c.requires.going (λ needs. no-fault v _ c.in-Some.fault needs is found)
    (fault-unread v _ _ c.in-Some.fault bytes c.fail.ensures.result c.fail.ensures.state (of-text _ _ _ _ _ found)
    (λ all gs rest h text. found-fault v _ c.in-Some.fault (omega (arith, is))
    (λ j low. none-free v.pending c.requires.unended j (omega (arith, is, low))) found all gs rest h))

pub returns-in-Err : goal.returns-in-Err
returns-in-Err g c =
    let v = c.args.self.now in
    let is = ap length (c.pending-size.ensures ∙ ap (λ w. w.pending) c.self.view_is) in
    let here = needs-read v _ c.requires.no_fault c.requires.going c.requires.unended is c.in-None.ensures.none in
    let needs = subst (λ w. NeedsRead w) (sym c.self.view_is) here in
    same-reading _ _ _ _ _ _ _ c.self.view_is
    (fault-reading _ _ _ _ _ _ c.in-Err.fault _ _ _ c.in-Err.ensures.err.0 needs (omega (arith, c.self.invariant.0.bytes))
    c.in-Err.ensures.err.1 c.in-Err.ensures.kind c.fail-in-Err.ensures.result c.fail-in-Err.ensures.state)

pub returns-in-Ok-eq0 : goal.returns-in-Ok-eq0
returns-in-Ok-eq0 g c =
    let v = c.args.self.now in
    let is = ap length (c.pending-size.ensures ∙ ap (λ w. w.pending) c.self.view_is) in
    let here = needs-read v _ c.requires.no_fault c.requires.going c.requires.unended is c.in-None.ensures.none in
    let needs = subst (λ w. NeedsRead w) (sym c.self.view_is) here in
    let read = c.in-Ok-eq0.ensures.ok in
    same-reading _ _ _ _ _ _ _ c.self.view_is
    (end-reading _ _ _ _ _ _ _ _ _ read.0 _ read.1 read.2 c.in-Ok-eq0.field-0-test needs
    read.3 (read.4 c.in-Ok-eq0.field-0-test) c.in-Ok-eq0.ensures.read c.last_line.ensures.goes)

pub returns-in-Ok : goal.returns-in-Ok
returns-in-Ok g c =
    let v = c.args.self.now in
    let is = ap length (c.pending-size.ensures ∙ ap (λ w. w.pending) c.self.view_is) in
    let here = needs-read v _ c.requires.no_fault c.requires.going c.requires.unended is c.in-None.ensures.none in
    let needs = subst (λ w. NeedsRead w) (sym c.self.view_is) here in
    let read = c.in-Ok.ensures.ok in
    let low = rw is at c.in-None.ensures.bytes in
    let room = subst (λ w. 0 < length w.pending → w.taken + length w.pending ≤ w.limits.bytes) (sym c.self.view_is) low in
    rw c.count_ahead.ensures (same-reading _ _ _ _ _ _ _ c.self.view_is
    (more-reading _ _ _ _ _ _ _ read.0 _ read.1 needs room (omega (arith, c.self.invariant.0.bytes))
    c.in-Ok.ensures.line read.2 c.in-Ok.field-0-test.1 c.in-Ok.ensures.asked read.3 c.in-Ok.ensures.read))

pub last_line-requires-clause-unended : goal.last_line-requires-clause-unended
last_line-requires-clause-unended g c =
    let read = c.in-Ok-eq0.ensures.ok in
    let is = read.1 ∙ end-nothing _ read.0 (read.2 ∙ c.in-Ok-eq0.field-0-test) ∙ ap (λ w. w.pending) c.self.view_is in
    rw is c.requires.unended

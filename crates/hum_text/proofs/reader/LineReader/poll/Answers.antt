use Rattle.std.proofs.Common.{arith, ◌≡◌, ◌≤◌, None, Some, Ok, true, false, ◌∙◌, subst}
use Rattle.memchr.specs.Find.{IsFirstByte, is_byte}
use Rattle.hum_text.specs.Reading.{IsOver, GoesUnread, GoesReading}
use Rattle.hum_text.specs.declared.reader.Step.TheVariants.{End}
use Rattle.hum_text.proofs.PollLemmas.{lf-needless, lf-going, ended-needless, fault-polls, line-polls, unread-polls, reading-polls}
use Rattle.hum_text.proofs.reader.LineReader.poll.Goals as goal

pub returns-in-Some : goal.returns-in-Some
returns-in-Some g c =
    let fault = subst (λ u. u.fault ≡ Some c.in-Some.fault) c.self.view_is c.in-Some.is in
    let bytes = subst (λ u. u.taken ≤ u.limits.bytes) c.self.view_is (omega (arith, c.self.invariant.0.bytes)) in
    fault-polls g.R.Source.remaining g.R.Source.calls g.R.Source.failed _ _ fault bytes

pub returns-then-next_line : goal.returns-then-next_line
returns-then-next_line g c =
    let no_fault = subst (λ u. u.fault ≡ None) c.self.view_is c.in_default.is in
    rw c.show_ahead.ensures
    (line-polls g.R.Source.remaining g.R.Source.calls g.R.Source.failed _ _ no_fault (c.next_line.ensures.line c.if-next_line.true))

pub returns-in-Some-find_line_end : goal.returns-in-Some-find_line_end
returns-in-Some-find_line_end g c =
    let v = c.args.self.now in
    let k = c.in-Some-find_line_end.k in
    let same = c.self-2.view_is ∙ c.next_line.ensures.same c.if-next_line.false in
    let no_fault = subst (λ u. u.fault ≡ None) c.self.view_is c.in_default.is in
    let first = subst (λ u. IsFirstByte (is_byte 10) u.pending (Some k)) same c.in-Some-find_line_end.ensures.found in
    let unread = subst (λ u. GoesUnread u c.check_line.result c.check_line.new.self) same
    (rw c.find_line_end.ensures.same at c.check_line.ensures.goes) in
    unread-polls g.R.Source.remaining g.R.Source.calls g.R.Source.failed _ _ _ no_fault (lf-needless v k first)
    (λ over. absurd (lf-going v k first over)) unread

pub returns-in-None : goal.returns-in-None
returns-in-None g c =
    let v = c.args.self.now in
    let same = c.self-2.view_is ∙ c.next_line.ensures.same c.if-next_line.false in
    let no_fault = subst (λ u. u.fault ≡ None) c.self.view_is c.in_default.is in
    let ended = subst (λ u. u.ended ≡ true) same c.if-self.true in
    let unread = subst (λ u. GoesUnread u c.last_line.result c.last_line.new.self) same
    (rw c.find_line_end.ensures.same at c.last_line.ensures.goes) in
    let over = subst (λ u. IsOver u → (c.last_line.result ≡ Ok End) × (c.last_line.new.self ≡ u)) same
    (rw c.find_line_end.ensures.same at c.last_line.ensures.over) in
    unread-polls g.R.Source.remaining g.R.Source.calls g.R.Source.failed _ _ _ no_fault (ended-needless v ended) over unread

pub returns-in-None-2 : goal.returns-in-None-2
returns-in-None-2 g c =
    let remaining = g.R.Source.remaining in
    let calls = g.R.Source.calls in
    let failed = g.R.Source.failed in
    let same = c.self-2.view_is ∙ c.next_line.ensures.same c.if-next_line.false in
    let no_fault = subst (λ u. u.fault ≡ None) c.self.view_is c.in_default.is in
    let going = subst (λ u. u.ended ≡ false) same c.if-self.false in
    let reading = subst (λ u. GoesReading remaining calls failed u c.read_on.result c.read_on.new.self) same
    (rw c.find_line_end.ensures.same at c.read_on.ensures) in
    reading-polls remaining calls failed _ _ _ no_fault going reading

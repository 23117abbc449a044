use Rattle.std.proofs.lemmas.Bool.Decides.{nat_tests}
use Rattle.std.proofs.Common.{arith}
use Rattle.std.proofs.Common.{◌≡◌, ◌∙◌, ◌≤◌, ◌+◌, ◌++◌, ℕ, List, Option, length, sym, subst, None, false}
use Rattle.std.specs.Option.{is_some}
use Rattle.hum_record.specs.Lines.{IsReadTo}
use Rattle.hum_score.specs.Row.{Row}
use Rattle.hum_read.specs.Reading.{Scores}
use Rattle.hum_read.specs.Steps.{IsAheadTo, Nexts, given_by}
use Rattle.hum_record.specs.Plain.{HasNoStop}
use Rattle.hum_read.proofs.Ahead.{begins_so}
use Rattle.hum_read.proofs.Nexting.{stopped-nexts}
use Rattle.hum_read.proofs.scores.ScoreReader.next.Goals as goal

pub returns-then-is_some : goal.returns-then-is_some
returns-then-is_some g c =
    let remaining = g.R.Source.remaining in
    let calls = g.R.Source.calls in
    let failed = g.R.Source.failed in
    subst (λ v. Nexts remaining calls failed v (given_by None v.stopped) v) c.self.view_is
    (stopped-nexts remaining calls failed _ c.if-is_some.ensures)

ahead_to : {R : Type 0} (u v : Scores R) (held : List ℕ) (row : Row) (size : ℕ) → (behind : List ℕ) × (u.lines.pending ≡ held ++ behind)
    → length held ≤ u.lines.limits.line → u.lines.given + length held ≤ u.lines.limits.records
    → u.lines.taken + length held ≤ u.lines.limits.bytes → IsReadTo held row size → u ≡ v → IsAheadTo v.lines row size
ahead_to u v held row size next line records bytes to is =
    subst (λ w. IsAheadTo w.lines row size) is (record {
      ahead = record {
        held = held;
        behind = next.0;
        next = next.1;
        line = line;
        records = records;
        bytes = bytes;
        read = to.read;
      };
      whole = to.whole;
    })

pub give_short-requires-clause-ahead : goal.give_short-requires-clause-ahead
give_short-requires-clause-ahead g c =
    let ahead = c.ahead-held.ensures in
    ahead_to _ _ _ _ _ ahead.next ahead.line ahead.records ahead.bytes c.in-Some.ensures c.self.view_is

pub give_short-requires-in-Ok-clause-ahead : goal.give_short-requires-in-Ok-clause-ahead
give_short-requires-in-Ok-clause-ahead g c =
    let ahead = c.ahead-held.ensures in
    ahead_to _ _ _ _ _ ahead.next ahead.line ahead.records ahead.bytes c.in-Ok.ensures.line c.self.view_is

none_left : {X : Type 0} (o : Option X) → is_some o ≡ false → o ≡ None
none_left = grind (arith, nat_tests)

pub next_longer-requires-clause-going : goal.next_longer-requires-clause-going
next_longer-requires-clause-going g c =
    subst (λ v. v.stopped ≡ None) c.self.view_is (none_left _ (sym c.is_some.ensures ∙ c.if-is_some.false))

pub next_longer-requires-clause-free : goal.next_longer-requires-clause-free
next_longer-requires-clause-free g c =
    let next = c.ahead-held.ensures.next in
    let free = c.in-Err-Longer.ensures.longer c.in-Err-Longer.field-0-is in
    subst (λ v. HasNoStop v.lines.pending) c.self.view_is (begins_so c.ahead-held.result.now next.0 _ next.1 free)

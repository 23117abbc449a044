use Rattle.std.proofs.Common.{◌≡◌, ◌∙◌, ℕ, List, length, subst, sym, ap, take, None, Ok}
use Rattle.hum_score.specs.Row.{text_of}
use Rattle.hum_score.specs.Spelling.{reading}
use Rattle.hum_read.specs.Reading.{Scores, Gave}
use Rattle.hum_read.specs.Steps.{IsAhead, Nexts}
use Rattle.hum_read.proofs.Ahead.{taking}
use Rattle.hum_read.proofs.LineRead.{given-reads}
use Rattle.hum_read.proofs.Nexting.{taken-nexts, tidy-taken, few-taken}
use Rattle.hum_read.proofs.scores.ScoreReader.give.Goals as goal

pub take_line-requires : goal.take_line-requires
take_line-requires g c =
    let lines = c.self.inside.lines in
    let row = c.args.row in
    let going = subst (λ v. v.stopped ≡ None) (sym c.self.view_is) c.requires.going in
    let ahead = subst (λ v. IsAhead v.lines row) (sym c.self.view_is) c.requires.ahead in
    let t = taking lines.limits lines.given lines.taken lines.pending ahead.held ahead.behind row
    ahead.next ahead.line ahead.records ahead.bytes ahead.read in
    rw c.text.ensures.text (record {
      no_fault = c.self.invariant.going going;
      first = (t.line.lf, t.line.first, t.size, t.bytes);
      filled = t.filled;
      short = t.short;
      records = t.records;
    })

pub invariant_of-self : goal.invariant_of-self
invariant_of-self g c = tidy-taken c.self.inside.lines c.take_line.new.self c.self.inside.stopped c.self.invariant c.take_line.ensures.gives

pub returns : goal.returns
returns g c =
    let remaining = g.R.Source.remaining in
    let calls = g.R.Source.calls in
    let failed = g.R.Source.failed in
    let inside = c.self.inside in
    let lines = inside.lines in
    let new = c.take_line.new.self in
    let row = c.args.row in
    let going = subst (λ v. v.stopped ≡ None) (sym c.self.view_is) c.requires.going in
    let ahead = subst (λ v. IsAhead v.lines row) (sym c.self.view_is) c.requires.ahead in
    let read = ahead.read in
    let kept = c.keeps_data.ensures.keeps c.if-not-keeps_data.false row read.lawful read.kind (sym c.width.ensures) in
    let given = c.take_line.ensures.gives in
    let t = taking lines.limits lines.given lines.taken lines.pending ahead.held ahead.behind row
    ahead.next ahead.line ahead.records ahead.bytes read in
    let line : new.line ≡ text_of row = c.take_line.ensures.line ∙ ap (λ (text : List ℕ). take (length text) lines.pending) c.text.ensures.text ∙ t.text in
    let v : Scores _ = record { stage = inside.stage; lines = lines; spines = inside.paths; stopped = inside.stopped } in
    let w : Scores _ = record { stage = inside.stage; lines = new; spines = inside.paths; stopped = inside.stopped } in
    let reads = given-reads w inside.paths row going (ap reading line ∙ read.read)
    kept.0 (sym kept.1) (few-taken lines new inside.stopped c.self.invariant given) in
    subst (λ u. Nexts remaining calls failed u (Ok (Gave row)) w) c.self.view_is
    (taken-nexts remaining calls failed v new row c.self.invariant going given reads.gives)

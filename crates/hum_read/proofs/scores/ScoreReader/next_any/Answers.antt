use Rattle.std.proofs.Common.{◌≡◌, subst, sym, None}
use Rattle.hum_read.specs.Reading.{Scores}
use Rattle.hum_read.specs.Steps.{Nexts, given_by}
use Rattle.hum_read.proofs.Nexting.{line-nexts, more-nexts, end-nexts, fault-nexts}
use Rattle.hum_read.proofs.Nexting.{tidy-on, tidy-stopped, asks-line, few-given}
use Rattle.hum_read.proofs.scores.ScoreReader.next_any.Goals as goal

going-inside : {R : Type 0} {u v : Scores R} → u ≡ v → v.stopped ≡ None → u.stopped ≡ None
going-inside is going = subst (λ w. w.stopped ≡ None) (sym is) going

pub returns-in-Ok-Line : goal.returns-in-Ok-Line
returns-in-Ok-Line g c =
    let remaining = g.R.Source.remaining in
    let calls = g.R.Source.calls in
    let failed = g.R.Source.failed in
    let w = c.read_line.new.self in
    let r = given_by c.read_line.result w.stopped in
    let read = c.read_line.ensures in
    subst (λ v. Nexts remaining calls failed v r w) c.self.view_is
    (line-nexts remaining calls failed _ w c.poll.new.self c.in-Ok-Line.field-0 r c.self.invariant (going-inside c.self.view_is c.requires)
    c.in-Ok-Line.field-0-is c.in-Ok-Line.ensures read.lines read.stage read.stops read.told read.not_read read.gives)

pub returns-in-Ok-More : goal.returns-in-Ok-More
returns-in-Ok-More g c =
    let remaining = g.R.Source.remaining in
    let calls = g.R.Source.calls in
    let failed = g.R.Source.failed in
    let stopped = c.self.inside.stopped in
    let w : Scores _ = record {
      stage = c.self.inside.stage;
      lines = c.poll.new.self;
      spines = c.self.inside.paths;
      stopped = stopped;
    } in
    subst (λ v. Nexts remaining calls failed v (given_by None stopped) w) c.self.view_is
    (more-nexts remaining calls failed _ c.poll.new.self c.in-Ok-More.field-0 c.self.invariant (going-inside c.self.view_is c.requires)
    c.in-Ok-More.field-0-is c.in-Ok-More.ensures)

pub returns-in-Ok-End : goal.returns-in-Ok-End
returns-in-Ok-End g c =
    let remaining = g.R.Source.remaining in
    let calls = g.R.Source.calls in
    let failed = g.R.Source.failed in
    let w = c.close.new.self in
    subst (λ v. Nexts remaining calls failed v (given_by None w.stopped) w) c.self.view_is
    (end-nexts remaining calls failed _ w c.poll.new.self c.in-Ok-End.field-0 c.self.invariant (going-inside c.self.view_is c.requires)
    c.in-Ok-End.field-0-is c.in-Ok-End.ensures c.close.ensures)

pub returns-in-Err : goal.returns-in-Err
returns-in-Err g c =
    let remaining = g.R.Source.remaining in
    let calls = g.R.Source.calls in
    let failed = g.R.Source.failed in
    let stopped = c.stop.new.stopped in
    let w : Scores _ = record {
      stage = c.self.inside.stage;
      lines = c.poll.new.self;
      spines = c.self.inside.paths;
      stopped = stopped;
    } in
    subst (λ v. Nexts remaining calls failed v (given_by None stopped) w) c.self.view_is
    (fault-nexts remaining calls failed _ c.poll.new.self c.in-Err.fault c.given.result stopped c.self.invariant
    (going-inside c.self.view_is c.requires) c.in-Err.ensures c.given.ensures.given c.stop.ensures)

pub invariant_of-self : goal.invariant_of-self
invariant_of-self g c =
    tidy-on g.R.Source.remaining g.R.Source.calls g.R.Source.failed c.self.inside.lines c.poll.new.self c.self.inside.stopped c.in-Ok-Line.field-0
    c.self.invariant c.in-Ok-Line.ensures

pub read_line-requires : goal.read_line-requires
read_line-requires g c =
    asks-line g.R.Source.remaining g.R.Source.calls g.R.Source.failed c.self.inside.lines c.poll.new.self c.self.inside.stopped c.in-Ok-Line.field-0
    c.self.invariant (going-inside c.self.view_is c.requires) c.in-Ok-Line.field-0-is c.in-Ok-Line.ensures

pub invariant_of-self-in-Ok-More : goal.invariant_of-self-in-Ok-More
invariant_of-self-in-Ok-More g c =
    tidy-on g.R.Source.remaining g.R.Source.calls g.R.Source.failed c.self.inside.lines c.poll.new.self c.self.inside.stopped c.in-Ok-More.field-0
    c.self.invariant c.in-Ok-More.ensures

pub invariant_of-self-in-Ok-End : goal.invariant_of-self-in-Ok-End
invariant_of-self-in-Ok-End g c =
    tidy-on g.R.Source.remaining g.R.Source.calls g.R.Source.failed c.self.inside.lines c.poll.new.self c.self.inside.stopped c.in-Ok-End.field-0
    c.self.invariant c.in-Ok-End.ensures

pub stop-requires : goal.stop-requires
stop-requires g c =
    few-given g.R.Source.remaining g.R.Source.calls g.R.Source.failed c.self.inside.lines c.poll.new.self c.self.inside.stopped c.in-Err.fault
    c.given.result c.self.invariant c.in-Err.ensures c.given.ensures.at_most

pub invariant_of-self-in-Err : goal.invariant_of-self-in-Err
invariant_of-self-in-Err g c =
    tidy-stopped g.R.Source.remaining g.R.Source.calls g.R.Source.failed c.self.inside.lines c.poll.new.self c.self.inside.stopped c.stop.new.stopped
    c.in-Err.fault _ c.self.invariant c.in-Err.ensures c.stop.ensures

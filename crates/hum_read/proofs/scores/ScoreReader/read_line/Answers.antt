use Rattle.std.proofs.Common.{None, Some, Ok, ◌≤◌, ◌≡◌, sym, subst}
use Rattle.hum_read.specs.Reading.{Scores, Gave}
use Rattle.hum_read.specs.Steps.{given_by, refusal}
use Rattle.hum_stage.specs.Refusals.{rule_in}
use Rattle.hum_read.proofs.LineRead.{LineReads, text-reads, record-reads, given-reads}
use Rattle.hum_read.proofs.scores.ScoreReader.read_line.Goals as goal

pub returns-in-Err : goal.returns-in-Err
returns-in-Err g c =
    let w = c.refuse.new.self in
    let rule = rule_in c.into.result in
    let refused = subst (λ v. w ≡ record v { stopped = Some (refusal v.stage v.lines.given rule) }) (sym c.self.view_is)
    c.refuse.ensures in
    subst (λ v. LineReads v (given_by None w.stopped) w) c.self.view_is
    (text-reads _ w _ c.in-Err.fault rule (rw c.from_line-len.ensures.line at c.in-Err.ensures.exact)
    c.into.ensures refused)

pub returns-in-Ok-pass : goal.returns-in-Ok-pass
returns-in-Ok-pass g c =
    let w : Scores _ = record {
      stage = c.self.inside.stage;
      lines = c.self.inside.lines;
      spines = c.pass.new.paths;
      stopped = c.self.inside.stopped;
    } in
    let going = subst (λ v. v.stopped ≡ None) (sym c.self.view_is) c.requires.going in
    let few = subst (λ v. v.lines.given ≤ 4294967295) (sym c.self.view_is) c.requires.few in
    subst (λ v. LineReads v (Ok (Gave c.in-Ok.record)) w) c.self.view_is
    (given-reads _ c.pass.new.paths c.in-Ok.record going (rw c.from_line-len.ensures.line at c.in-Ok.ensures.exact)
    c.in-Ok-pass.ensures.valid c.in-Ok-pass.ensures.after few)

pub returns-in-Err-pass : goal.returns-in-Err-pass
returns-in-Err-pass g c =
    let w = c.refuse-in-Err-pass.new.self in
    subst (λ v. LineReads v (given_by None w.stopped) w) c.self.view_is
    (record-reads _ w c.pass.new.paths c.in-Ok.record c.in-Err-pass.fault (rule_in c.into-in-Err-pass.result)
    (rw c.from_line-len.ensures.line at c.in-Ok.ensures.exact) c.in-Err-pass.ensures.refused c.into-in-Err-pass.ensures
    c.refuse-in-Err-pass.ensures)

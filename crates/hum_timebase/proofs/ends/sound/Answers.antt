use Rattle.std.proofs.Common.{◌≡◌, ◌∙◌, sym, ap, true, false}
use Rattle.std.specs.List.{list_any}
use Rattle.hum_timebase.proofs.Placed.{long_of, long_placed, sounded, sounded_placed, sounded_more, short_more}
use Rattle.hum_timebase.proofs.Placed.{some_here, none_left, all_sounded, on_err}
use Rattle.hum_timebase.proofs.ends.sound.Goals as goal

pub returns-in_err-sound_at-clause-refused : goal.returns-in_err-sound_at-clause-refused
returns-in_err-sound_at-clause-refused c =
    let some : list_any (long_of c.args.time) c.args.notes.now ≡ true =
    some_here (long_of c.args.time) c.args.notes.now c.loop-note.note-index c.note-item.result _ _
    c.loop-note-test.true c.note-item.is c.in_err-sound_at.ensures.refused c.loop-note.invariant.long in
    on_err c.from_residual.result (λ columns is.
    sym (long_placed c.args.time columns 0) ∙ ap (list_any (long_of c.args.time)) (sym is) ∙ some)

pub loop-note-preserved : goal.loop-note-preserved
loop-note-preserved c = record {
  ends =
      sounded_more c.args.time c.args.notes.now c.loop-note.note-index c.note-item.result _ c.loop-note.ends c.sound_at.new.ends _
      c.loop-note-test.true c.note-item.is c.in_ok-sound_at.ensures.end c.loop-note.invariant.ends;
  long =
      short_more c.args.time c.args.notes.now c.loop-note.note-index c.note-item.result _ _
      c.loop-note-test.true c.note-item.is c.in_ok-sound_at.ensures.fits c.loop-note.invariant.long;
}

pub returns-clause-ends : goal.returns-clause-ends
returns-clause-ends c =
    let all = all_sounded c.args.time c.args.notes.now c.loop-note.note-index c.loop-note.ends _ c.loop-note-test.false c.loop-note.invariant.ends in
    λ columns is.
    all ∙ ap (λ notes. sounded c.args.time notes c.args.ends.now) is ∙ sounded_placed c.args.time columns c.args.ends.now 0

pub returns-clause-fits : goal.returns-clause-fits
returns-clause-fits c =
    let none : list_any (long_of c.args.time) c.args.notes.now ≡ false =
    none_left (long_of c.args.time) c.args.notes.now c.loop-note.note-index _ c.loop-note-test.false c.loop-note.invariant.long in
    λ columns is.
    sym (long_placed c.args.time columns 0) ∙ ap (list_any (long_of c.args.time)) (sym is) ∙ none

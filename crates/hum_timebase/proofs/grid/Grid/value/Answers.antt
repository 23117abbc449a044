use Rattle.std.proofs.Common.{◌∙◌, sym, ap, refl, None}
use Rattle.std.specs.Prelude.{Some}
use Rattle.hum_stage.proofs.Telling.{told_on}
use Rattle.hum_timebase.proofs.Striking.{goes_nulls, goes_barlines, sounds_on}
use Rattle.hum_timebase.proofs.grid.Grid.value.Goals as goal

pub returns-in-Nulls : goal.returns-in-Nulls
returns-in-Nulls c = λ decide past h sound.
    let step = goes_nulls _ _ _ _ decide past h c.args.row c.keep_timed.new.self c.requires.kind
    (sym c.content_by.ensures ∙ c.in-Nulls.is) c.keep_timed.ensures in
    rw c.requires.empty step

pub returns-in-Barlines : goal.returns-in-Barlines
returns-in-Barlines c = λ decide past h sound.
    let step = goes_barlines _ _ _ _ decide past h c.args.row c.keep_timed.new.self c.requires.kind
    (sym c.content_by.ensures ∙ c.in-Barlines.is) c.keep_timed.ensures in
    rw c.put.ensures step

pub returns-in_ok-sound-in-Sounds : goal.returns-in_ok-sound-in-Sounds
returns-in_ok-sound-in-Sounds c = λ decide past h sound.
    let kept = c.in_ok-sound-in-Sounds.ensures.kept in
    sounds_on _ _ _ _ decide past h c.args.row c.keep_timed.new.self c.sound.new.self.clock _ _ _ c.args.room c.sound.new.out None
    c.requires.kind (sym c.content_by.ensures ∙ c.in-Sounds.is) c.keep_timed.ensures
    (ap (λ s. s.pace) kept) (ap (λ s. s.paths.path) kept) (ap (λ s. s.timed) kept)
    c.in_ok-sound-in-Sounds.ensures.decided (λ _. c.in_ok-sound-in-Sounds.ensures.clock)

pub content_by-requires : goal.content_by-requires
content_by-requires c = (c.each.result.now, rw c.deref.ensures.value c.in_ok-misread.ensures)

pub returns-in_err-sound-in-Sounds : goal.returns-in_err-sound-in-Sounds
returns-in_err-sound-in-Sounds c =
    told_on c.from_residual-in_err-sound-in-Sounds.result c.in_err-sound-in-Sounds.field-0.0 _ _
    c.from_residual-in_err-sound-in-Sounds.ensures.1 c.in_err-sound-in-Sounds.ensures.decided
    (λ rule decided decide past h sound.
    sounds_on _ _ _ _ decide past h c.args.row c.keep_timed.new.self c.keep_timed.new.self _ _ _ c.args.room c.sound.new.out (Some rule)
    c.requires.kind (sym c.content_by.ensures ∙ c.in-Sounds.is) c.keep_timed.ensures refl refl refl decided (λ w. cc))

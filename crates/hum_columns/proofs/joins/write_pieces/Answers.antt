use Rattle.std.proofs.Common.{◌∙◌, refl, ap, sym, Ok}
use Rattle.hum_score.specs.declared.records.SpinedKind.TheVariants.{Interpretation}
use Rattle.hum_stage.proofs.Moves.{over_room, fits_room}
use Rattle.hum_stage.proofs.Telling.{told_as}
use Rattle.hum_columns.specs.Spread.{spread, filled}
use Rattle.hum_columns.proofs.OneByOne.{too_many, few_enough, not_empty}
use Rattle.hum_columns.proofs.joins.write_pieces.Goals as goal

pub returns-in_err-check_room : goal.returns-in_err-check_room
returns-in_err-check_room c =
    let many = c.in_err-check_room.ensures.many in
    told_as c.from_residual.result c.in_err-check_room.field-0.0 _ _ c.from_residual.ensures.1 many.0 (
      over_room c.args.room (filled Interpretation (spread c.args.pieces.now)) _ refl
          (too_many c.args.room c.records_for-records.result c.args.pieces.now
          (not_empty c.args.pieces.now c.is_empty.result c.is_empty.ensures c.if-is_empty.false)
          c.records_for-records.ensures.some c.records_for-records.ensures.records many.1),
      c.requires.empty,
    )

pub returns : goal.returns
returns c =
    fits_room c.args.room (filled Interpretation (spread c.args.pieces.now)) _ refl
    (few_enough c.args.room c.records_for-records.result c.args.pieces.now
    (not_empty c.args.pieces.now c.is_empty.result c.is_empty.ensures c.if-is_empty.false)
    c.records_for-records.ensures.some c.records_for-records.ensures.records c.in_ok-check_room.ensures.fits)
    ∙ ap Ok (sym (rw (c.requires.empty, ← c.records_for-records.ensures.records) at c.in_ok-write_each.ensures))

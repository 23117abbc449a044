use Rattle.std.proofs.Common.{◌∙◌, sym, subst, List}
use Rattle.hum_columns.specs.Spread.{JoinedToken}
use Rattle.hum_columns.specs.Writing.{Fit}
use Rattle.hum_stage.proofs.Telling.{told_none}
use Rattle.hum_extract.proofs.CutFits.{pieces_fit}
use Rattle.hum_extract.proofs.cutting.cut.Goals as goal

pub write_pieces-requires-clause-fit : goal.write_pieces-requires-clause-fit
write_pieces-requires-clause-fit c =
    let is = c.deref.ensures.value ∙ c.in_ok-pieces.ensures in
    subst (λ (ps : List JoinedToken). Fit ps) (sym is) (pieces_fit c.is_lone-lone.result c.args.marks.now c.args.row.now c.requires.kind c.requires.lawful)

pub returns-in_err-pieces : goal.returns-in_err-pieces
returns-in_err-pieces c =
    told_none c.from_residual.result _ c.from_residual.ensures.1

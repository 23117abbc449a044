use Rattle.std.proofs.Common.{◌∙◌, sym, subst, ap, List, ℕ, false}
use Rattle.hum_score.specs.Row.{tokens_of}
use Rattle.hum_columns.specs.Spread.{JoinedToken, piece}
use Rattle.hum_columns.specs.Writing.{Fit}
use Rattle.hum_cleave.specs.Columns.{together}
use Rattle.hum_columns.specs.Chosen.{each_piece}
use Rattle.hum_cleave.proofs.Fitted.{pieces_fit}
use Rattle.hum_cleave.proofs.merging.merge.Goals as goal

pub write_pieces-requires-clause-fit : goal.write_pieces-requires-clause-fit
write_pieces-requires-clause-fit c =
    let fs = c.args.marks.now in
    let row = c.args.row.now in
    let is = c.deref.ensures.value ∙ c.in_ok-left.ensures
    ∙ ap (λ (one : List ℕ). together (piece false one) fs (each_piece false (tokens_of row))) c.leftmost_interpretation-one.ensures in
    subst (λ (ps : List JoinedToken). Fit ps) (sym is) (pieces_fit fs row c.requires.kind c.requires.lawful)

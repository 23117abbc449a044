use Rattle.hum_stage.proofs.Telling.{told_on}
use Rattle.hum_cells.proofs.Framing.{may_tell_data, stepped_data, refused_data}
use Rattle.hum_cells.proofs.cells.Cells.step_data.Goals as goal

pub tell_data-requires-clause-score : goal.tell_data-requires-clause-score
tell_data-requires-clause-score g c = may_tell_data c.args.next c.deref.ensures.value c.requires.score

pub returns : goal.returns
returns g c =
    stepped_data _ (g.T.TokenRewriter.follows c.tell_data.new.teller) c.args.next _ _ c.args._room c.requires.kind c.deref.ensures.value
    c.in_ok-told.ensures c.put.ensures

pub returns-in_err-told : goal.returns-in_err-told
returns-in_err-told g c =
    told_on c.from_residual.result c.in_err-told.field-0.0 _ _ c.from_residual.ensures.1 c.in_err-told.ensures
    (λ rule told decide past h score. refused_data _ (g.T.TokenRewriter.follows c.tell_data.new.teller) c.args.next rule c.args._room
    c.deref.ensures.value told decide past h score)

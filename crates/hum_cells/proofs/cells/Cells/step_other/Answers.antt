use Rattle.std.proofs.Common.{ap}
use Rattle.hum_stage.proofs.Telling.{told_on}
use Rattle.hum_cells.proofs.Framing.{no_fault, may_follow, may_tell, stepped, refused}
use Rattle.hum_cells.proofs.cells.Cells.step_other.Goals as goal

pub follow-requires : goal.follow-requires
follow-requires g c = no_fault c.args.next c.requires.score

pub follow-requires-2-clause-score : goal.follow-requires-2-clause-score
follow-requires-2-clause-score g c = may_follow c.args.next _ c.in_ok-follow.ensures.moves c.requires.score

pub tell_other-requires-clause-score : goal.tell_other-requires-clause-score
tell_other-requires-clause-score g c = may_tell _ _ c.args.next _ c.deref.ensures.value c.in_ok-follow.ensures.moves c.in_ok-follow-2.ensures c.requires.score

pub returns : goal.returns
returns g c =
    stepped _ (g.T.TokenRewriter.follows c.follow-2.new.self) _ c.args.next _ _ _ c.args._room c.deref.ensures.value c.in_ok-follow.ensures.moves
    (ap (λ p. p.path) c.in_ok-follow.ensures.after) c.in_ok-follow-2.ensures c.in_ok-told.ensures c.in_ok-mark_after.ensures c.put.ensures

pub returns-in_err-told : goal.returns-in_err-told
returns-in_err-told g c =
    told_on c.from_residual-in_err-told.result c.in_err-told.field-0.0 _ _ c.from_residual-in_err-told.ensures.1 c.in_err-told.ensures
    (λ rule told decide past h score. refused _ (g.T.TokenRewriter.follows c.follow-2.new.self) (g.T.TokenRewriter.follows c.follow-2.new.self) c.args.next _ rule c.args._room
    c.deref.ensures.value c.in_ok-follow.ensures.moves c.in_ok-follow-2.ensures told decide past h score)

use Rattle.std.proofs.Common.{◌∙◌, sym}
use Rattle.hum_stage.proofs.Moves.{put_dropped, by_fault}
use Rattle.hum_stage.proofs.at_once.AtOnce.put_in_vain.Goals as goal

pub returns-clause-ok : goal.returns-clause-ok
returns-clause-ok g c = λ t h e s. put_dropped _ _ _ _ t c.args.next.now h s
    (by_fault _ c.requires.stopped (sym c.is_out.ensures ∙ c.if-is_out.false))

use Rattle.std.proofs.Common.{ap, refl}
use Rattle.hum_timebase.proofs.Striking.{after_moves, moved_kept}
use Rattle.hum_timebase.proofs.grid.Grid.follow.Goals as goal

pub returns-clause-spines : goal.returns-clause-spines
returns-clause-spines c = λ decide past h.
    let kept = moved_kept c.args.self.now.clock c.keep_timed.new.self c.lead.new.self _ _ _ _ _ c.keep_timed.ensures
    refl c.in_ok-own.ensures c.in_ok-found.ensures.moves c.in_ok-lead.ensures in
    after_moves _ _ _ _ decide past h c.args.row.now _ _ _ c.requires.kind (ap (λ p. p.path) c.in_ok-found.ensures.after) c.in_ok-self.ensures kept

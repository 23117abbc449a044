use Rattle.std.proofs.Common.{ap}
use Rattle.hum_path.proofs.Carry.{on_ok}
use Rattle.hum_ditto.proofs.Steps.{told, follows_on}
use Rattle.hum_ditto.proofs.Repeats.remember_any.Goals as goal

pub returns : goal.returns
returns c =
    on_ok c.follow-2.result (λ on decide past h sound.
    let moved = told _ _ past c.args.row.now c.in_ok-found.ensures.moves h.spines in
    follows_on _ _ _ decide past h c.args.row.now _ _ _ (ap (λ p. p.path) c.in_ok-found.ensures.after) c.follow-2.ensures.options
    (on past h.remembered sound moved)) c.follow-2.ensures.memories

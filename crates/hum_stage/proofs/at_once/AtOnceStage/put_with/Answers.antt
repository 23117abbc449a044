use Rattle.std.proofs.Common.{ap, refl}
use Rattle.hum_stage.specs.Order.{open_score}
use Rattle.hum_stage.specs.Standing.{fault_in, is_out}
use Rattle.hum_stage.proofs.Moves.{put_lone, wants_again, wants_empty}
use Rattle.hum_stage.proofs.at_once.AtOnceStage.put_with.Goals as goal

pub returns-then-leaves-clause-ok : goal.returns-then-leaves-clause-ok
returns-then-leaves-clause-ok g c = λ t h e s.
    let none = c.leaves.ensures.going c.if-leaves.true in
    let empty = wants_empty _ _ _ _ c.args.next (ap is_out none) c.requires.may in
    let kept = c.leaves.ensures.left c.if-leaves.true h.decide _ (h.at.memory (ap fault_in none)) (open_score t.put c.args.next s) in
    rw c.replace.ensures.after (put_lone _ _ _ _ _ t c.args.next c.args.next _ _ _ h empty (ap fault_in none) kept.0 kept.1 (refl, empty)
    (c.leaves.ensures.room c.if-leaves.true) refl)

pub returns-then-leaves-clause-ready : goal.returns-then-leaves-clause-ready
returns-then-leaves-clause-ready g c =
    let none = c.leaves.ensures.going c.if-leaves.true in
    wants_again _ _ _ _ _ _ _ c.args.next (ap is_out none) c.requires.may
    (wants_empty _ _ _ _ c.args.next (ap is_out none) c.requires.may)

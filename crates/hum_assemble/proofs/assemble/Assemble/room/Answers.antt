use Rattle.std.proofs.Common.{◌≤◌, ◌∙◌, ap, subst, List}
use Rattle.hum_score.specs.Row.{Row}
use Rattle.hum_record.specs.Room.{rooms_for}
use Rattle.hum_assemble.specs.Source.{Source}
use Rattle.hum_assemble.specs.Meaning.{waiting_by}
use Rattle.hum_assemble.proofs.Calls.{told_waiting}
use Rattle.hum_assemble.proofs.assemble.Assemble.room.Goals as goal

pub returns : goal.returns
returns c = λ t h.
    let h' = rw (← c.self.view_is) at h in
    subst (λ (rows : List Row). c.room_by.result ≤ rooms_for rows)
    (ap (λ (ss : List Source). waiting_by ss c.self.inside.next) c.deref.ensures.value
    ∙ told_waiting _ _ _ _ _ _ t c.self.invariant h') c.room_by.ensures

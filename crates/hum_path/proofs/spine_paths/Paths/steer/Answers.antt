use Rattle.std.proofs.Common.{◌≡◌, ap}
use Rattle.hum_path.specs.Tracked.{path_in}
use Rattle.hum_score.specs.Texts.{texts}
use Rattle.hum_path.proofs.Within.{steered, tracked}
use Rattle.hum_path.proofs.spine_paths.Paths.steer.Goals as goal

pub returns-in-Ok : goal.returns-in-Ok
returns-in-Ok c =
    let inside = c.self.inside in
    let is : path_in inside.opened (texts inside.names.items) ≡ c.args.self.now.path = ap (λ t. t.path) c.self.view_is in
    let step = rw (c.deref.ensures.value, is) at c.in-Ok.ensures in
    let s = steered c.args.self.now.path _ _ c.args.row.now c.requires.steers step.0 step.1 step.2 in
    (s.0, rw c.listed.ensures s.1, tracked _ _ _ _ s.2 (ap (λ t. t.spent) c.self.view_is), rw c.listed.ensures s.3)

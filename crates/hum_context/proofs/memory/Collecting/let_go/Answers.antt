use Rattle.std.proofs.Common.{ap}
use Rattle.hum_context.specs.Options.{choice_of}
use Rattle.hum_context.proofs.Following.{first_popped, popped_known}
use Rattle.hum_context.proofs.memory.Collecting.let_go.Goals as goal

pub returns-clause-row : goal.returns-clause-row
returns-clause-row c kept at =
    ap (λ k. k.row) (first_popped c.args.held.now.items c.in-Some.kept kept c.in-Some.ensures.lookup at)

pub returns-clause-stand : goal.returns-clause-stand
returns-clause-stand c path row rows knows h =
    rw c.in_ok-pass_on.ensures.kept (c.in_ok-pass_on.ensures.stand path row rows
    (popped_known (choice_of c.args.self.now.options) path c.args.held.now.items c.in-Some.kept row rows
    c.in-Some.ensures.lookup knows) h)

use Rattle.std.proofs.Common.{refl}
use Rattle.hum_score.specs.Spines.{moves}
use Rattle.hum_context.specs.Options.{choice_of}
use Rattle.hum_context.proofs.Queues.{known_new}
use Rattle.hum_context.proofs.queued.Queued.new.Goals as goal

pub returns-clause-known : goal.returns-clause-known
returns-clause-known c path leads =
    known_new (choice_of c.args.options.now) path c.args.row _ (moves path c.args.row) _
    c.kind-kind.ensures.lawful c.kind-kind.ensures.at_most c.of-row.ensures c.in_ok-heard.ensures.heard
    leads refl

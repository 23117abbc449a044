use Rattle.std.proofs.lemmas.Result.{IfOk-weaker}
use Rattle.hum_words.specs.declared.commands.Command.TheVariants.{Context}
use Rattle.hum_context.specs.Context.{context}
use Rattle.hum_context.specs.Options.{omits_of}
use Rattle.hum_laws.proofs.One.{one, fine_whole, own_context}
use Rattle.hum_laws.proofs.looks.context_of_one.Goals as goal

pub returns-clause-collected : goal.returns-clause-collected
returns-clause-collected c = c.alone.ensures

pub returns-clause-same : goal.returns-clause-same
returns-clause-same c =
    IfOk-weaker c.alone.result _ _
    (λ given h. fine_whole 65536 1 Context (context (one (omits_of c.args.omit))) c.args.score.records.now given (own_context (omits_of c.args.omit)) h)
    c.alone.ensures

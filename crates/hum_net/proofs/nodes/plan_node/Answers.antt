use Rattle.std.proofs.Common.{refl, ap, ◌∙◌, map}
use Rattle.std.specs.Prelude.{pred}
use Rattle.std.proofs.lemmas.Result.{IfOk-weaker}
use Rattle.hum_net.specs.Parts.{first_of}
use Rattle.hum_net.proofs.Meaning.{command_fits, assemble_fits}
use Rattle.hum_net.proofs.nodes.plan_node.Goals as goal

pub returns-in_ok-copy-in-Command-clause-fits : goal.returns-in_ok-copy-in-Command-clause-fits
returns-in_ok-copy-in-Command-clause-fits g c =
    let stands = c.of_options-made.ensures.stands in
    command_fits g.S.Stage c.args.k _ c.args.stage.now _ c.in_ok-copy-in-Command.field-0 _ c.command.result c.in-Command.is
    c.in_ok-copy-in-Command.ensures (c.first_from_zero.ensures ∙ ap first_of c.deref-in-Command.ensures.value)
    (λ rest. c.command.ensures.stands _ rest stands) (c.command.ensures.lawful _ stands) c.of_options-made.ensures.keeps
    c.of_options-made.ensures.records refl

pub returns-in_ok-sources-in-Assemble-clause-fits : goal.returns-in_ok-sources-in-Assemble-clause-fits
returns-in_ok-sources-in-Assemble-clause-fits g c = IfOk-weaker c.assemble.result _ _
    (λ node fits. assemble_fits g.S.Stage c.args.k _ c.args.stage.now c.in_ok-sources-in-Assemble.sources.items node
    c.in-Assemble.is (c.in_ok-sources-in-Assemble.ensures ∙ ap (map pred) c.deref.ensures.value) fits refl)
    c.assemble.ensures.stands

use Rattle.std.proofs.Common.{◌∙◌, sym}
use Rattle.hum_context.specs.Options.{choice_of}
use Rattle.hum_context.proofs.Tokens.{all_heard, heard_narrow, none_heard}
use Rattle.hum_context.proofs.heard.hear_values.Goals as goal

pub returns-clause-heard : goal.returns-clause-heard
returns-clause-heard c n =
    rw c.new.ensures.items (sym (none_heard (choice_of c.args.options.now) c.args.row.now _ n
    c.requires c.in_ok-hear_all.ensures.heard (sym c.in_ok-hear_all.ensures.any ∙ c.if-branch.false)))

pub returns-then-branch-clause-heard : goal.returns-then-branch-clause-heard
returns-then-branch-clause-heard c n =
    all_heard (choice_of c.args.options.now) c.args.row.now _ n c.requires c.in_ok-hear_all.ensures.heard

pub returns-then-branch-clause-narrow : goal.returns-then-branch-clause-narrow
returns-then-branch-clause-narrow c =
    heard_narrow (choice_of c.args.options.now) c.args.row.now _ c.requires c.in_ok-hear_all.ensures.heard

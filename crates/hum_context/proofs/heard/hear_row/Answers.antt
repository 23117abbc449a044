use Rattle.std.proofs.Common.{◌≡◌, ◌∙◌, length, ap, arith}
use Rattle.hum_score.specs.declared.records.Kind.{Kind}
use Rattle.hum_score.specs.declared.records.Kind.TheVariants.{Values, Interpretation, Local, Global}
use Rattle.hum_context.specs.Options.{choice_of}
use Rattle.hum_context.proofs.Tokens.{other_passed}
use Rattle.hum_context.proofs.heard.hear_row.Goals as goal

pub returns-in-Interpretation-clause-heard : goal.returns-in-Interpretation-clause-heard
returns-in-Interpretation-clause-heard c n =
    rw c.new.ensures.items (other_passed (choice_of c.args.options.now) c.args.row.now n (λ is.
    let both : ◌≡◌ {A = Kind} Interpretation Values = c.in-Interpretation.ensures.kind ∙ is in
    cc))

pub returns-in-Interpretation-clause-valued : goal.returns-in-Interpretation-clause-valued
returns-in-Interpretation-clause-valued c some = absurd (some c.new.ensures.items)

pub returns-in-Interpretation-clause-narrow : goal.returns-in-Interpretation-clause-narrow
returns-in-Interpretation-clause-narrow c = let none = ap length c.new.ensures.items in omega (arith, none)

pub returns-in-Local-clause-heard : goal.returns-in-Local-clause-heard
returns-in-Local-clause-heard c n =
    rw c.new-in-Local.ensures.items (other_passed (choice_of c.args.options.now) c.args.row.now n (λ is.
    let both : ◌≡◌ {A = Kind} Local Values = c.in-Local.ensures.kind ∙ is in
    cc))

pub returns-in-Local-clause-valued : goal.returns-in-Local-clause-valued
returns-in-Local-clause-valued c some = absurd (some c.new-in-Local.ensures.items)

pub returns-in-Local-clause-narrow : goal.returns-in-Local-clause-narrow
returns-in-Local-clause-narrow c = let none = ap length c.new-in-Local.ensures.items in omega (arith, none)

pub returns-in-Global-clause-heard : goal.returns-in-Global-clause-heard
returns-in-Global-clause-heard c n =
    rw c.new-in-Global.ensures.items (other_passed (choice_of c.args.options.now) c.args.row.now n (λ is.
    let both : ◌≡◌ {A = Kind} Global Values = c.in-Global.ensures.kind ∙ is in
    cc))

pub returns-in-Global-clause-valued : goal.returns-in-Global-clause-valued
returns-in-Global-clause-valued c some = absurd (some c.new-in-Global.ensures.items)

pub returns-in-Global-clause-narrow : goal.returns-in-Global-clause-narrow
returns-in-Global-clause-narrow c = let none = ap length c.new-in-Global.ensures.items in omega (arith, none)

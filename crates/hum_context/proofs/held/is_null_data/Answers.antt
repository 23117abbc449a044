use Rattle.std.proofs.Common.{◌∙◌, sym, ap}
use Rattle.hum_score.specs.Row.{tokens_of, Spined}
use Rattle.hum_score.specs.declared.records.SpinedKind.TheVariants.{Values}
use Rattle.hum_context.proofs.Nulls.{all_nulls}
use Rattle.hum_context.proofs.held.is_null_data.Goals as goal

-- src/held.rt:54:1
pub returns-in-Values : goal.returns-in-Values
returns-in-Values c = λ h.
    let null = all_nulls (tokens_of c.args.row.now) (sym c.all_null.ensures ∙ h) in
    c.in-Values.ensures.shape ∙ ap (Spined Values) null

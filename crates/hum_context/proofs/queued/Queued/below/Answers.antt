use Rattle.std.proofs.Common.{◌≡◌, ◌∙◌, sym, get_or}
use Rattle.hum_context.specs.declared.heard.Heard.TheVariants.{Passed, Taken}
use Rattle.hum_context.proofs.Passing.{data_goes_on}
use Rattle.hum_context.proofs.queued.Queued.below.Goals as goal

pub returns-in-Taken : goal.returns-in-Taken
returns-in-Taken c =
    let heard : get_or c.args.self.now.heard.items c.args.c Passed ≡ Taken c.in-Taken.begins c.in-Taken.ends =
    sym c.heard.ensures ∙ c.in-Taken.is in
    sym (data_goes_on c.args.self.now c.args.c (λ none. let e = sym none ∙ heard in cc)).0

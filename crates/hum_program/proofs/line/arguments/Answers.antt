use Rattle.std.proofs.Common.{◌≡◌, ◌∙◌, ap, ap₂, true, codes, rules}
use Rattle.std.proofs.lemmas.Result.{IfOk-weaker}
use Rattle.clap.specs.Words.{app_of, rule_of, new_app, with_rule}
use Rattle.clap.specs.Simple.{App, app_of_fields, on_top}
use Rattle.hum_program.specs.Line.{word}
use Rattle.hum_program.proofs.line.arguments.Goals as goal

abbrev unhelpful : App → App
unhelpful = on_top (λ s. record s { disable_help_flag = true })

pub returns : goal.returns
returns c =
    let top : app_of c.disable_help_flag.result ≡ unhelpful (new_app (codes "humpipe")) =
    ap app_of_fields c.disable_help_flag.ensures ∙ ap unhelpful c.new.ensures.app in
    let third : rule_of c.action.result ≡ word (codes "PIPELINE") = search rules in
    let one = c.in_ok-arg.ensures.shape c.option.ensures.global ∙ ap₂ with_rule top c.option.ensures.rule in
    let two = c.in_ok-arg-2.ensures.shape c.option-2.ensures.global ∙ ap₂ with_rule one c.option-2.ensures.rule in
    IfOk-weaker c.arg-3.result _ _ (λ command adds. adds.shape (search rules) ∙ ap₂ with_rule two third) c.arg-3.ensures

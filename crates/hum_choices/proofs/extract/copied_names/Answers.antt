use Rattle.std.proofs.Common.{◌≡◌, ◌∙◌, ◌∷◌, [], rules}
use Rattle.std.proofs.lemmas.List.{map-append}
use Rattle.hum_score.specs.Texts.{texts}
use Rattle.hum_choices.proofs.Texts.{next_text}
use Rattle.hum_choices.proofs.extract.copied_names.Goals as goal

pub loop-name-preserved : goal.loop-name-preserved
loop-name-preserved c =
    let made : c.in_ok-to_vec.field-0.items ≡ c.name-item.result.items = search rules in
    rw c.in_ok-push.ensures.items
    (next_text c.loop-name.copy.items c.args.names.now c.loop-name.name-index c.in_ok-to_vec.field-0 c.name-item.result
    c.loop-name-test.true c.name-item.is made ∙ c.loop-name.invariant)

use Rattle.std.proofs.Common.{◌≡◌, ◌∙◌, refl, sym, ap, Some}
use Rattle.std.specs.Prelude.{slice_get}
use Rattle.hum_context.specs.declared.walk.Walk.{Walk}
use Rattle.hum_context.proofs.Kept.{same_stand}
use Rattle.hum_context.proofs.Standing.{get_there}
use Rattle.hum_context.proofs.linking.link_one.Goals as goal

pub returns-clause-stand : goal.returns-clause-stand
returns-clause-stand c o path first rows h =
    let walks = c.args.walks.now.items in
    let old = c.index_mut.result.now in
    let at : slice_get walks c.args.j ≡ Some old =
    get_there walks c.args.j old c.requires.within ∙ ap (λ (w : Walk). Some w) (sym c.index_mut.ensures.value) in
    same_stand o path first rows walks c.args.j old _ h at
    (record { at = refl; column = refl; count = refl; text = refl; enough = refl; ended = refl })

pub returns-then-saturating_sub-clause-stand : goal.returns-then-saturating_sub-clause-stand
returns-then-saturating_sub-clause-stand c o path first rows h =
    let walks = c.args.walks.now.items in
    let old = c.index_mut.result.now in
    let at : slice_get walks c.args.j ≡ Some old =
    get_there walks c.args.j old c.requires.within ∙ ap (λ (w : Walk). Some w) (sym c.index_mut.ensures.value) in
    same_stand o path first rows walks c.args.j old _ h at
    (record { at = refl; column = refl; count = refl; text = refl; enough = refl; ended = refl })

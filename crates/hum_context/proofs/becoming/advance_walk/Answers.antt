use Rattle.std.proofs.Common.{◌≡◌, ◌∙◌, sym, ap, Some}
use Rattle.std.specs.Prelude.{slice_get}
use Rattle.std.proofs.lemmas.List.{get_or-set_same}
use Rattle.hum_context.specs.declared.walk.Walk.{Walk}
use Rattle.hum_context.proofs.Standing.{stand_set, get_there}
use Rattle.hum_context.proofs.becoming.advance_walk.Goals as goal

pub returns-clause-stand : goal.returns-clause-stand
returns-clause-stand c o path rows want none knows h =
    let walks = c.args.walks.now.items in
    let old = c.index_mut.result.now in
    let at : slice_get walks c.args.j ≡ Some old =
    get_there walks c.args.j old c.requires.within ∙ ap (λ (w : Walk). Some w) (sym c.index_mut.ensures.value) in
    stand_set o path c.args.gone rows _ c.args.j _ h
    (c.go_on_at.ensures o path rows want none knows (h c.args.j old at)).stands

pub returns-clause-becomes : goal.returns-clause-becomes
returns-clause-becomes c o path rows want none knows h token a b =
    let walks = c.args.walks.now.items in
    let old = c.index_mut.result.now in
    let new = c.go_on_at.new.walk in
    let at : slice_get walks c.args.j ≡ Some old =
    get_there walks c.args.j old c.requires.within ∙ ap (λ (w : Walk). Some w) (sym c.index_mut.ensures.value) in
    let is : c.index.result.now ≡ new = c.index.ensures ∙ get_or-set_same walks c.args.j new c.index.result.now c.requires.within in
    c.becoming_by.ensures o path c.args.gone rows c.args.j none
    (rw is (c.go_on_at.ensures o path rows want none knows (h c.args.j old at))) token a b

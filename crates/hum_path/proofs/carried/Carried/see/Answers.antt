use Rattle.std.proofs.Common.{◌≡◌, ◌∙◌, ap, ap₂, get_or}
use Rattle.std.specs.Prelude.{slice_set}
use Rattle.hum_path.proofs.Carry.{on_ok, got}
use Rattle.hum_path.proofs.carried.Carried.see.Goals as goal

pub returns-clause-seen : goal.returns-clause-seen
returns-clause-seen g c =
    on_ok c.see.result (λ saw memory at.
    let see = g.M.ColumnMemory.seen c.args.rule.now c.args.token.now in
    let is : c.self.inside.memories.items ≡ c.args.self.now.each = ap (λ v. v.each) c.self.view_is in
    let here = c.index_mut.ensures.value ∙ ap (λ l. get_or l c.args.j c.index_mut.result.now) is
    ∙ got c.args.self.now.each c.args.j memory c.index_mut.result.now at in
    let new : c.see.new.self ≡ see memory = saw ∙ ap see here in
    ap₂ (λ l x. slice_set l c.args.j x) is new) c.see.ensures.seen

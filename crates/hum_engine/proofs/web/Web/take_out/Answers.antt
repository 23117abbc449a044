use Rattle.std.proofs.Common.{◌∙◌, ◌-◌, refl, ap}
use Rattle.std.specs.Vec.{with_item}
use Rattle.hum_engine.proofs.Acting.{sunk, told_taken}
use Rattle.hum_engine.proofs.Tried.{with_back, web_back}
use Rattle.hum_engine.proofs.web.Web.take_out.Goals as goal

pub returns-clause-done : goal.returns-clause-done
returns-clause-done g c some s h =
    sunk h (c.len-last.ensures ∙ c.args.self.now.links.ok.0) c.index_mut.ensures.value c.take.new.self
    (c.take.ensures.popped some) refl refl

pub returns-clause-taken : goal.returns-clause-taken
returns-clause-taken g c s h =
    told_taken h (c.len-last.ensures ∙ c.args.self.now.links.ok.0) c.index_mut.ensures.value c.take.ensures.taken

pub returns-clause-same : goal.returns-clause-same
returns-clause-same g c none =
    web_back refl
    (ap (λ l. with_item c.args.self.now.links (c.len-last.result - 1) l) (c.take.ensures.same none)
    ∙ with_back c.args.self.now.links (c.len-last.result - 1) c.index_mut.ensures.value)

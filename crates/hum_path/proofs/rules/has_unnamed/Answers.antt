use Rattle.std.proofs.Common.{◌∙◌, sym}
use Rattle.hum_path.proofs.ByPlace.{unnamed_at, none_unnamed}
use Rattle.hum_path.proofs.rules.has_unnamed.Goals as goal

pub returns-then-stays_unnamed : goal.returns-then-stays_unnamed
returns-then-stays_unnamed c =
    let test = rw c.deref.ensures.value at (sym c.if-stays_unnamed.ensures) in
    sym (unnamed_at c.args.names.now c.args.signs.now c.loop-j.j c.index-names-j.result _ c.requires c.loop-j-test.true c.index-names-j.is test)
    ∙ c.loop-j.invariant

pub loop-j-preserved : goal.loop-j-preserved
loop-j-preserved c =
    let test = rw c.deref.ensures.value at (sym c.if-stays_unnamed.ensures) in
    sym (unnamed_at c.args.names.now c.args.signs.now c.loop-j.j c.index-names-j.result _ c.requires c.loop-j-test.true c.index-names-j.is test)
    ∙ c.loop-j.invariant

pub returns : goal.returns
returns c = sym (none_unnamed c.args.names.now c.args.signs.now c.loop-j.j c.requires c.loop-j-test.false) ∙ c.loop-j.invariant

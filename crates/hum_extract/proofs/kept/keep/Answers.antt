use Rattle.std.proofs.lemmas.Grind.{common_steps}
use Rattle.std.proofs.lemmas.Bool.Decides.{nat_tests}
use Rattle.std.proofs.Common.{◌∙◌, ◌∷◌, [], sym, ap, arith}
use Rattle.hum_extract.proofs.ChosenTokens.{none_kept, some_kept, was_true, was_false}
use Rattle.hum_extract.proofs.kept.keep.Goals as goal

pub returns-then-width-eq0 : goal.returns-then-width-eq0
returns-then-width-eq0 = grind (arith, common_steps)

pub returns-then-is_none : goal.returns-then-is_none
returns-then-is_none = grind (arith, nat_tests, none_kept, was_true)

pub retain-requires-clause-some : goal.retain-requires-clause-some
retain-requires-clause-some c = was_false _ (sym c.is_none.ensures ∙ c.if-is_none.false)

pub returns : goal.returns
returns c =
    let some = rw c.width.ensures at c.if-width-eq0.false in
    ap (λ row. row ∷ []) c.in_ok-retain.ensures.left
    ∙ some_kept c.args.selection.now c.args.row.now some c.requires.as_wide (was_false _ (sym c.is_none.ensures ∙ c.if-is_none.false))

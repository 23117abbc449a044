use Rattle.std.proofs.lemmas.Bool.Decides.{nat_tests}
use Rattle.std.proofs.Common.{◌≡◌, ◌∙◌, sym, subst, Ok, false, rules, arith}
use Rattle.std.proofs.lemmas.Result.{err_from_is_err_and}
use Rattle.hum_score.specs.Spelling.{is_comment, kind_of_tokens, parts}
use Rattle.hum_record.specs.Cutting.{IsCut}
use Rattle.hum_record.specs.declared.tokens.Cut.TheVariants.{Plain, Whole}
use Rattle.hum_score.specs.declared.records.SpinedKind.TheVariants.{Values}
use Rattle.hum_record.proofs.Laws.{spined_fields}
use Rattle.hum_record.proofs.reading.cut.Goals as goal

pub returns-in-Plain-clause-fields : goal.returns-in-Plain-clause-fields
returns-in-Plain-clause-fields c =
    let text = c.args.text.now in
    let comment : is_comment text ≡ false = sym c.is_global.ensures ∙ c.if-is_global.false in
    let cut : IsCut text c.push_ends.new.ends.items Plain = subst (IsCut text c.push_ends.new.ends.items) c.in-Plain.is c.in_ok-push_ends.ensures in
    spined_fields text c.push_ends.new.ends.items Values c.requires.at_most c.requires.one_line cut.0 comment cut.2 cut.1

pub returns-in_ok-lawful_kind-in-Whole-clause-fields : goal.returns-in_ok-lawful_kind-in-Whole-clause-fields
returns-in_ok-lawful_kind-in-Whole-clause-fields c =
    let text = c.args.text.now in
    let comment : is_comment text ≡ false = sym c.is_global.ensures ∙ c.if-is_global.false in
    let cut : IsCut text c.push_ends.new.ends.items Whole = subst (IsCut text c.push_ends.new.ends.items) c.in-Whole.is c.in_ok-push_ends.ensures in
    let kind : kind_of_tokens (parts text) ≡ Ok c.in_ok-lawful_kind-in-Whole.field-0 = sym c.in_ok-lawful_kind-in-Whole.ensures in
    spined_fields text c.push_ends.new.ends.items c.in_ok-lawful_kind-in-Whole.field-0 c.requires.at_most c.requires.one_line cut.0 comment kind cut.1

pub returns-in_err-push_ends : goal.returns-in_err-push_ends
returns-in_err-push_ends c =
    grind (arith, nat_tests, err_from_is_err_and c.from_residual.result c.from_residual.ensures.1)

pub returns-in_err-lawful_kind-in-Whole : goal.returns-in_err-lawful_kind-in-Whole
returns-in_err-lawful_kind-in-Whole c =
    let p = err_from_is_err_and c.from_residual-in_err-lawful_kind-in-Whole.result c.from_residual-in_err-lawful_kind-in-Whole.ensures.1 in
    rw p.1 (record { fields = tt; read = tt; refused = search rules })

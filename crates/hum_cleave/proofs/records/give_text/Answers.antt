use Rattle.std.proofs.Common.{◌∙◌, ap, sym, subst}
use Rattle.hum_score.specs.declared.records.SpinedKind.TheVariants.{Local, Values}
use Rattle.hum_score.specs.Row.{Row, tokens_of, chosen}
use Rattle.hum_columns.specs.Following.{Answers}
use Rattle.hum_cleave.specs.Cleave.{text_told}
use Rattle.hum_cleave.specs.Columns.{together}
use Rattle.hum_cleave.specs.Tokens.{comment_of, data_of}
use Rattle.std.specs.Prelude.{Ok}
use Rattle.hum_stage.proofs.Telling.{told_none, told_to}
use Rattle.hum_cleave.proofs.Fitted.{stays}
use Rattle.hum_cleave.proofs.records.give_text.Goals as goal

pub returns-then-not-some : goal.returns-then-not-some
returns-then-not-some c = λ room.
    stays c.args.separator.now c.args.marks.now c.args.row (sym c.some.ensures ∙ c.if-not-some.true) c.requires.as_wide c.requires.lawful
    c.requires.kind
    ∙ ap Ok (sym (rw c.requires.empty at c.in_ok-push_back.ensures.items))

pub returns-in_err-push_back : goal.returns-in_err-push_back
returns-in_err-push_back c =
    told_none c.from_residual.result _ c.from_residual.ensures.1

pub returns-in_err-made-in-Local : goal.returns-in_err-made-in-Local
returns-in_err-made-in-Local c =
    told_none c.from_residual-in_err-made-in-Local.result _ c.from_residual-in_err-made-in-Local.ensures.1

pub returns-in_err-made-in-Values : goal.returns-in_err-made-in-Values
returns-in_err-made-in-Values c =
    told_none c.from_residual-in_err-made-in-Values.result _ c.from_residual-in_err-made-in-Values.ensures.1

pub returns-in_err-push_back-in_default : goal.returns-in_err-push_back-in_default
returns-in_err-push_back-in_default c =
    told_none c.from_residual-in_err-push_back-in_default.result _ c.from_residual-in_err-push_back-in_default.ensures.1

pub returns-in_ok-made-in-Local : goal.returns-in_ok-made-in-Local
returns-in_ok-made-in-Local c = told_to c.give.result _ _
    (λ refused given room. subst
    (λ (r : Row). Answers (text_told c.args.separator.now c.args.marks.now r) room c.give.new.out.items refused)
    (sym c.in-Local.ensures.shape) (given Local
    (together (comment_of (chosen c.args.marks.now (tokens_of c.args.row))) c.args.marks.now (tokens_of c.args.row)) room
    (rw (c.leftmost_comment-one.ensures.token, c.each-marks.ensures) at c.in_ok-made-in-Local.ensures)))
    c.give.ensures

pub returns-in_ok-made-in-Values : goal.returns-in_ok-made-in-Values
returns-in_ok-made-in-Values c = told_to c.give-in-Values.result _ _
    (λ refused given room. subst
    (λ (r : Row). Answers (text_told c.args.separator.now c.args.marks.now r) room c.give-in-Values.new.out.items refused)
    (sym c.in-Values.ensures.shape) (given Values
    (together (data_of c.args.separator.now (chosen c.args.marks.now (tokens_of c.args.row))) c.args.marks.now (tokens_of c.args.row))
    room (rw (c.as_slice-one.ensures, c.in_ok-gather-in-Values.ensures.text, c.each-marks-in-Values.ensures) at c.in_ok-made-in-Values.ensures)))
    c.give-in-Values.ensures

use Rattle.std.proofs.Common.{◌≡◌, ◌∙◌, sym, true, false, ℕ}
use Rattle.std.proofs.lemmas.List.{length-map}
use Rattle.std.specs.Prelude.{IfNone}
use Rattle.std.specs.Str.{bytes_eq}
use Rattle.hum_score.specs.Row.{tokens_of}
use Rattle.hum_score.specs.Spines.{after}
use Rattle.hum_score.specs.Rules.{is_closed}
use Rattle.hum_stage.specs.Decided.{HasStepped}
use Rattle.hum_columns.specs.Following.{Answers, Follows, memory, is_interpretation}
use Rattle.hum_stage.proofs.Telling.{told_to, both_told, told_on, told_none}
use Rattle.hum_columns.proofs.Taking.{wide_still, wide_later, steps_opening, steps_later, refuses_later, interpretation_kind, unless_refused}
use Rattle.hum_cleave.specs.Cleave.{text_told, column_command}
use Rattle.hum_cleave.proofs.Taking.{steps_still}
use Rattle.hum_cleave.proofs.columns.CleaveColumnsDecides.step.Goals as goal

pub give_text-requires-clause-as_wide : goal.give_text-requires-clause-as_wide
give_text-requires-clause-as_wide c =
    let still : is_interpretation c.args.next ≡ false = sym c.is_interpretation.ensures.kind ∙ c.if-not-is_interpretation.true in
    let at = c.requires.score in
    rw c.marks-marks.ensures (wide_still c.args.next at.past at.memory at.score still)

pub returns-then-not-is_interpretation : goal.returns-then-not-is_interpretation
returns-then-not-is_interpretation c =
    let still : is_interpretation c.args.next ≡ false = sym c.is_interpretation.ensures.kind ∙ c.if-not-is_interpretation.true in
    let s = c.args.self.now in
    let follows = Follows (column_command s.options) s.columns in
    let out = c.give_text.new.out.items in
    let given = rw (c.separator-separator.ensures.separator, c.marks-marks.ensures) at c.give_text.ensures in
    told_to c.give_text.result (λ refused. (room : ℕ) → Answers (text_told s.options.separator s.columns.each c.args.next) room out refused)
    (λ refused. HasStepped follows follows c.args.next c.args.room out refused)
    (λ refused answers decide past memory score. steps_still s.options c.args.next past c.args.room out refused memory score still
    (answers c.args.room))
    given

pub returns-then-is_unopened : goal.returns-then-is_unopened
returns-then-is_unopened c =
    let options = c.args.self.now.options in
    let command = column_command options in
    let row = c.args.next in
    let is = interpretation_kind row (sym c.is_interpretation.ensures.kind ∙ c.if-not-is_interpretation.false) in
    let on : is_closed c.args.self.now.columns.path ≡ true = sym c.is_unopened.ensures ∙ c.if-is_unopened.true in
    let out = c.open.new.out.items in
    let new = c.open.new.columns in
    both_told c.open.result (λ refused. (room : ℕ) → Answers (command.opening (tokens_of row)) room out refused)
    (λ refused. IfNone refused (new ≡ memory (after c.args.self.now.columns.path row) (command.choose (tokens_of row))))
    (λ refused. HasStepped (Follows command c.args.self.now.columns) (Follows command new) row c.args.room out refused)
    (λ refused answers marked decide past follows score. steps_opening command row past c.args.room out new refused
    (λ tokens. length-map tokens (bytes_eq options.name)) follows score is on (answers c.args.room) marked)
    c.open.ensures.decided (unless_refused c.open.result _ c.open.ensures.columns)

pub merge-requires : goal.merge-requires
merge-requires c =
    let row = c.args.next in
    let is = interpretation_kind row (sym c.is_interpretation.ensures.kind ∙ c.if-not-is_interpretation.false) in
    let off : is_closed c.args.self.now.columns.path ≡ false = sym c.is_unopened.ensures ∙ c.if-is_unopened.false in
    let at = c.requires.score in
    record {
      kind = is;
      lawful = c.is_interpretation.ensures.lawful;
      empty = c.requires.empty;
      as_wide = rw (c.each.ensures, c.marks.ensures) (wide_later (column_command c.args.self.now.options) row at.past at.memory at.score is off);
    }

pub returns : goal.returns
returns c decide past follows score =
    let command = column_command c.args.self.now.options in
    let row = c.args.next in
    let is = interpretation_kind row (sym c.is_interpretation.ensures.kind ∙ c.if-not-is_interpretation.false) in
    let off : is_closed c.args.self.now.columns.path ≡ false = sym c.is_unopened.ensures ∙ c.if-is_unopened.false in
    let answers = rw (c.each.ensures, c.marks.ensures) at c.in_ok-merge.ensures in
    steps_later command row past c.args.room c.merge.new.out.items c.pass.new.self follows score is off answers
    c.in_ok-pass.ensures.passed c.in_ok-pass.ensures.sources

pub returns-in_err-merge : goal.returns-in_err-merge
returns-in_err-merge c =
    let command = column_command c.args.self.now.options in
    let row = c.args.next in
    let is = interpretation_kind row (sym c.is_interpretation.ensures.kind ∙ c.if-not-is_interpretation.false) in
    let off : is_closed c.args.self.now.columns.path ≡ false = sym c.is_unopened.ensures ∙ c.if-is_unopened.false in
    told_on c.from_residual.result c.in_err-merge.field-0.0 _ _ c.from_residual.ensures.1 c.in_err-merge.ensures
    (λ rule answers decide past follows score. refuses_later command row past c.args.room c.merge.new.out.items rule follows is off
    (rw (c.each.ensures, c.marks.ensures) at answers))

pub returns-in_err-pass : goal.returns-in_err-pass
returns-in_err-pass c = told_none c.from_residual-in_err-pass.result _ c.from_residual-in_err-pass.ensures.1

use Rattle.std.proofs.Common.{◌≡◌, ◌∙◌, sym, ap, true, false, []}
use Rattle.std.specs.Option.{option_to_list}
use Rattle.std.specs.Prelude.{Some, None}
use Rattle.hum_score.specs.Row.{tokens_of}
use Rattle.hum_score.specs.Sign.{steers}
use Rattle.hum_score.specs.Rules.{is_closed}
use Rattle.hum_stage.specs.Limits.{in_room}
use Rattle.hum_columns.specs.Following.{Memory}
use Rattle.hum_columns.proofs.Flags.{opening_wide}
use Rattle.hum_stage.proofs.Telling.{told_on, told_none}
use Rattle.hum_columns.proofs.Taking.{wide_later, steps_opening, steps_later, refuses_later}
use Rattle.hum_extract.specs.Extract.{column_command}
use Rattle.hum_choices.specs.Extract.{choice_of}
use Rattle.hum_extract.proofs.ChosenTokens.{no_first, no_others}
use Rattle.hum_extract.specs.Choice.{opening_flags}
use Rattle.hum_extract.proofs.Taking.{wide_still, gives_still, gives_opening, follows_still, steered_kind, opening_length}
use Rattle.hum_extract.proofs.columns.ExtractColumnsDecides.step.Goals as goal
use Rattle.hum_extract.proofs.columns.ExtractColumnsDecides.step.Goals.{then-asks+else-not-is_unopened+in_ok-open, else-asks}

pub keep-requires-2-clause-as_wide : goal.keep-requires-2-clause-as_wide
keep-requires-2-clause-as_wide c =
    let choice = choice_of c.args.self.now.choice in
    let row = c.args.next in
    let at = c.requires.score in
    elim c.if-asks.branch [
      | then-asks+else-not-is_unopened+in_ok-open w ↦
          let marked : c.selection.result.now ≡ opening_flags choice (tokens_of row) =
          c.selection.ensures ∙ rw w.self-is (ap (λ (m : Memory). m.each) w.in_ok-open.ensures.columns) in
          opening_wide (opening_flags choice) row _ (opening_length choice (tokens_of row)) marked
      | else-asks w ↦
          let still : steers row ≡ false = sym c.asks.ensures.asks ∙ w.if-asks.false in
          rw (c.selection.ensures, w.self-is) (wide_still choice row at.past at.memory at.score c.asks.ensures.lawful still)
    ]

pub returns : goal.returns
returns c =
    let choice = choice_of c.args.self.now.choice in
    let command = column_command choice in
    let row = c.args.next in
    elim c.if-asks.branch [
      | then-asks+else-not-is_unopened+in_ok-open w ↦ λ decide past follows score.
          let is = steered_kind row (sym c.asks.ensures.asks ∙ w.if-asks.true) in
          let on : is_closed c.args.self.now.columns.path ≡ true = sym w.is_unopened.ensures ∙ w.if-not-is_unopened.false in
          let marked : c.selection.result.now ≡ opening_flags choice (tokens_of row) =
          c.selection.ensures ∙ rw w.self-is (ap (λ (m : Memory). m.each) w.in_ok-open.ensures.columns) in
          let given = c.put_if.ensures ∙ c.in_ok-stays.ensures in
          rw w.self-is (steps_opening command row past c.args.room c.put_if.new.out w.open.new.columns None (opening_length choice) follows score is on
          (gives_opening choice row _ c.put_if.new.out is w.in_ok-open.ensures.found marked given) w.in_ok-open.ensures.columns)
      | else-asks w ↦ λ decide past follows score.
          let still : steers row ≡ false = sym c.asks.ensures.asks ∙ w.if-asks.false in
          let given = rw (c.selection.ensures, w.self-is) at (c.put_if.ensures ∙ c.in_ok-stays.ensures) in
          rw w.self-is (
            gives_still choice row past c.put_if.new.out follows score c.asks.ensures.lawful still given,
            follows_still choice row past follows score c.asks.ensures.lawful still,
          )
    ]

pub returns-in_err-open : goal.returns-in_err-open
returns-in_err-open c =
    let choice = choice_of c.args.self.now.choice in
    let command = column_command choice in
    let row = c.args.next in
    let is = steered_kind row (sym c.asks.ensures.asks ∙ c.if-asks.true) in
    let on : is_closed c.args.self.now.columns.path ≡ true = sym c.is_unopened.ensures ∙ c.if-not-is_unopened.false in
    told_on c.from_residual-in_err-open.result c.in_err-open.field-0.0 _ _ c.from_residual-in_err-open.ensures.1 c.in_err-open.ensures.refused
    (λ rule answers decide past follows score. steps_opening command row past c.args.room c.args.out.now c.open.new.columns (Some rule)
    (opening_length choice) follows score is on (ap (in_room c.args.room) answers) tt)

pub cut-requires : goal.cut-requires
cut-requires c =
    let row = c.args.next in
    let is = steered_kind row (sym c.asks.ensures.asks ∙ c.if-asks.true) in
    let off : is_closed c.args.self.now.columns.path ≡ false = sym c.is_unopened.ensures ∙ c.if-not-is_unopened.true in
    let at = c.requires.score in
    record {
      kind = is;
      lawful = c.asks.ensures.lawful;
      empty = no_others c.out.inside.one _ (c.out.view_is ∙ c.requires.empty);
      as_wide = rw (c.each.ensures, c.marks.ensures) (wide_later (column_command (choice_of c.args.self.now.choice)) row at.past at.memory at.score is off);
    }

pub returns-then-not-is_unopened : goal.returns-then-not-is_unopened
returns-then-not-is_unopened c decide past follows score =
    let command = column_command (choice_of c.args.self.now.choice) in
    let row = c.args.next in
    let is = steered_kind row (sym c.asks.ensures.asks ∙ c.if-asks.true) in
    let off : is_closed c.args.self.now.columns.path ≡ false = sym c.is_unopened.ensures ∙ c.if-not-is_unopened.true in
    let answers = rw (c.each.ensures, c.marks.ensures) at c.in_ok-cut.ensures in
    let alone : option_to_list c.out.inside.one ≡ [] = no_first c.out.inside.one _ (c.out.view_is ∙ c.requires.empty) in
    rw alone (steps_later command row past c.args.room c.cut.new.out.items c.pass.new.self follows score is off answers
    c.in_ok-pass.ensures.passed c.in_ok-pass.ensures.sources)

pub returns-in_err-cut : goal.returns-in_err-cut
returns-in_err-cut c =
    let command = column_command (choice_of c.args.self.now.choice) in
    let row = c.args.next in
    let is = steered_kind row (sym c.asks.ensures.asks ∙ c.if-asks.true) in
    let off : is_closed c.args.self.now.columns.path ≡ false = sym c.is_unopened.ensures ∙ c.if-not-is_unopened.true in
    told_on c.from_residual.result c.in_err-cut.field-0.0 _ _ c.from_residual.ensures.1 c.in_err-cut.ensures
    (λ rule answers decide past follows score. refuses_later command row past c.args.room c.cut.new.out.items rule follows is off
    (rw (c.each.ensures, c.marks.ensures) at answers))

pub returns-in_err-pass : goal.returns-in_err-pass
returns-in_err-pass c = told_none c.from_residual-in_err-pass.result _ c.from_residual-in_err-pass.ensures.1

pub returns-in_err-stays : goal.returns-in_err-stays
returns-in_err-stays c = told_none c.from_residual-in_err-stays.result _ c.from_residual-in_err-stays.ensures.1

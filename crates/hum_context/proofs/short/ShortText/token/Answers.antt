use Rattle.std.proofs.Common.{◌∙◌, ◌+◌, sym, take}
use Rattle.hum_context.proofs.Told.{data_is, kept_is, none_behind, says_all}
use Rattle.hum_context.proofs.short.ShortText.token.Goals as goal

pub returns-then-is_data-clause-lawful : goal.returns-then-is_data-clause-lawful
returns-then-is_data-clause-lawful c =
    let text = c.args.self.now in
    let said = take text.len text.bytes in
    let is = kept_is text.bytes text.begin text.len c.if-self.false in
    data_is _ (sym c.is_data.ensures ∙ c.if-is_data.true)
    (rw is (none_behind _ (text.begin + 1) said text.one_token))
    (rw is (none_behind _ (text.begin + 1) said text.one_line))
    (rw is (none_behind _ (text.begin + 1) said text.no_line_end))

pub returns-then-is_data-clause-joined : goal.returns-then-is_data-clause-joined
returns-then-is_data-clause-joined c tokens says =
    let text = c.args.self.now in
    kept_is text.bytes text.begin text.len c.if-self.false
    ∙ says_all text.missing text.begin (take text.len text.bytes) tokens c.if-self-gt0.false says.1
